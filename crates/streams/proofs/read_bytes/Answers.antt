use Rattle.std.proofs.Common.{◌≡◌, ℕ, Option, Some, None, List, [], ◌++◌, take, IfSome, subst}
use Rattle.std.specs.Option.{option_map}
use Rattle.streams.specs.Longest.{longest}
use Rattle.streams.proofs.read_bytes.Goals as goal

-- the bytes that were read are the first of those that there were
firsts : (known : Option (List ℕ)) (before after : List ℕ) → before ≡ [] → IfSome (option_map (take longest) known) (λ xs. after ≡ before ++ xs) →
    IfSome known (λ bytes. after ≡ take longest bytes)
firsts None before after e h = h
firsts (Some bytes) before after e h = subst (λ front. after ≡ front ++ take longest bytes) e h

pub returns : goal.returns
returns g c =
    let known = g.R.Read.remaining in
    let start = c.new-bytes.result.items in
    let end = c.read_to_end.new.buf.items in
    let read = c.in_ok-read_to_end.ensures.bytes in
    let limited = subst (λ n. IfSome (option_map (take n) (known c.take.result.inner)) (λ xs. end ≡ start ++ xs)) c.take.ensures.limit read in
    firsts (known c.args.reader) start end c.new-bytes.ensures.items
    (subst (λ r. IfSome (option_map (take longest) (known r)) (λ xs. end ≡ start ++ xs)) c.take.ensures.inner limited)
