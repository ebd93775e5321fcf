-- A field is laid over a blank one; the six places are taken one by one, where each row computes.
use Rattle.std.proofs.Common.{◌≡◌, ℕ, zero, suc, ◌+◌, ◌-◌, ◌*◌, ◌<◌, ◌≤◌, min, List, [], ◌∷◌, length, get_or, take, Some, None, Option, Bor, ap, ◌∙◌, refl, arith, rules, of_calls}
use Rattle.std.specs.Option.{option_copied}
use Rattle.std.specs.Slice.{IsItemAt}
use Rattle.std.proofs.lemmas.List.{length-take, get_or-take}
use borrow.Rule.Slice.PartMut.{put_mid}
use Rattle.layout.specs.Text.{columns, row_text}
use Rattle.layout.proofs.row.row_text.Goals as goal

field_more : (l j : ℕ) (ns : List ℕ) → j < length ns → j < 6
    → put_mid (5 * j + 1) 5 (row_text l (take j ns)) (columns (Some (get_or ns j 0))) ≡ row_text l (take (j + 1) ns)
field_more l zero (a ∷ ns) h m = refl
field_more l (suc zero) (a ∷ b ∷ ns) h m = refl
field_more l (suc (suc zero)) (a ∷ b ∷ c ∷ ns) h m = refl
field_more l (suc (suc (suc zero))) (a ∷ b ∷ c ∷ d ∷ ns) h m = refl
field_more l (suc (suc (suc (suc zero)))) (a ∷ b ∷ c ∷ d ∷ e ∷ ns) h m = refl
field_more l (suc (suc (suc (suc (suc zero))))) (a ∷ b ∷ c ∷ d ∷ e ∷ f ∷ ns) h m = refl
field_more l j ns h m = absurd (omega arith)

six_shown : (l j : ℕ) (ns : List ℕ) → j ≡ min (length ns) 6 → row_text l (take j ns) ≡ row_text l ns
six_shown l j [] e = rw e
six_shown l j (a ∷ []) e = rw e
six_shown l j (a ∷ b ∷ []) e = rw e
six_shown l j (a ∷ b ∷ c ∷ []) e = rw e
six_shown l j (a ∷ b ∷ c ∷ d ∷ []) e = rw e
six_shown l j (a ∷ b ∷ c ∷ d ∷ e ∷ []) p = rw p
six_shown l j (a ∷ b ∷ c ∷ d ∷ e ∷ f ∷ ns) p = let six : j ≡ 6 = omega arith in rw six

-- a number of the list, as it is had by its place
lent : (ns : List ℕ) (j : ℕ) (r : Option (Bor ℕ)) → j < length ns → IsItemAt ns j r → option_copied r ≡ Some (get_or ns j 0)
lent ns j None h l = let no : length ns ≤ j = l.3 in absurd (omega arith)
lent ns j (Some x) h l = let j_j : j ≤ j = omega arith in ap Some (l.4 j_j 0)

pub loop-j-preserved : goal.loop-j-preserved
loop-j-preserved c =
    let ns = c.args.numbers.now in
    let j = c.loop-j.j in
    let shown = length-take c.min.result ns in
    let five : 5 * j + 6 - (5 * j + 1) ≡ 5 = omega arith in
    let here : j < length ns = omega arith in
    let number : get_or (take c.min.result ns) j 0 ≡ get_or ns j 0 = get_or-take c.min.result ns j 0 (omega arith) in
    let laid : c.copy_from_slice.new.self ≡ columns (Some (get_or ns j 0)) = search (rules, of_calls, number, lent) in
    rw (five, laid, c.loop-j.invariant) (field_more c.args.letter j ns here (omega arith))

pub returns : goal.returns
returns c =
    let shown = length-take c.min.result c.args.numbers.now in
    c.loop-j.invariant ∙ six_shown c.args.letter c.loop-j.j c.args.numbers.now (omega arith)
