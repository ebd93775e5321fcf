-- The trail and the open variables together are all variables, so a trail is full exactly where none is open.
use Rattle.std.proofs.Common.{◌≡◌, ℕ, zero, suc, ◌+◌, ◌-◌, ◌<◌, ◌≤◌, Bool, true, false, [], ◌∷◌, length, get_or, take, set, replicate, Some, None, sym, refl, ap, ◌∙◌, add-one, arith, length-set}
use lib.ListN.{length-replicate}
use Rattle.std.proofs.lemmas.List.{take_more, take_all}
use Rattle.clause.specs.Logic.{outside}
use Rattle.clause.proofs.Inside.{within}
use Rattle.trail.specs.Cells.{empty_entry}
use Rattle.trail.specs.Values.{Values, value_so_far, assign}
use Rattle.trail.specs.Trail.{Trail, after, written, Fresh, entry_at, literal_at}
use Rattle.trail.proofs.Fitting.{written_push, no_some}

-- how many variables are open
abbrev opens : Values → ℕ
opens [] = 0
opens (None ∷ vs) = suc (opens vs)
opens (Some b ∷ vs) = opens vs

opens_open : (v : ℕ) → opens (replicate v None) ≡ v
opens_open zero = refl
opens_open (suc v) = ap suc (opens_open v)

opens_set : (vs : Values) (i : ℕ) (b : Bool) → i < length vs → get_or vs i None ≡ None → opens (set vs i (Some b)) + 1 ≡ opens vs
opens_set [] i b h e = absurd (omega arith)
opens_set (None ∷ vs) zero b h e = add-one (opens vs)
opens_set (Some a ∷ vs) zero b h e = absurd (no_some _ a e refl)
opens_set (None ∷ vs) (suc i) b h e = omega (arith, opens_set vs i b (omega arith) e)
opens_set (Some a ∷ vs) (suc i) b h e = opens_set vs i b (omega arith) e

length_after : (vs : Values) (t : Trail) → length (after vs t) ≡ length vs
length_after vs [] = refl
length_after vs (e ∷ t) = length_after (assign vs e.literal) t ∙ length-set vs (e.literal.variable - 1) _

pub length_written : (v : ℕ) (t : Trail) → length (written v t) ≡ v
length_written v t = length_after (replicate v None) t ∙ length-replicate v None

-- what the values are one position further
pub written_more : (v : ℕ) (t : Trail) (k : ℕ) → k < length t → written v (take (k + 1) t) ≡ assign (written v (take k t)) (literal_at t k)
written_more v t k h = ap (written v) (take_more t k empty_entry h) ∙ written_push v (take k t) (entry_at t k)

counted : (v : ℕ) (t : Trail) (n : ℕ) → n ≤ length t → Fresh v t → n + opens (written v (take n t)) ≡ v
counted v t zero h f = omega (arith, opens_open v)
counted v t (suc n) h f =
    let fr = f n (omega arith) in
    let w = within v (literal_at t n).variable fr.0 in
    let long = length_written v (take n t) in
    let one : opens (assign (written v (take n t)) (literal_at t n)) + 1 ≡ opens (written v (take n t)) = opens_set (written v (take n t)) ((literal_at t n).variable - 1) _ (omega (arith, w.low, w.high)) fr.1 in
    let more : opens (written v (take (suc n) t)) ≡ opens (assign (written v (take n t)) (literal_at t n)) = ap (λ k. opens (written v (take k t))) (sym (add-one n)) ∙ ap opens (written_more v t n (omega arith)) in
    omega (arith, counted v t n (omega arith) f)

-- where a variable is open the trail is not full
pub room : (v : ℕ) (t : Trail) (x : ℕ) → Fresh v t → outside v x ≡ false → value_so_far (written v t) x ≡ None → length t < v
room v t x f o e =
    let w = within v x o in
    let one = opens_set (written v t) (x - 1) true (omega (arith, length_written v t, w.low, w.high)) e in
    let all : opens (written v (take (length t) t)) ≡ opens (written v t) = ap (λ y. opens (written v y)) (take_all (length t) t (omega arith)) in
    omega (arith, counted v t (length t) (omega arith) f)
