-- The words that differ, one after another: where none is left none comes, and the lowest that is left comes first.
use Rattle.std.proofs.Common.{◌≡◌, ℕ, zero, suc, ◌+◌, ◌-◌, ◌<◌, ◌≤◌, Bool, true, false, cond, not, List, [], ◌∷◌, refl, ap, ◌∙◌, inl, inr, arith}
use Rattle.std.specs.Prelude.{filter}
use Rattle.std.specs.List.{range_with_len}
use Rattle.std.proofs.lemmas.Bool.{cases_eq}
use Rattle.circuit.specs.Gates.{Sheet}
use Rattle.meaning.specs.Meaning.{outputs_at, Matches}
use Rattle.matching.specs.Differing.{same, differs}

same_refl : (a : List Bool) → same a a ≡ true
same_refl [] = refl
same_refl (true ∷ a) = same_refl a
same_refl (false ∷ a) = same_refl a

same_equal : (a b : List Bool) → same a b ≡ true → a ≡ b
same_equal [] [] e = refl
same_equal [] (b ∷ ys) e = cc
same_equal (a ∷ xs) [] e = cc
same_equal (true ∷ xs) (true ∷ ys) e = ap (λ x. true ∷ x) (same_equal xs ys e)
same_equal (true ∷ xs) (false ∷ ys) e = cc
same_equal (false ∷ xs) (true ∷ ys) e = cc
same_equal (false ∷ xs) (false ∷ ys) e = ap (λ x. false ∷ x) (same_equal xs ys e)

not_same : (b : Bool) → (b ≡ true → ⊥) → not b ≡ true
not_same true h = absurd (h refl)
not_same false h = refl

module _ (t s : Sheet) (setting : ℕ) where
  -- where the outputs match
  pub matches_same : (w : ℕ) → Matches t s setting w → differs t s setting w ≡ false
  matches_same w m = ap (λ x. not (same x (outputs_at s 0 w))) m ∙ ap not (same_refl (outputs_at s 0 w))

  -- and where they do not
  pub differs_where : (w : ℕ) → (Matches t s setting w → ⊥) → differs t s setting w ≡ true
  differs_where w h = not_same (same (outputs_at t setting w) (outputs_at s 0 w)) (λ e. h (same_equal (outputs_at t setting w) (outputs_at s 0 w) e))

  pub none_left : (from n : ℕ) → ((w : ℕ) → from ≤ w → w < from + n → Matches t s setting w) → filter (differs t s setting) (range_with_len from n) ≡ []
  none_left from zero h = refl
  none_left from (suc n) h =
      let here = matches_same from (h from (omega arith) (omega arith)) in
      ap (λ b. cond b (from ∷ filter (differs t s setting) (range_with_len (from + 1) n)) (filter (differs t s setting) (range_with_len (from + 1) n))) here
      ∙ none_left (from + 1) n (λ w low high. h w (omega arith) (omega arith))

  pub next_left : (from n x m : ℕ) → from ≤ x → x < from + n → (Matches t s setting x → ⊥) → ((w : ℕ) → from ≤ w → w < x → Matches t s setting w) → m ≡ from + n - (x + 1)
      → filter (differs t s setting) (range_with_len from n) ≡ x ∷ filter (differs t s setting) (range_with_len (x + 1) m)
  next_left from zero x m low high unlike below e = absurd (omega arith)
  next_left from (suc n) x m low high unlike below e =
      elim (cases_eq from x) [
        | inl first ↦
            let here : differs t s setting from ≡ true = ap (differs t s setting) first ∙ differs_where x unlike in
            let rest : n ≡ m = omega arith in
            ap (λ b. cond b (from ∷ filter (differs t s setting) (range_with_len (from + 1) n)) (filter (differs t s setting) (range_with_len (from + 1) n))) here
            ∙ ap (λ a. a ∷ filter (differs t s setting) (range_with_len (a + 1) n)) first
            ∙ ap (λ k. x ∷ filter (differs t s setting) (range_with_len (x + 1) k)) rest
        | inr other ↦
            let past : from < x = omega (arith, other) in
            let here = matches_same from (below from (omega arith) past) in
            ap (λ b. cond b (from ∷ filter (differs t s setting) (range_with_len (from + 1) n)) (filter (differs t s setting) (range_with_len (from + 1) n))) here
            ∙ next_left (from + 1) n x m (omega arith) (omega arith) unlike (λ w l h. below w (omega arith) h) (omega arith)
      ]
