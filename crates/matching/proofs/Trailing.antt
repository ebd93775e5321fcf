-- The trailing zeros of a number that is not 0 count the bits below its lowest bit that is 1; so, of the lanes of a block
-- shifted down to a word's own lane, they count the words from there on before the first that differs.
use Rattle.std.proofs.Common.{◌≡◌, ℕ, ◌+◌, ◌-◌, ◌*◌, ◌/◌, ◌%◌, ◌^◌, ◌<◌, ◌≤◌, false, not, eqb, Decides, sym, refl, ap, ◌∙◌, subst, inl, inr, arith}
use Rattle.std.specs.Prelude.{nat_eq, true, Option, Some, None}
use Rattle.std.specs.Option.{MatchOption, IfSome, is_some}
use mir.Syntax.{w64}
use lib.Count.{count_trailing_zeros}
use Rattle.std.specs.Int.{bit_at}
use Rattle.std.proofs.lemmas.Nat.{shr-shr, shr_le}
use Rattle.std.proofs.lemmas.Nat.Bits.{bit_at_above, bit_at-trailing_zeros}
use Rattle.std.proofs.lemmas.Bool.{cases_lt, both_ways, not-true, not-false, eqb-true}
use Rattle.std.proofs.lemmas.Bool.Decides.{Decides-at}
use Rattle.meaning.specs.Meaning.{bit}
use Rattle.value.specs.Words.{bit_zero}

-- a bit of a shifted number
pub bit_shifted : (n k i : ℕ) → bit (n / 2 ^ k) i ≡ bit n (k + i)
bit_shifted n k i = ap (λ x. eqb (x % 2) 1) (shr-shr n k i)

-- lane j of the block tells M of the word 64 * block + j
module _ (M : ℕ → Type 0) (from d : ℕ) (tells : (j : ℕ) → j < 64 → Decides (not (bit d j)) (M (64 * (from / 64) + j))) where
  tells_at : (i : ℕ) → from % 64 + i < 64 → Decides (not (bit (d / 2 ^ (from % 64)) i)) (M (from + i))
  tells_at i small =
      let place : 64 * (from / 64) + (from % 64 + i) ≡ from + i = omega arith in
      Decides-at _ _ (ap not (bit_shifted d (from % 64) i)) (subst (λ w. Decides (not (bit d (from % 64 + i))) (M w)) place (tells (from % 64 + i) small))

  below_at : (i : ℕ) → from % 64 + i < 64 → bit (d / 2 ^ (from % 64)) i ≡ false → M (from + i)
  below_at i small e = (tells_at i small).0 (ap not e)

  pub none_in_block : d / 2 ^ (from % 64) ≡ 0 → (w : ℕ) → from ≤ w → w < 64 * (from / 64) + 64 → M w
  none_in_block e w low high =
      let place : from + (w - from) ≡ w = omega arith in
      subst M place (below_at (w - from) (omega arith) (ap (λ n. bit n (w - from)) e ∙ bit_zero (w - from)))

  pub lowest_in_block : (t : ℕ) → d < 2 ^ 64 → (d / 2 ^ (from % 64) ≡ 0 → ⊥) → t ≡ count_trailing_zeros 64 (d / 2 ^ (from % 64))
      → (from ≤ from + t) × (from + t < 64 * (from / 64) + 64) × (M (from + t) → ⊥) × ((w : ℕ) → from ≤ w → w < from + t → M w)
  lowest_in_block t fits some e =
      let n = d / 2 ^ (from % 64) in
      let lowest = bit_at-trailing_zeros w64 n (omega (arith, some)) (omega (arith, shr_le d (from % 64))) in
      let here = ap (bit_at n) e ∙ lowest.1 in
      let small : from % 64 + t < 64 = elim (cases_lt (from % 64 + t) 64) [
        | inl h ↦ h
        | inr h ↦ let none = bit_at_above d 64 (from % 64 + t) fits h in let one = ap (λ x. x % 2) (sym (shr-shr d (from % 64) t)) ∙ here in absurd (omega arith)
      ] in (
        omega arith,
        omega arith,
        λ m. both_ways (bit n t) (not-true (bit n t) ((tells_at t small).1 m)) (ap (λ x. eqb x 1) here),
        λ w low high.
            let place : from + (w - from) ≡ w = omega arith in
            subst M place (below_at (w - from) (omega arith) (ap (λ x. eqb x 1) (lowest.2 (w - from) (omega arith)))),
      )

  -- so the answer is none where no lane is left, and else the word of the lowest
  pub found_in_block : {P : ℕ → Type 0} (r : Option ℕ) → d < 2 ^ 64 → is_some r ≡ not (nat_eq (d / 2 ^ (from % 64)) 0)
      → IfSome r P → ((x : ℕ) → P x → x ≡ from + count_trailing_zeros 64 (d / 2 ^ (from % 64)))
      → MatchOption r ((w : ℕ) → from ≤ w → w < 64 * (from / 64) + 64 → M w)
      (λ x. (from ≤ x) × (x < 64 * (from / 64) + 64) × (M x → ⊥) × ((w : ℕ) → from ≤ w → w < x → M w))
  found_in_block None fits e h is =
      let zero_lanes : nat_eq (d / 2 ^ (from % 64)) 0 ≡ true = not-false (nat_eq (d / 2 ^ (from % 64)) 0) (sym e) in
      none_in_block (eqb-true (d / 2 ^ (from % 64)) 0 zero_lanes)
  found_in_block (Some x) fits e h is =
      let some_lanes : nat_eq (d / 2 ^ (from % 64)) 0 ≡ false = not-true (nat_eq (d / 2 ^ (from % 64)) 0) (sym e) in
      rw (is x h) (lowest_in_block (count_trailing_zeros 64 (d / 2 ^ (from % 64))) fits (λ z. both_ways (nat_eq (d / 2 ^ (from % 64)) 0) some_lanes (ap (λ n. nat_eq n 0) z)) refl)
