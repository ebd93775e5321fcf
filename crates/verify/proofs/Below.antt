-- The words that differ, counted one after another, are as many as there are in the list of those that do.
use Rattle.std.proofs.Common.{◌≡◌, ℕ, zero, suc, ◌+◌, ◌-◌, ◌^◌, Bool, true, false, cond, not, [], ◌∷◌, ◌++◌, length, refl, ap, ◌∙◌, arith}
use Rattle.std.specs.Prelude.{filter}
use Rattle.std.specs.List.{range_with_len, sum_by}
use Rattle.std.proofs.lemmas.List.Sums.{length-filter, sum_by_push}
use Rattle.circuit.specs.Gates.{Sheet}
use Rattle.meaning.specs.Meaning.{outputs_at}
use Rattle.matching.specs.Differing.{same, differs, differing_from}
use Rattle.verify.specs.Count.{differing_below}

turned : (b : Bool) (m n : ℕ) → m ≡ n → n + cond (not b) 1 0 ≡ m + cond b 0 1
turned true m n e = omega arith
turned false m n e = omega arith

-- one more word, the last
range_more : (a n j : ℕ) → a + n ≡ j → range_with_len a (suc n) ≡ range_with_len a n ++ j ∷ []
range_more a zero j e = let here : a ≡ j = omega arith in ap (λ x. x ∷ []) here
range_more a (suc n) j e = ap (λ xs. a ∷ xs) (range_more (a + 1) n j (omega arith))

module _ (t s : Sheet) (setting : ℕ) where
  pub differing_below_is : (k : ℕ) → differing_below t s setting k ≡ length (filter (differs t s setting) (range_with_len 0 k))
  differing_below_is zero = refl
  differing_below_is (suc k) =
      let differ = differs t s setting in
      let count : ℕ → ℕ = λ w. cond (differ w) 1 0 in
      let words = range_with_len 0 k in
      let before = differing_below_is k ∙ length-filter differ words in
      let last = turned (same (outputs_at t setting k) (outputs_at s 0 k)) (differing_below t s setting k) (sum_by count words) before in
      let more = length-filter differ (range_with_len 0 (suc k)) ∙ ap (sum_by count) (range_more 0 k k (omega arith)) ∙ sum_by_push count words k in
      omega (arith, last, more)

  -- and so of all input words
  pub differing_below_all : differing_below t s setting (2 ^ t.inputs) ≡ length (differing_from t s setting 0)
  differing_below_all =
      let all : 2 ^ t.inputs ≡ 2 ^ t.inputs - 0 = omega arith in
      differing_below_is (2 ^ t.inputs) ∙ ap (λ k. length (filter (differs t s setting) (range_with_len 0 k))) all
