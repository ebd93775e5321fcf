-- The input words at which the outputs of target and specification differ.
use Rattle.std.specs.Prelude.{◌≡◌, ℕ, ◌-◌, ◌^◌, Bool, true, false, cond, not, ◌&&◌, List, [], ◌∷◌, filter, Some, None, Result, MatchResult}
use Rattle.std.specs.List.{range_with_len}
use Rattle.circuit.specs.Gates.{Sheet}
use Rattle.circuit.specs.View.{drawn}
use Rattle.refusal.specs.declared.refusal.Refusal.{Refusal}
use Rattle.matching.specs.Answers.{try_refusal}
use Rattle.meaning.specs.Meaning.{outputs_at}
use Rattle.matching.specs.declared.differing.DifferingWords.{DifferingWords}

-- the two lists of bits are equal
abbrev pub same : List Bool → List Bool → Bool
same [] [] = true
same [] (b ∷ ys) = false
same (a ∷ xs) [] = false
same (a ∷ xs) (b ∷ ys) = cond a b (not b) && same xs ys

-- the outputs differ at the word
abbrev pub differs : Sheet → Sheet → ℕ → ℕ → Bool
differs t s setting word = not (same (outputs_at t setting word) (outputs_at s 0 word))

-- the input words from `from` on at which they do, lowest first
abbrev pub differing_from : Sheet → Sheet → ℕ → ℕ → List ℕ
differing_from t s setting from = filter (differs t s setting) (range_with_len from (2 ^ t.inputs - from))

-- the words that are still to come
abbrev pub words_left : DifferingWords → List ℕ
words_left d = differing_from (drawn d.comparison.pair.now.target) (drawn d.comparison.pair.now.specification) d.comparison.setting d.from

-- refused, or all words at which they do are still to come
abbrev pub Listed : Sheet → Sheet → ℕ → Result DifferingWords Refusal → Type 0
Listed t s setting r =
    MatchResult r (λ d. (try_refusal t s setting ≡ None) × (words_left d ≡ differing_from t s setting 0)) (λ e. try_refusal t s setting ≡ Some e)
