-- At how many input words a setting differs.
use Rattle.std.specs.Prelude.{◌≡◌, ℕ, zero, suc, ◌+◌, ◌^◌, cond, length, Some, None, Result, MatchResult}
use Rattle.refusal.specs.declared.refusal.Refusal.{Refusal}
use Rattle.circuit.specs.Gates.{Sheet}
use Rattle.meaning.specs.Meaning.{outputs_at}
use Rattle.matching.specs.Answers.{try_refusal}
use Rattle.matching.specs.Differing.{same, differing_from}

-- how many of the words below k give outputs that differ
abbrev pub differing_below : Sheet → Sheet → ℕ → ℕ → ℕ
differing_below t s setting zero = 0
differing_below t s setting (suc k) = differing_below t s setting k + cond (same (outputs_at t setting k) (outputs_at s 0 k)) 0 1

-- refused, or how many of all input words do; these are as many as there are in the list of them
abbrev pub Counted : Sheet → Sheet → ℕ → Result ℕ Refusal → Type 0
Counted t s setting r =
    MatchResult r (λ n. (try_refusal t s setting ≡ None) × (n ≡ differing_below t s setting (2 ^ t.inputs)) × (n ≡ length (differing_from t s setting 0)))
    (λ e. try_refusal t s setting ≡ Some e)
