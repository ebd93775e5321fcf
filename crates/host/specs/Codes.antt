-- What the host's calls answer, as numbers.
use Rattle.std.specs.Prelude.{◌≡◌, ℕ, ◌⊎◌, List, MatchOption}
use Rattle.refusal.specs.declared.refusal.Refusal.TheVariants.{NoMemory}
use Rattle.refusal.specs.Numbers.{number_of}
use Rattle.circuit.specs.Gates.{Sheet}
use Rattle.meaning.specs.Meaning.{Matches}
use Rattle.sheet_format.specs.FirstFault.{pair_fault}
use Rattle.sheet_format.specs.Laws.{PairOf}
use Rattle.matching.specs.Answers.{match_refusal}

-- there is no memory; else 0 without a fault, or the first fault's number
abbrev pub ReadCode : List ℕ → ℕ → Type 0
ReadCode t r = (r ≡ number_of NoMemory) ⊎ MatchOption (pair_fault t) (r ≡ 0) (λ f. r ≡ number_of f.refusal)

-- of two circuits: the refusal's number, else 100 where they match and 101 where they do not
abbrev pub Compared : Sheet → Sheet → ℕ → ℕ → ℕ → Type 0
Compared x y setting word r =
    MatchOption (match_refusal x y setting word) ((Matches x y setting word → r ≡ 100) × ((Matches x y setting word → ⊥) → r ≡ 101)) (λ e. r ≡ number_of e)

-- there is no memory; else the first fault's number, or what the pair's two circuits give
abbrev pub MatchCode : List ℕ → ℕ → ℕ → ℕ → Type 0
MatchCode t setting word r =
    (r ≡ number_of NoMemory)
    ⊎ MatchOption (pair_fault t) ((x y : Sheet) → PairOf x y t → Compared x y setting word r) (λ f. r ≡ number_of f.refusal)
