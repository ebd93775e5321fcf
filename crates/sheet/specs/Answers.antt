-- What reading answers.
use Rattle.std.specs.Prelude.{◌≡◌, ℕ, ◌⊎◌, List, Some, None, Err, Result, MatchResult, ◌≢◌}
use Rattle.refusal.specs.declared.refusal.Refusal.TheVariants.{NoMemory}
use Rattle.refusal.specs.declared.fault.Fault.{Fault}
use Rattle.refusal.specs.Faults.{fault_at}
use Rattle.circuit.specs.declared.circuit.Circuit.{Circuit}
use Rattle.circuit.specs.declared.pair.Pair.{Pair}
use Rattle.circuit.specs.Gates.{Sheet, Lawful, Plain}
use Rattle.circuit.specs.View.{drawn}
use Rattle.refusal.specs.declared.role.Role.TheVariants.{Alone}
use Rattle.sheet_format.specs.Rows.{rows, pair_rows}
use Rattle.sheet_format.specs.FirstFault.{sheet_fault, pair_fault}
use Rattle.sheet_format.specs.Laws.{RowsOf, PairOf}

-- Bytes without a fault are the rows of the circuit that is answered, and of no other lawful one.
-- Else the first fault is answered, and the bytes are the rows of no lawful circuit.
abbrev pub SheetRead : List ℕ → Result Circuit Fault → Type 0
SheetRead t r =
    MatchResult r (λ c. (sheet_fault Alone t ≡ None) × RowsOf (drawn c) t)
    (λ f. (sheet_fault Alone t ≡ Some f) × ((s : Sheet) → Lawful s → t ≢ rows s))

-- the same of a pair
abbrev pub PairRead : List ℕ → Result Pair Fault → Type 0
PairRead t r =
    MatchResult r (λ p. (pair_fault t ≡ None) × PairOf (drawn p.target) (drawn p.specification) t)
    (λ f. (pair_fault t ≡ Some f) × ((x y : Sheet) → Lawful x → Lawful y → Plain y → t ≢ pair_rows x y))

-- the same where the memory is made by the call: want of it is a fault of no sheet, and else the bytes decide
abbrev pub PairLoaded : List ℕ → Result Pair Fault → Type 0
PairLoaded t r = PairRead t r ⊎ (r ≡ Err (fault_at NoMemory 0))
