-- Worked examples of what circuits compute and of matching.
use Rattle.std.specs.Prelude.{◌≡◌, ℕ, ◌+◌, ◌<◌, true, false, [], ◌∷◌}
use Rattle.circuit.specs.declared.gate.Unary.TheVariants.{Inverter}
use Rattle.circuit.specs.declared.gate.Binary.TheVariants.{And, Xor}
use Rattle.circuit.specs.declared.gate.Inputs.TheVariants.{One, Two}
use Rattle.circuit.specs.declared.gate.Gate.{Gate}
use Rattle.circuit.specs.declared.gate.Gate.TheVariants.{Unary, Binary, Table}
use Rattle.circuit.specs.Gates.{Sheet}
use Rattle.meaning.specs.Meaning.{outputs_at, Matches}
use Rattle.value.specs.declared.ternary.Ternary as ternary
use Rattle.value.specs.declared.ternary.Ternary.TheVariants.{Zero, Unknown}
use Rattle.value.specs.Kinds.{ternary_ops}
use Rattle.matching.specs.Answers.{as_number}

-- a circuit of n inputs and one gate, which drives the only output
abbrev pub of_gate : ℕ → Gate → Sheet
of_gate n g = record { inputs = n; gates = g ∷ []; outputs = (n + 1) ∷ [] }

abbrev pub exclusive_or : Sheet
exclusive_or = of_gate 2 (Binary Xor 1 2)

abbrev pub table_of_both : Sheet
table_of_both = of_gate 2 (Table (Two 1 2))

-- a table that reads the first input alone, of two or of one
abbrev pub table_of_first : ℕ → Sheet
table_of_first n = of_gate n (Table (One 1))

abbrev pub and_of_both : Sheet
and_of_both = of_gate 2 (Binary And 1 2)

abbrev pub inverter : Sheet
inverter = of_gate 1 (Unary Inverter 1)

-- the setting matches at every input word below `end`
abbrev pub MatchesBelow : Sheet → Sheet → ℕ → ℕ → Type 0
MatchesBelow t s end setting = (word : ℕ) → word < end → Matches t s setting word

pub record Samples : Type 0 where
  -- both inputs 1
  pub exclusive : outputs_at exclusive_or 0 3 ≡ false ∷ []
  -- of the setting 8, row 3 alone is 1
  pub row_three : outputs_at table_of_both 8 3 ≡ true ∷ []
  pub row_one : outputs_at table_of_both 8 1 ≡ false ∷ []
  -- the first output is the lowest bit
  pub lowest_first : as_number (true ∷ false ∷ false ∷ []) ≡ 1
  pub unknown_and_zero : ternary_ops.both Unknown Zero ≡ Zero
  pub unknown_and_one : ternary_ops.both Unknown ternary.TheVariants.One ≡ Unknown
  -- the first input is the same at the words 1 and 3, and the and is not: so no setting matches everywhere
  pub never : (setting : ℕ) → setting < 4 → Matches (table_of_first 2) and_of_both setting 1 → Matches (table_of_first 2) and_of_both setting 3 → ⊥
  pub nowhere : (setting : ℕ) → setting < 4 → MatchesBelow (table_of_first 2) and_of_both 4 setting → ⊥
  -- one setting makes the table an inverter
  pub inverts : MatchesBelow (table_of_first 1) inverter 2 1
  pub alone : (setting : ℕ) → setting < 4 → MatchesBelow (table_of_first 1) inverter 2 setting → setting ≡ 1
