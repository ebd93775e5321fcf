-- What the readers of fields and rows answer where there is no fault.
use Rattle.std.specs.Prelude.{◌≡◌, ℕ, ◌+◌, ◌*◌, map, take, length, slice_index_or, ◌<◌, ◌≤◌, nat_lt, slice_index, cond, List, [], ◌∷◌, Some, None, Option}
use Rattle.refusal.specs.declared.fault.Fault.{Fault}
use Rattle.refusal.specs.declared.role.Role.{Role}
use Rattle.circuit.specs.Gates.{total_rows}
use Rattle.circuit.specs.declared.gate.Kind.{Kind}
use Rattle.circuit.specs.Kinds.{fewest_inputs, most_inputs}
use Rattle.layout.specs.Text.{decoded, blank}
use Rattle.sheet_format.specs.Decoding.{field, number, fields_of, row_at, gate_in}
use Rattle.sheet_format.specs.FirstFault.{first_below, at_row, gate_fault, output_fault}
use Rattle.sheet.specs.declared.parts.Header.{Header}

-- a field's number, if it is filled
abbrev pub field_option : List ℕ → Option ℕ
field_option x = cond (blank x) None (Some (decoded x))

-- what the six fields of thirty columns hold
abbrev pub options : List ℕ → List (Option ℕ)
options text =
    field_option (field 0 text) ∷ field_option (field 1 text) ∷ field_option (field 2 text) ∷ field_option (field 3 text)
    ∷ field_option (field 4 text) ∷ field_option (field 5 text) ∷ []

-- what field j holds, where the first k fields are filled with these numbers
abbrev pub option_at : ℕ → List ℕ → ℕ → Option ℕ
option_at k ns j = cond (nat_lt j k) (Some (slice_index ns j)) None

abbrev pub first_filled : ℕ → List ℕ → List (Option ℕ)
first_filled k ns =
    option_at k ns 0 ∷ option_at k ns 1 ∷ option_at k ns 2 ∷ option_at k ns 3 ∷ option_at k ns 4 ∷ option_at k ns 5 ∷ []

-- the fields of a gate of that kind: the first k are filled, as many as the kind asks for, and each names a net
pub record GateFields (kind : Kind) (k : ℕ) (ns : List ℕ) (fields : List (Option ℕ)) : Type 0 where
  pub filled : fields ≡ first_filled k ns
  pub least : 1 + fewest_inputs kind ≤ k
  pub most : k ≤ 1 + most_inputs kind
  pub nets : (j : ℕ) → j < k → slice_index ns j ≤ 255

-- the header says what its row says, within the format's limits
pub record Headed (row : List ℕ) (h : Header) : Type 0 where
  pub inputs_are : h.inputs ≡ number 0 (fields_of row)
  pub gates_are : h.gates ≡ number 1 (fields_of row)
  pub outputs_are : h.outputs ≡ number 2 (fields_of row)
  pub few_inputs : h.inputs ≤ 16
  pub few_gates : h.gates ≤ 200
  pub few_outputs : h.outputs ≤ 16

-- the rows of a text, row by row
pub record IsRows (text : List ℕ) (rows : List (List ℕ)) : Type 0 where
  pub whole : length text ≡ 32 * length rows
  pub each : (k : ℕ) → k < length rows → slice_index_or rows k [] ≡ row_at text k

-- the first fault of the gates' rows, the first of them row 2 of its sheet, in a circuit of n inputs
abbrev pub gates_fault_in : Role → ℕ → List (List ℕ) → Option Fault
gates_fault_in role n rows =
    first_below (length rows) (λ i. at_row (i + 2) (gate_fault role (n + i + 1) (total_rows (map gate_in (take i rows))) (slice_index_or rows i [])))

-- the first fault of the outputs' rows, below the rows of g gates, in a circuit of n nets
abbrev pub outputs_fault_in : ℕ → ℕ → List (List ℕ) → Option Fault
outputs_fault_in g n rows = first_below (length rows) (λ j. at_row (g + j + 2) (output_fault n (slice_index_or rows j [])))

-- the net that an output's row says
abbrev pub net_in : List ℕ → ℕ
net_in row = number 0 (fields_of row)
