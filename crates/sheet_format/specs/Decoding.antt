-- What bytes say, if they are rows: total functions, whose answer means something where no fault comes before.
use Rattle.std.specs.Prelude.{ℕ, zero, suc, ◌+◌, ◌*◌, cond, List, [], ◌∷◌, map, take, drop, ◌==◌, slice_index}
use Rattle.std.specs.List.{range_with_len}
use Rattle.std.specs.Option.{unwrap_or}
use Rattle.circuit.specs.declared.gate.Inputs.{Inputs}
use Rattle.circuit.specs.declared.gate.Inputs.TheVariants.{One, Two, Three, Four}
use Rattle.circuit.specs.declared.gate.Kind.{Kind}
use Rattle.circuit.specs.declared.gate.Kind.TheVariants.{Unary, Binary, Table}
use Rattle.circuit.specs.declared.gate.Gate.{Gate}
use Rattle.circuit.specs.declared.gate.Gate as gates
use Rattle.circuit.specs.Kinds.{all_kinds, kind_among}
use Rattle.circuit.specs.Gates.{Sheet}
use Rattle.layout.specs.Text.{decoded, blank}

-- row k of a sheet, counted from 0
abbrev pub row_at : List ℕ → ℕ → List ℕ
row_at t k = take 32 (drop (32 * k) t)

abbrev pub letter : List ℕ → ℕ
letter row = slice_index row 0

-- the thirty columns of a row's fields
abbrev pub fields_of : List ℕ → List ℕ
fields_of row = take 30 (drop 1 row)

-- field j, counted from 0, of thirty columns
abbrev pub field : ℕ → List ℕ → List ℕ
field j text = take 5 (drop (5 * j) text)

abbrev pub number : ℕ → List ℕ → ℕ
number j text = decoded (field j text)

-- how many of the first j fields are filled
abbrev pub filled_below : ℕ → List ℕ → ℕ
filled_below zero text = 0
filled_below (suc j) text = filled_below j text + cond (blank (field j text)) 0 1

-- how many fields are filled
abbrev pub filled : List ℕ → ℕ
filled text = filled_below 6 text

-- the numbers of the six fields, 0 for a blank one
abbrev pub numbers : List ℕ → List ℕ
numbers text = number 0 text ∷ number 1 text ∷ number 2 text ∷ number 3 text ∷ number 4 text ∷ number 5 text ∷ []

-- a table's inputs: the numbers after the first of k
abbrev pub inputs_from : ℕ → List ℕ → Inputs
inputs_from k ns =
    cond (k == 2) (One (slice_index ns 1))
    (cond (k == 3) (Two (slice_index ns 1) (slice_index ns 2))
    (cond (k == 4) (Three (slice_index ns 1) (slice_index ns 2) (slice_index ns 3))
    (Four (slice_index ns 1) (slice_index ns 2) (slice_index ns 3) (slice_index ns 4))))

-- the gate of a kind whose row holds k numbers
abbrev pub gate_from : Kind → ℕ → List ℕ → Gate
gate_from (Unary u) k ns = gates.TheVariants.Unary u (slice_index ns 1)
gate_from (Binary o) k ns = gates.TheVariants.Binary o (slice_index ns 1) (slice_index ns 2)
gate_from Table k ns = gates.TheVariants.Table (inputs_from k ns)

-- the kind that a letter names
abbrev pub kind_named : ℕ → Kind
kind_named x = unwrap_or (kind_among all_kinds x) Table

abbrev pub kind_in : List ℕ → Kind
kind_in row = kind_named (letter row)

abbrev pub gate_in : List ℕ → Gate
gate_in row = gate_from (kind_in row) (filled (fields_of row)) (numbers (fields_of row))

-- the numbers of the header
abbrev pub inputs_in : List ℕ → ℕ
inputs_in t = number 0 (fields_of (row_at t 0))

abbrev pub gates_in : List ℕ → ℕ
gates_in t = number 1 (fields_of (row_at t 0))

abbrev pub outputs_in : List ℕ → ℕ
outputs_in t = number 2 (fields_of (row_at t 0))

-- the first k gates
unfoldable pub gates_read : List ℕ → ℕ → List Gate
gates_read t k = map (λ i. gate_in (row_at t (1 + i))) (range_with_len 0 k)

-- the first k outputs, after g gates
unfoldable pub outputs_read : List ℕ → ℕ → ℕ → List ℕ
outputs_read t g k = map (λ j. number 0 (fields_of (row_at t (1 + g + j)))) (range_with_len 0 k)

-- the circuit that the rows say
abbrev pub sheet_in : List ℕ → Sheet
sheet_in t = record {
  inputs = inputs_in t;
  gates = gates_read t (gates_in t);
  outputs = outputs_read t (gates_in t) (outputs_in t);
}
