-- The values of a circuit's nets over any kind of value, by the kind's operations.
use Rattle.std.specs.Prelude.{◌≡◌, ℕ, zero, suc, ◌+◌, ◌/◌, ◌%◌, ◌^◌, ◌<◌, ◌≤◌, cond, List, [], ◌∷◌, map, length, ◌==◌, slice_index_or}
use Rattle.circuit.specs.declared.gate.Unary.{Unary}
use Rattle.circuit.specs.declared.gate.Unary.TheVariants.{Buffer, Inverter}
use Rattle.circuit.specs.declared.gate.Binary.{Binary}
use Rattle.circuit.specs.declared.gate.Binary.TheVariants.{And, Or, Xor, Nand, Nor, Xnor}
use Rattle.circuit.specs.declared.gate.Kind as kinds
use Rattle.circuit.specs.declared.gate.Kind.{Kind}
use Rattle.circuit.specs.declared.gate.Gate.{Gate}
use Rattle.circuit.specs.Gates.{Sheet, kind_of, nets, first_row, gate_at}
use Rattle.meaning.specs.Nets.{at, nets_from}
use Rattle.value.specs.Ops.{Ops}

-- a gate of one input, from its input's value
abbrev pub unary_value : {K : Type 0} → Ops K → Unary → K → K
unary_value ops Buffer x = x
unary_value ops Inverter x = ops.inverse x

-- a gate of two inputs, from its inputs' values
abbrev pub binary_value : {K : Type 0} → Ops K → Binary → K → K → K
binary_value ops And x y = ops.both x y
binary_value ops Or x y = ops.either x y
binary_value ops Xor x y = ops.differ x y
binary_value ops Nand x y = ops.inverse (ops.both x y)
binary_value ops Nor x y = ops.inverse (ops.either x y)
binary_value ops Xnor x y = ops.inverse (ops.differ x y)

-- an input as a row takes it: inverted where the row number's bit is 0
abbrev pub taken : {K : Type 0} → Ops K → ℕ → K → K
taken ops b x = cond (b == 0) (ops.inverse x) x

-- the and of a row's value and each input, as the row of that number takes it; the first input is the lowest bit
abbrev pub and_inputs : {K : Type 0} → Ops K → K → ℕ → List K → K
and_inputs ops row number [] = row
and_inputs ops row number (x ∷ ins) = and_inputs ops (ops.both row (taken ops (number % 2) x)) (number / 2) ins

-- the or of f 0, f 1 and so on, below n
abbrev pub or_below : {K : Type 0} → Ops K → (ℕ → K) → ℕ → K
or_below ops f zero = ops.falsity
or_below ops f (suc n) = ops.either (or_below ops f n) (f n)

-- a table, from its rows and its inputs' values: the or over its rows of each row's and
abbrev pub table_value : {K : Type 0} → Ops K → (ℕ → K) → List K → K
table_value ops rows ins = or_below ops (λ r. and_inputs ops (rows r) r ins) (2 ^ length ins)

-- a gate's value, from its kind, the setting rows of its own (a table's alone) and its inputs' values
abbrev pub kind_value : {K : Type 0} → Ops K → Kind → (ℕ → K) → List K → K
kind_value ops (kinds.TheVariants.Unary u) rows ins = unary_value ops u (slice_index_or ins 0 ops.falsity)
kind_value ops (kinds.TheVariants.Binary o) rows ins = binary_value ops o (slice_index_or ins 0 ops.falsity) (slice_index_or ins 1 ops.falsity)
kind_value ops kinds.TheVariants.Table rows ins = table_value ops rows ins

-- row r of a list of rows
abbrev pub row_of : {K : Type 0} → Ops K → List K → ℕ → K
row_of ops rows r = slice_index_or rows r ops.falsity

-- the setting rows from `first` on
abbrev pub rows_from : {K : Type 0} → Ops K → List K → ℕ → ℕ → K
rows_from ops rows first r = slice_index_or rows (first + r) ops.falsity

-- a gate's value, from the values of the nets
abbrev pub gate_value : {K : Type 0} → Ops K → List K → ℕ → (ℕ → K) → Gate → K
gate_value ops rows first net g = kind_value ops (kind_of g) (rows_from ops rows first) (map net (nets g))

-- the values of all nets, in order
abbrev pub values : {K : Type 0} → Ops K → Sheet → List K → List K → List K
values ops s rows inputs = nets_from (gate_value ops rows) ops.falsity 0 inputs s.gates

abbrev pub net_count : Sheet → ℕ
net_count s = s.inputs + length s.gates

-- The list begins with the values of all nets: each input net holds its input, and each gate's net the kind's operations
-- applied to its input nets' values.
pub record NetsHold {K : Type 0} (ops : Ops K) (s : Sheet) (rows inputs nets : List K) : Type 0 where
  pub long : net_count s ≤ length nets
  pub input : (k : ℕ) (d : K) → k < s.inputs → slice_index_or nets k d ≡ slice_index_or inputs k d
  pub gate : (i : ℕ) (d : K) → i < length s.gates
      → slice_index_or nets (s.inputs + i) d ≡ gate_value ops rows (first_row s.gates i) (at ops.falsity nets) (gate_at s.gates i)

-- each is one of the nets 1 to n
abbrev pub Within : ℕ → List ℕ → Type 0
Within n [] = Unit {0}
Within n (a ∷ ins) = (1 ≤ a) × (a ≤ n) × Within n ins
