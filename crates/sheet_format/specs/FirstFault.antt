-- The first fault of a sheet and of a pair: every look in its order, and the place of what it finds.
use Rattle.std.specs.Prelude.{ℕ, zero, suc, ◌+◌, ◌*◌, ◌%◌, Bool, true, false, cond, ◌&&◌, ◌||◌, List, [], ◌∷◌, length, drop, is_some, Some, None, Option, ◌==◌, nat_le, nat_lt, slice_index}
use Rattle.std.specs.Option.{option_map}
use Rattle.refusal.specs.declared.refusal.Refusal.TheVariants.{Length, LineFeed, Letter, FieldForm, FieldRange, RowCount, TableBits}
use Rattle.refusal.specs.declared.fault.Fault.{Fault}
use Rattle.refusal.specs.Faults.{fault_at, moved_to_row, moved_to_sheet}
use Rattle.circuit.specs.declared.gate.Kind.{Kind}
use Rattle.circuit.specs.declared.gate.Kind.TheVariants.{Unary, Binary, Table}
use Rattle.circuit.specs.Kinds.{all_kinds, kind_among}
use Rattle.circuit.specs.Gates.{own_rows, total_rows}
use Rattle.layout.specs.declared.shape.Shape.{Shape}
use Rattle.layout.specs.Text.{decoded, blank, numeral}
use Rattle.refusal.specs.declared.role.Role.{Role}
use Rattle.refusal.specs.declared.role.Role.TheVariants.{Alone, Target, Specification}
use Rattle.sheet_format.specs.Rows.{size}
use Rattle.sheet_format.specs.Shapes.{lowest, highest, header_shape, gate_shape, output_shape}
use Rattle.sheet_format.specs.Decoding.{row_at, letter, fields_of, field, filled_below, kind_named, kind_in, gate_in, inputs_in, gates_in, outputs_in, gates_read}

-- the fault, unless the look is passed
abbrev pub unless : Bool → Fault → Option Fault
unless b f = cond b None (Some f)

-- one look after another
abbrev pub or_else : Option Fault → Option Fault → Option Fault
or_else None q = q
or_else (Some f) q = Some f

-- the first fault of some looks in their order
abbrev pub first : List (Option Fault) → Option Fault
first [] = None
first (x ∷ xs) = or_else x (first xs)

-- the first fault of the looks 0 to n - 1
abbrev pub first_below : ℕ → (ℕ → Option Fault) → Option Fault
first_below zero look = None
first_below (suc n) look = or_else (first_below n look) (look n)

abbrev pub at_row : ℕ → Option Fault → Option Fault
at_row k f = option_map (moved_to_row k) f

abbrev pub at_sheet : ℕ → Option Fault → Option Fault
at_sheet k f = option_map (moved_to_sheet k) f

-- Field j holds x, and k of the fields before it are filled. It may be blank where it is not needed, and be filled, with a
-- number in form, where it is allowed and no field before it is blank.
abbrev pub well_formed : Shape → ℕ → ℕ → List ℕ → Bool
well_formed s j k x = cond (blank x) (nat_le s.needed j) (numeral x && (nat_lt j s.allowed && k == j))

-- a filled field's number is in its range
abbrev pub in_range : Shape → ℕ → List ℕ → Bool
in_range s j x = blank x || (nat_le (lowest s j) (decoded x) && nat_le (decoded x) (highest s j))

-- a field's form before its range, at the field's first column
unfoldable pub field_fault : Shape → ℕ → ℕ → List ℕ → Option Fault
field_fault s j k x =
    first (unless (well_formed s j k x) (fault_at FieldForm (2 + 5 * j)) ∷ unless (in_range s j x) (fault_at FieldRange (2 + 5 * j)) ∷ [])

-- each field from the left
abbrev pub fields_fault : Shape → List ℕ → Option Fault
fields_fault s text = first_below 6 (λ j. field_fault s j (filled_below j text) (field j text))

-- the line feed, the letter, then the fields
unfoldable pub row_fault : Bool → Shape → List ℕ → Option Fault
row_fault letter_stands s row =
    first (unless (slice_index row 31 == 10) (fault_at LineFeed 32) ∷ unless letter_stands (fault_at Letter 1) ∷ fields_fault s (fields_of row) ∷ [])

-- a table may not stand in a specification
abbrev pub may_stand : Role → Kind → Bool
may_stand Alone k = true
may_stand Target k = true
may_stand Specification (Unary u) = true
may_stand Specification (Binary o) = true
may_stand Specification Table = false

-- the letter names a kind of gate that may stand there
abbrev pub names_gate : Role → ℕ → Bool
names_gate role x = is_some (kind_among all_kinds x) && may_stand role (kind_named x)

abbrev pub header_fault : List ℕ → Option Fault
header_fault row = row_fault (letter row == 72) header_shape row

-- a gate's row, and last the table bits: `before` of them belong to the gates above
unfoldable pub gate_fault : Role → ℕ → ℕ → List ℕ → Option Fault
gate_fault role own before row =
    first (row_fault (names_gate role (letter row)) (gate_shape own (kind_in row)) row
    ∷ unless (nat_le (before + own_rows (gate_in row)) 64) (fault_at TableBits 1) ∷ [])

abbrev pub output_fault : ℕ → List ℕ → Option Fault
output_fault n row = row_fault (letter row == 81) (output_shape n) row

-- one row at least, and whole rows
abbrev pub whole_rows : List ℕ → Bool
whole_rows t = nat_lt 0 (length t) && length t % 32 == 0

-- A target has at least the rows that its header says, and any other sheet exactly those.
abbrev pub rows_counted : Role → ℕ → ℕ → Bool
rows_counted Alone wanted given = wanted == given
rows_counted Target wanted given = nat_le wanted given
rows_counted Specification wanted given = wanted == given

abbrev pub gates_fault : Role → List ℕ → ℕ → Option Fault
gates_fault role t k =
    first_below k (λ i. at_row (i + 2) (gate_fault role (inputs_in t + i + 1) (total_rows (gates_read t i)) (row_at t (1 + i))))

abbrev pub outputs_fault : List ℕ → ℕ → Option Fault
outputs_fault t k =
    first_below k (λ j. at_row (gates_in t + j + 2) (output_fault (inputs_in t + gates_in t) (row_at t (1 + gates_in t + j))))

-- the length, the header, the row count, then the gates' rows and the outputs' rows in order
unfoldable pub sheet_fault : Role → List ℕ → Option Fault
sheet_fault role t =
    first (unless (whole_rows t) (fault_at Length 0)
    ∷ at_row 1 (header_fault (row_at t 0))
    ∷ at_row 1 (unless (rows_counted role (size (gates_in t) (outputs_in t)) (length t)) (fault_at RowCount 1))
    ∷ gates_fault role t (gates_in t)
    ∷ outputs_fault t (outputs_in t)
    ∷ [])

-- the bytes right after the target's rows
abbrev pub after_target : List ℕ → List ℕ
after_target t = drop (size (gates_in t) (outputs_in t)) t

-- the target first, then the specification from right after it
abbrev pub pair_fault : List ℕ → Option Fault
pair_fault t = or_else (at_sheet 1 (sheet_fault Target t)) (at_sheet 2 (sheet_fault Specification (after_target t)))
