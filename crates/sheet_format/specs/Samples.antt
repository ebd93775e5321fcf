-- Worked examples of the definitions.
use Rattle.std.specs.Prelude.{◌≡◌, List, [], ◌∷◌, ◌++◌, Some, None, Ok, Err, codes}
use Rattle.refusal.specs.declared.refusal.Refusal.TheVariants.{FieldForm, FieldRange, TableBits}
use Rattle.refusal.specs.Faults.{fault_at, moved_to_row}
use Rattle.circuit.specs.declared.gate.Inputs.TheVariants.{One, Four}
use Rattle.circuit.specs.declared.gate.Gate.{Gate}
use Rattle.circuit.specs.declared.gate.Gate.TheVariants.{Table}
use Rattle.circuit.specs.Gates.{Sheet}
use Rattle.layout.specs.Text.{field_value, row_text}
use Rattle.refusal.specs.declared.role.Role.TheVariants.{Alone}
use Rattle.sheet_format.specs.Rows.{rows}
use Rattle.sheet_format.specs.FirstFault.{output_fault, gate_fault, sheet_fault}

abbrev pub four_tables : List Gate
four_tables = Table (Four 1 2 3 4) ∷ Table (Four 1 2 3 4) ∷ Table (Four 1 2 3 4) ∷ Table (Four 1 2 3 4) ∷ []

abbrev pub drawn_with : List Gate → Sheet
drawn_with gates = record { inputs = 4; gates = gates; outputs = 5 ∷ [] }

pub record Samples : Type 0 where
  -- a field with a number, and one with a leading zero
  pub seven : field_value (codes "    7") ≡ Ok (Some 7)
  pub zero_led : field_value (codes "   07") ≡ Err FieldForm
  pub zero : field_value (codes "    0") ≡ Ok (Some 0)
  -- there is no net 0: as an output, and as an input of an inverter on net 3
  pub no_output : output_fault 2 (row_text 81 (0 ∷ [])) ≡ Some (fault_at FieldRange 2)
  pub no_input : gate_fault Alone 3 0 (row_text 73 (3 ∷ 0 ∷ [])) ≡ Some (fault_at FieldRange 7)
  -- four tables of four inputs fill the setting; one more table of one input is too many, in the row after them
  pub full : sheet_fault Alone (rows (drawn_with four_tables)) ≡ None
  pub over_full : sheet_fault Alone (rows (drawn_with (four_tables ++ Table (One 1) ∷ []))) ≡ Some (moved_to_row 6 (fault_at TableBits 1))
