-- Each example computes.
use Rattle.std.proofs.Common.{refl}
use Rattle.sheet_format.specs.Rows.{rows}
use Rattle.sheet_format.specs.Decoding.{gates_read, outputs_read}
use Rattle.sheet_format.specs.FirstFault.{field_fault, row_fault, gate_fault, sheet_fault}
use Rattle.sheet_format.specs.Samples.{Samples}
use Rattle.sheet_format.proofs.laws.samples_hold.Goals as goal

samples : Samples
unfolding rows gates_read outputs_read field_fault row_fault gate_fault sheet_fault
samples = record { seven = refl; zero_led = refl; zero = refl; no_output = refl; no_input = refl; full = refl; over_full = refl }

pub returns : goal.returns
returns c = samples
