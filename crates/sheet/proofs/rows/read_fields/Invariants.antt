use Rattle.sheet.proofs.Loops.{Midst}
use Rattle.sheet_format.specs.Decoding.{fields_of}
use Rattle.sheet.proofs.rows.read_fields.Given as goal

abbrev pub invariant-loop-j : goal.invariant-loop-j
invariant-loop-j l = Midst l.shape (fields_of l.row) l.fields l.filled l.j
