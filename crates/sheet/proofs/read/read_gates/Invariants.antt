use Rattle.std.proofs.Common.{vec_items, vec_len, vec_capacity}
use Rattle.sheet.proofs.Loops.{Gathered}
use Rattle.sheet.proofs.read.read_gates.Given as goal

abbrev pub invariant-loop-i : goal.invariant-loop-i
invariant-loop-i l = Gathered l.role l.inputs l.rows (vec_items l.gates) (vec_len l.gates) (vec_capacity l.gates) l.used l.i-counter
