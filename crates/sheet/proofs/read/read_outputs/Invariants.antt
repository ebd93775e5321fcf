use Rattle.std.proofs.Common.{◌+◌, vec_items, vec_len, vec_capacity}
use Rattle.sheet.proofs.Loops.{Collected}
use Rattle.sheet.proofs.read.read_outputs.Given as goal

abbrev pub invariant-loop-j : goal.invariant-loop-j
invariant-loop-j l = Collected l.fn.header.gates (l.fn.header.inputs + l.fn.header.gates) l.rows (vec_items l.outputs) (vec_len l.outputs) (vec_capacity l.outputs) l.j-counter
