use Rattle.std.proofs.Common.{◌≡◌, ◌+◌, length, take, drop}
use Rattle.circuit.specs.Gates.{first_row}
use Rattle.meaning.specs.Nets.{nets_from}
use Rattle.value.specs.Values.{gate_value}
use Rattle.value.proofs.evaluate.put_gates.Given as goal

-- the values so far and the gates that are left give the answer, and the rows that are left are theirs
abbrev pub invariant-loop-i : goal.invariant-loop-i
invariant-loop-i g l =
    let ops = g.K.Algebra.ops in
    let first = first_row l.gates l.i in
    record {
      run : nets_from (gate_value ops l.rows) ops.falsity first (take (l.n + l.i) l.nets) (drop l.i l.gates) ≡ nets_from (gate_value ops l.rows) ops.falsity 0 (take l.n l.initial.nets) l.gates;
      kept : drop (l.n + l.i) l.nets ≡ drop (l.n + l.i) l.initial.nets;
      left : l.left ≡ drop first l.rows;
      long : length l.nets ≡ length l.initial.nets;
    }
