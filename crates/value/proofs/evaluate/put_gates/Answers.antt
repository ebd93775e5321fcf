use Rattle.std.proofs.Common.{◌≡◌, ◌+◌, ◌<◌, ◌≤◌, length, sym, ap, ◌∙◌, arith}
use Rattle.std.proofs.lemmas.List.{length-take-le, length-drop, length-set}
use Rattle.circuit.specs.Gates.{first_row}
use Rattle.value.specs.Values.{gate_value}
use Rattle.value.proofs.Runs.{gate_within, rows_next, run_more, kept_more, left_more, gates_written}
use Rattle.value.proofs.evaluate.put_gates.Goals as goal

pub split_at-requires : goal.split_at-requires
split_at-requires g c =
    let next = rows_next c.args.gates.now c.loop-i.i c.rows.result _ c.loop-i-test.true c.rows.ensures in
    let long = ap length c.loop-i.invariant.left ∙ length-drop (first_row c.args.gates.now c.loop-i.i) c.args.rows.now in
    omega arith

pub gate_value-requires : goal.gate_value-requires
gate_value-requires g c =
    let p = c.args.n + c.loop-i.i in
    let room : p ≤ length c.loop-i.nets = omega arith in
    (gate_within c.args.n c.args.gates.now c.loop-i.i _ _ c.requires.below c.loop-i-test.true (sym (length-take-le p c.loop-i.nets room)), c.split_at.ensures.front_len ∙ c.rows.ensures)

pub loop-i-preserved : goal.loop-i-preserved
loop-i-preserved g c =
    let nets = c.loop-i.nets in
    let p = c.args.n + c.loop-i.i in
    let q = c.args.n + (c.loop-i.i + 1) in
    let v = c.gate_value.result in
    let next : q ≡ p + 1 = omega arith in
    let room : p < length nets = omega arith in
    record {
      run = run_more g.K.Algebra.ops c.args.rows.now c.loop-i.left.now c.split_at.result.0.now nets p q c.loop-i.i c.rows.result c.args.gates.now _ v _
          c.loop-i-test.true room next c.rows.ensures c.loop-i.invariant.left c.split_at.ensures.front c.gate_value.ensures c.loop-i.invariant.run;
      kept = kept_more nets c.args.nets.now p q v next c.loop-i.invariant.kept;
      left = left_more c.args.rows.now c.loop-i.left.now c.split_at.result.1.now c.loop-i.i c.rows.result c.args.gates.now _
          c.loop-i-test.true c.rows.ensures c.loop-i.invariant.left c.split_at.ensures.back;
      long = length-set nets p v ∙ c.loop-i.invariant.long;
    }

pub returns : goal.returns
returns g c =
    let ops = g.K.Algebra.ops in
    gates_written (gate_value ops c.args.rows.now) ops.falsity c.args.nets.now c.loop-i.nets (first_row c.args.gates.now c.loop-i.i) c.args.n c.loop-i.i c.args.gates.now
    (omega arith) c.loop-i.invariant.run c.loop-i.invariant.kept
