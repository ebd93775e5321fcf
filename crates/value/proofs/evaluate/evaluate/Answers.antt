use Rattle.std.proofs.Common.{◌≡◌, ◌-◌, ◌≤◌, length, vec_items, ap, ◌∙◌, arith}
use Rattle.circuit.specs.View.{drawn}
use Rattle.value.specs.Values.{gate_value, net_count}
use Rattle.value.proofs.Completions.{lanes_right}
use Rattle.value.proofs.Held.{nets_hold}
use Rattle.value.proofs.Outcomes.{Done, went_well}
use Rattle.value.proofs.Runs.{both_written}
use Rattle.value.proofs.evaluate.evaluate.Goals as goal

pub returns : goal.returns
returns g c =
    let ops = g.K.Algebra.ops in
    let circuit = c.args.circuit.now in
    let rows = c.args.rows.now in
    let inputs = c.args.inputs.now in
    let before = c.args.nets.now in
    let after = c.put_gates.new.nets in
    let gates = c.as_slice-gates.ensures.value in
    let long = ap length gates in
    let room : net_count (drawn circuit) ≤ length before = omega arith in
    let n = circuit.inputs in
    let whole : n - 0 ≡ n = omega arith in
    let all : length inputs ≡ n = c.if-inputs-n.false in
    let well : Done ops (drawn circuit) rows inputs before after = record {
      room = room;
      rows_are = c.if-rows.false ∙ c.rows.ensures;
      inputs_are = all;
      filled = both_written (gate_value ops rows) ops.falsity inputs before c.copy_from_slice.new.self after
          n (n - 0) c.as_slice-gates.result.now (vec_items circuit.gates) whole all c.copy_from_slice.ensures.after gates c.put_gates.ensures;
    } in
    record {
      exact = went_well ops (drawn circuit) rows inputs before after well;
      holds = λ e. nets_hold ops (drawn circuit) rows inputs before after circuit.below well;
      lanes = λ lanes lane laws e. lanes_right ops lanes lane laws (drawn circuit) rows inputs before after well;
    }
