use Rattle.std.proofs.Common.{◌≡◌, ◌+◌, Ok, Some, sym, ap, ◌∙◌, rules, of_calls}
use Rattle.std.specs.Result.{is_ok}
use Rattle.std.proofs.lemmas.Result.{err_from_is_err_and, MatchResult-at_ok, MatchResult-at_err}
use Rattle.refusal.specs.Faults.{moved_to_row}
use Rattle.sheet.proofs.Mapped.{was_err}
use Rattle.sheet.proofs.Loops.{gate_more, gate_stopped}
use Rattle.sheet.proofs.read.read_gates.Goals as goal

pub returns-in_err-gate : goal.returns-in_err-gate
returns-in_err-gate c =
    let p = err_from_is_err_and c.from_residual.result c.from_residual.ensures.1 in
    let q = was_err c.read_gate.result (sym c.map_err.ensures.variant ∙ ap is_ok c.in_err-gate.was) in
    let f = q.0 in
    let is = q.1 in
    let made : c.in_err-gate.field-0.0 ≡ moved_to_row (c.loop-i.i-counter + 2) f = search (rules, of_calls) in
    let own = ap (λ n. n + c.loop-i.i-counter + 1) c.from.ensures in
    rw (p.1, p.2)
    (gate_stopped c.args.role c.args.inputs c.args.rows.now _ _ _ c.loop-i.used c.loop-i.i-counter _ c.loop-i.invariant c.loop-i-test.true own f
    (MatchResult-at_err _ _ f is c.read_gate.ensures) ∙ ap Some (sym made))

pub loop-i-preserved : goal.loop-i-preserved
loop-i-preserved c =
    let is : c.read_gate.result ≡ Ok c.in_ok-gate.gate = search (rules, of_calls) in
    let e = MatchResult-at_ok _ _ c.in_ok-gate.gate is c.read_gate.ensures in
    let own = ap (λ n. n + c.loop-i.i-counter + 1) c.from.ensures in
    gate_more c.args.role c.args.inputs c.args.rows.now _ _ _ c.loop-i.used c.loop-i.i-counter _ c.loop-i.invariant c.loop-i-test.true own
    _ c.in_ok-gate.gate _ _ _ e.0 e.1.0 e.1.1 c.rows-used.ensures c.push_reserved.ensures.items c.push_reserved.ensures.len c.push_reserved.ensures.capacity
