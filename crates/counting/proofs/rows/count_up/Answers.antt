use Rattle.std.proofs.Common.{◌≡◌, false, get_or, set, ap, ◌∙◌, arith, rules, tests}
use Rattle.counting.proofs.Order.{up_ends}
use Rattle.counting.proofs.rows.count_up.Goals as goal

pub returns-then-value-clause-after : goal.returns-then-value-clause-after
returns-then-value-clause-after c =
    let row = c.loop-value.row in
    let i = c.loop-value.value-index in
    let low : get_or row i false ≡ false = search (rules, tests) in
    ap (set row i) c.if-value.true ∙ (up_ends c.args.row.now row i (omega arith) low c.loop-value.invariant).1
