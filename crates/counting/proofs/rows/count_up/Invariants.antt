use Rattle.counting.proofs.Order.{Up}
use Rattle.counting.proofs.rows.count_up.Given as goal

abbrev pub invariant-loop-value : goal.invariant-loop-value
invariant-loop-value l = Up l.initial.row l.row l.value-index
