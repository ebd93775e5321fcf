use Rattle.std.proofs.Common.{◌≡◌}
use Rattle.value.specs.Values.{and_inputs, or_below, row_of}
use Rattle.value.proofs.evaluate.or_rows.Given as goal

-- the or of the rows so far
abbrev pub invariant-loop-number : goal.invariant-loop-number
invariant-loop-number g l =
    let ops = g.K.Algebra.ops in
    l.value ≡ or_below ops (λ r. and_inputs ops (row_of ops l.rows r) r l.inputs) l.number
