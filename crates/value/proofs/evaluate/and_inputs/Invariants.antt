use Rattle.std.proofs.Common.{◌≡◌, ◌≤◌, length, drop}
use Rattle.value.specs.Values.{and_inputs}
use Rattle.value.proofs.evaluate.and_inputs.Given as goal

-- the inputs that are left give the answer
abbrev pub invariant-loop-x : goal.invariant-loop-x
invariant-loop-x g l =
    let ops = g.K.Algebra.ops in
    (l.x-index ≤ length l.inputs)
    × (and_inputs ops l.value l.number (drop l.x-index l.inputs) ≡ and_inputs ops l.fn.row l.fn.number l.inputs)
