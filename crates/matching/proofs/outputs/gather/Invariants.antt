use Rattle.std.proofs.Common.{◌≡◌, ◌^◌, ◌<◌, map, take}
use Rattle.matching.specs.Answers.{as_number}
use Rattle.matching.specs.Blocks.{net_bit}
use Rattle.matching.proofs.outputs.gather.Given as goal

-- the outputs before i, as one number
abbrev pub invariant-loop-i : goal.invariant-loop-i
invariant-loop-i l = (l.number ≡ as_number (map (net_bit l.nets l.j) (take l.i l.outputs))) × (l.number < 2 ^ l.i)
