use Rattle.std.proofs.Common.{◌≡◌, length}
use Rattle.matching.specs.Blocks.{lane_word}
use Rattle.matching.proofs.Runs.{Front}
use Rattle.matching.proofs.lanes.run.Given as goal

-- the rows so far hold the setting's bits
abbrev pub invariant-loop-r : goal.invariant-loop-r
invariant-loop-r l = (length l.row-items ≡ 64) × Front l.row-items l.r (λ j. l.setting)

-- the inputs so far hold the bits of the lanes' words
abbrev pub invariant-loop-i : goal.invariant-loop-i
invariant-loop-i l = (length l.input-items ≡ 16) × Front l.input-items l.i (lane_word l.block)
