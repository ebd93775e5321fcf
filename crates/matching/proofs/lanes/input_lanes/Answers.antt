-- The masks list the bits below 6 of every lane's word, and the others are the block's.
use Rattle.std.proofs.Common.{sym, ◌∙◌}
use Rattle.matching.proofs.Masks.{masks_count, low_input, high_input}
use Rattle.matching.proofs.lanes.input_lanes.Goals as goal

pub returns-then-i-lt6 : goal.returns-then-i-lt6
returns-then-i-lt6 c j h = masks_count c.args.i c.if-i-lt6.true j h ∙ sym (low_input c.args.block j c.args.i h c.if-i-lt6.true)

pub returns-else-i-lt6 : goal.returns-else-i-lt6
returns-else-i-lt6 c j h = c.from.ensures j h ∙ c.bit_of.ensures ∙ sym (high_input c.args.block j c.args.i h c.if-i-lt6.false)
