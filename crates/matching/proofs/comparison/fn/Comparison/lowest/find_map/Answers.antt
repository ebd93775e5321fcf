-- The greater of the two numbers is where the block's search begins.
use Rattle.std.proofs.Common.{subst}
use Rattle.matching.specs.Blocks.{LowestInBlock}
use Rattle.matching.specs.Pairs.{of_pair}
use Rattle.matching.proofs.comparison.fn.Comparison.lowest.find_map.Goals as goal

pub returns : goal.returns
returns c =
    let captured = c.captures.self.now in
    subst (λ w. of_pair LowestInBlock captured.pair.now captured.setting w c.lowest_in_block.result) c.max.ensures c.lowest_in_block.ensures
