-- The lowest lane that is 1, of those from the word's own lane on, stands for the lowest word that differs.
use Rattle.std.proofs.Common.{rules}
use Rattle.circuit.specs.View.{drawn}
use Rattle.meaning.specs.Meaning.{Matches}
use Rattle.matching.proofs.Trailing.{found_in_block}
use Rattle.matching.proofs.comparison.Comparison.lowest_in_block.Goals as goal

pub returns : goal.returns
returns c =
    let pair = c.args.self.now.pair.now in
    found_in_block (Matches (drawn pair.target) (drawn pair.specification) c.args.self.now.setting) c.args.from c.differing.result c.differing.ensures
    c.then.result c.differing.type_inv c.then.ensures.variant c.then.ensures.some (λ x e. search rules)
