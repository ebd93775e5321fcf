-- The lanes of both runs hold the outputs, so comparing the lanes compares the outputs.
use Rattle.circuit.specs.View.{drawn}
use Rattle.matching.proofs.Compare.{lanes_compared}
use Rattle.matching.proofs.comparison.Comparison.differing.Goals as goal

pub returns : goal.returns
returns c =
    let t = c.args.self.now.pair.now.target in
    let s = c.args.self.now.pair.now.specification in
    lanes_compared (drawn t) (drawn s) c.args.self.now.setting c.args.block c.unequal.result c.run.new.nets c.run-2.new.nets c.as_slice.result.now c.as_slice-2.result.now
    t.driven s.driven c.run.ensures c.run-2.ensures c.as_slice.ensures.value c.as_slice-2.ensures.value c.unequal.ensures
