-- Each block's answer tells of its words, so the first that found one found the lowest of all.
use Rattle.std.proofs.Common.{rules, subst}
use Rattle.circuit.specs.View.{drawn}
use Rattle.meaning.specs.Meaning.{Matches}
use Rattle.matching.specs.Blocks.{LowestBelow}
use Rattle.matching.proofs.Search.{found_by}
use Rattle.matching.proofs.comparison.Comparison.lowest.Goals as goal

pub returns : goal.returns
returns c =
    let pair = c.args.self.now.pair.now in
    let t = drawn pair.target in
    let s = drawn pair.specification in
    let setting = c.args.self.now.setting in
    let run = c.find_map.ensures.runs in
    subst (λ end. LowestBelow t s setting c.args.from end c.filter.result) c.words-end.ensures.all
    (found_by (Matches t s setting) c.args.from c.words-end.result c.div_ceil.result run.0 (search rules) (search rules) c.div_ceil.ensures
    c.find_map.result c.filter.result run.2 (search rules) (search rules) (λ x r h. search rules))
