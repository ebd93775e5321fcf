-- The lowest word that is left comes, and where none is left, none.
use Rattle.std.proofs.Common.{◌≡◌, ◌+◌, ◌-◌, ◌^◌, [], length, ap, rules, arith}
use Rattle.circuit.specs.View.{drawn}
use Rattle.matching.specs.Differing.{words_left}
use Rattle.matching.proofs.Left.{none_left, next_left}
use Rattle.matching.proofs.differing.DifferingWordsIterator.next.Goals as goal

pub returns-in_err-word-clause-steps : goal.returns-in_err-word-clause-steps
returns-in_err-word-clause-steps c =
    let d = c.args.self.now in
    let pair = d.comparison.pair.now in
    let none = c.in_err-word.ensures in
    let empty : words_left d ≡ [] = none_left (drawn pair.target) (drawn pair.specification) d.comparison.setting d.from (2 ^ pair.target.inputs - d.from)
    (λ w low high. none w low (omega arith)) in
    rw c.from_residual.ensures (empty, empty)

pub returns-clause-steps : goal.returns-clause-steps
returns-clause-steps c =
    let d = c.args.self.now in
    let pair = d.comparison.pair.now in
    let first = c.in_ok-word.ensures in
    let high = first.1 in
    next_left (drawn pair.target) (drawn pair.specification) d.comparison.setting d.from (2 ^ pair.target.inputs - d.from) c.in_ok-word.word (2 ^ pair.target.inputs - (c.in_ok-word.word + 1))
    first.0 (omega arith) first.2 first.3 (omega arith)

pub returns-clause-goes : goal.returns-clause-goes
returns-clause-goes c = let fewer = ap length (returns-clause-steps c) in search rules
