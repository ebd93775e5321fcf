-- No test refused, and the search went over the words of the pair under the setting.
use Rattle.std.proofs.Common.{ℕ}
use Rattle.circuit.specs.View.{drawn}
use Rattle.circuit.specs.declared.pair.Pair.{Pair}
use Rattle.matching.specs.Answers.{Lowest}
use Rattle.matching.proofs.Compare.{of_made}
use Rattle.matching.proofs.matching.next_difference.Goals as goal

pub returns : goal.returns
returns c =
    let made = c.in_ok-checked.ensures in
    let told : Pair → ℕ → Type 0 = λ p setting. Lowest (drawn p.target) (drawn p.specification) setting c.args.from c.lowest.result in
    (made.0, of_made told _ c.args.pair.now _ c.args.setting made.1 made.2 c.lowest.ensures)
