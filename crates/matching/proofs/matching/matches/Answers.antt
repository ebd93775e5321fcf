-- No test refused, and the word's own lane tells whether the outputs are equal.
use Rattle.std.proofs.Common.{◌≡◌, ◌+◌, ◌*◌, ◌/◌, ◌%◌, ℕ, not, Decides, ap, ◌∙◌, subst, arith}
use Rattle.std.proofs.lemmas.Bool.{cond-true}
use Rattle.std.proofs.lemmas.Bool.Decides.{Decides-at}
use Rattle.circuit.specs.View.{drawn}
use Rattle.circuit.specs.declared.pair.Pair.{Pair}
use Rattle.meaning.specs.Meaning.{bit, Matches}
use Rattle.matching.proofs.Compare.{of_made, in_range}
use Rattle.matching.proofs.matching.matches.Goals as goal

pub returns : goal.returns
returns c =
    let word = c.args.word in
    let lane = word % 64 in
    let place : 64 * (word / 64) + lane ≡ word = omega arith in
    let pair = c.args.pair.now in
    let made = c.in_ok-comparison.ensures in
    let told : Pair → ℕ → Type 0 = λ p setting. Decides (not (bit c.differing.result lane)) (Matches (drawn p.target) (drawn p.specification) setting (64 * (word / 64) + lane)) in
    let decided = of_made told _ pair _ c.args.setting made.1 made.2 (c.differing.ensures lane (omega arith)) in (
      cond-true _ _ _ made.0 ∙ cond-true _ _ _ (in_range word _ _ c.from.ensures c.in_ok-check.ensures) ∙ cond-true _ _ _ (in_range c.args.setting _ _ c.rows.ensures c.in_ok-check-2.ensures),
      Decides-at _ _ (ap not c.bit_of.ensures) (subst (λ w. Decides (not (bit c.differing.result lane)) (Matches (drawn pair.target) (drawn pair.specification) c.args.setting w)) place decided),
    )
