-- No test refused, and the word's own lane holds the outputs.
use Rattle.std.proofs.Common.{◌≡◌, ◌+◌, ◌*◌, ◌/◌, ◌%◌, map, ap, ◌∙◌, arith}
use Rattle.std.proofs.lemmas.Bool.{cond-true}
use Rattle.circuit.specs.View.{drawn}
use Rattle.meaning.specs.Meaning.{outputs_at}
use Rattle.matching.specs.Answers.{as_number}
use Rattle.matching.specs.Blocks.{net_bit}
use Rattle.matching.proofs.Compare.{outputs_held, in_range}
use Rattle.matching.proofs.outputs.outputs.Goals as goal

pub returns : goal.returns
returns c =
    let circuit = c.args.circuit.now in
    let s = drawn circuit in
    let setting = c.args.setting in
    let word = c.args.word in
    let nets = c.run.new.nets in
    let place : 64 * (word / 64) + word % 64 ≡ word = omega arith in
    let shown = ap (map (net_bit nets (word % 64))) c.as_slice.ensures.value ∙ outputs_held s setting (word / 64) nets circuit.driven c.run.ensures (word % 64) (omega arith) ∙ ap (outputs_at s setting) place in (
      cond-true _ _ _ (in_range word _ _ c.from.ensures c.in_ok-check.ensures) ∙ cond-true _ _ _ (in_range setting _ _ c.rows.ensures c.in_ok-check-2.ensures),
      c.gather.ensures ∙ ap as_number shown,
    )
