-- Every bit of the greatest number is 1.
use Rattle.std.proofs.Common.{sym, ◌∙◌, ap}
use Rattle.meaning.specs.Meaning.{bit}
use Rattle.value.specs.Words.{bit_ones}
use Rattle.value.proofs.word.WordFromBool.from.Goals as goal

pub returns-then-value : goal.returns-then-value
returns-then-value c j h = ap (λ w. bit w.bits j) c.truth.ensures ∙ bit_ones j h ∙ sym c.if-value.true
