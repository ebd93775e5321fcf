-- Each output's bit goes to the place above those before it.
use Rattle.std.proofs.Common.{◌≡◌, Bool, true, false, cond, refl, ap, ◌∙◌, arith}
use mir.Val.{bool_byte}
use Rattle.meaning.specs.Meaning.{bit}
use Rattle.matching.specs.Blocks.{net_bit}
use Rattle.matching.proofs.Compare.{number_more}
use Rattle.matching.proofs.outputs.gather.Goals as goal

byte_is : (b : Bool) → bool_byte b ≡ cond b 1 0
byte_is true = refl
byte_is false = refl

pub loop-i-preserved : goal.loop-i-preserved
loop-i-preserved c =
    number_more (net_bit c.args.nets.now c.args.j) c.args.outputs.now c.loop-i.i c.loop-i.number c.from.result c.bit_of.result
    c.loop-i-test.true (omega arith) c.loop-i.invariant.0 c.loop-i.invariant.1 (c.bit_of.ensures ∙ ap (λ x. bit x c.args.j) c.net_lanes.ensures) (c.from.ensures ∙ byte_is c.bit_of.result)
