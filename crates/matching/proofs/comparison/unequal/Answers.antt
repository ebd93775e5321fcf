-- Each turn takes the outputs at its place in the two lists, which are nets. A lane is 0 so far exactly where the outputs so far
-- are equal in it, and one more output keeps that.
use Rattle.std.proofs.Common.{refl, ap, ◌∙◌, arith}
use Rattle.std.proofs.lemmas.Grind.{common_steps}
use Rattle.std.proofs.lemmas.Slice.Zip.{zip_turn}
use Rattle.matching.specs.Blocks.{no_lanes}
use Rattle.meaning.specs.Nets.{at}
use Rattle.matching.proofs.Compare.{unequal_more}
use Rattle.matching.proofs.comparison.unequal.Goals as goal

pub net_lanes-requires : goal.net_lanes-requires
net_lanes-requires c =
    let turn = zip_turn _ _ c.loop-a.yielded c.into_iter-a-iterator.result c.loop-a.a-iterator c.next.new.self c.next.result
    refl refl c.loop-a.yielded_by (c.in-Some.a, c.in-Some.b) c.in-Some.is c.next.ensures.steps in
    let here = turn.2 1 in
    grind (arith, common_steps, c.requires.left)

pub net_lanes-requires-in-loop-a : goal.net_lanes-requires-in-loop-a
net_lanes-requires-in-loop-a c =
    let turn = zip_turn _ _ c.loop-a.yielded c.into_iter-a-iterator.result c.loop-a.a-iterator c.next.new.self c.next.result
    refl refl c.loop-a.yielded_by (c.in-Some.a, c.in-Some.b) c.in-Some.is c.next.ensures.steps in
    let here = turn.3 1 in
    grind (arith, common_steps, c.requires.right)

pub loop-a-preserved : goal.loop-a-preserved
loop-a-preserved c j =
    let turn = zip_turn c.args.a.now c.args.b.now c.loop-a.yielded c.into_iter-a-iterator.result c.loop-a.a-iterator c.next.new.self c.next.result
    (grind (arith, common_steps)) (grind (arith, common_steps)) c.loop-a.yielded_by (c.in-Some.a, c.in-Some.b) c.in-Some.is c.next.ensures.steps in
    unequal_more c.args.t.now c.args.s.now c.args.a.now c.args.b.now c.loop-a.yielded (c.in-Some.a, c.in-Some.b) c.loop-a.lanes c.net_lanes.result c.net_lanes-in-loop-a.result turn.0 turn.1
    (c.net_lanes.ensures ∙ ap (λ k. (at no_lanes c.args.t.now k).bits) (turn.2 0)) (c.net_lanes-in-loop-a.ensures ∙ ap (λ k. (at no_lanes c.args.s.now k).bits) (turn.3 0))
    j (c.loop-a.invariant j)
