use Rattle.std.proofs.Common.{subst, arith}
use Rattle.engine.specs.Search.{Mores}
use Rattle.engine.proofs.Refusals.{none_some, run_admits}
use Rattle.engine.proofs.Runs.{spent, found, admitted}
use Rattle.engine.proofs.search.run.Goals as goal

-- no step is refused before the budget is spent
pub returns-in_err-answer : goal.returns-in_err-answer
returns-in_err-answer g c =
    let inv = c.loop-made.invariant in
    absurd (none_some _ (admitted c.loop-made.made c.args.budget _ _ (omega arith) inv.0 inv.1) c.in_err-answer.ensures.0)

pub returns-in_default : goal.returns-in_default
returns-in_default g c =
    let inv = c.loop-made.invariant in
    (run_admits (g.E.Engine.view c.args.engine.now) c.args.budget inv.0, found c.loop-made.made c.args.budget (g.E.Engine.view c.args.engine.now) c.in_ok-answer.answer (g.E.Engine.view c.loop-made.engine) (g.E.Engine.view c.step.new.self) (omega arith) inv.1 c.in_ok-answer.ensures.1 c.in_default.not-More)

pub returns : goal.returns
returns g c =
    let inv = c.loop-made.invariant in
    let e = g.E.Engine.view c.args.engine.now in
    (run_admits e c.args.budget inv.0, spent _ c.args.budget _ _ (omega arith) (subst (λ k. Mores k e (g.E.Engine.view c.loop-made.engine)) (omega arith) inv.1))
