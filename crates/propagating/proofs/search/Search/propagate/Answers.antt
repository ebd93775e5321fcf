use Rattle.std.proofs.Common.{refl, arith, rules}
use Rattle.propagating.proofs.Considering.{trailed, goes_same, goes_none, goes_then}
use Rattle.propagating.proofs.search.Search.propagate.Goals as goal

pub overflow_sub-negation : goal.overflow_sub-negation
overflow_sub-negation c =
    let w = trailed c.loop-position.self c.loop-position.position c.index.result.now c.negation-negation.result c.loop-position-test.true c.index.ensures c.negation-negation.ensures in
    let low = w.low in
    search rules

pub index-requires-in-loop-position : goal.index-requires-in-loop-position
index-requires-in-loop-position c =
    let w = trailed c.loop-position.self c.loop-position.position c.index.result.now c.negation-negation.result c.loop-position-test.true c.index.ensures c.negation-negation.ensures in
    omega (arith, w.low, w.high)

pub loop-position-init : goal.loop-position-init
loop-position-init c = goes_none c.args.self.now

pub loop-position-preserved : goal.loop-position-preserved
loop-position-preserved c = goes_then _ c.loop-position.self _ c.loop-position.invariant c.in_ok-visit.ensures.goes

pub returns-in_err-visit : goal.returns-in_err-visit
returns-in_err-visit c = record { goes = goes_then _ c.loop-position.self _ c.loop-position.invariant c.in_err-visit.ensures.goes; conflict = search rules }

pub returns : goal.returns
returns c = record { goes = goes_then _ c.loop-position.self _ c.loop-position.invariant (goes_same c.loop-position.self _ refl refl refl); conflict = tt }
