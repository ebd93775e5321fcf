use Rattle.std.proofs.Common.{arith, rules}
use Rattle.propagating.proofs.Considering.{all_rest, next_rest, goes_none, goes_then}
use Rattle.propagating.proofs.search.Search.sweep.Goals as goal

pub overflow_add-head-in-loop-head : goal.overflow_add-head-in-loop-head
overflow_add-head-in-loop-head c =
    let s = c.loop-head.self in
    let n = next_rest s c.consider.new.self c.loop-head.head c.index.result.now c.loop-head.invariant.1 (omega (arith, s.words.ok.0)) c.in_ok-consider.ensures.follows.goes.keeps c.index.ensures in
    let fits = n.fits in
    search rules

pub loop-head-preserved : goal.loop-head-preserved
loop-head-preserved c =
    let s = c.loop-head.self in
    let n = next_rest s c.consider.new.self c.loop-head.head c.index.result.now c.loop-head.invariant.1 (omega (arith, s.words.ok.0)) c.in_ok-consider.ensures.follows.goes.keeps c.index.ensures in
    (goes_then _ s _ c.loop-head.invariant.0 c.in_ok-consider.ensures.follows.goes, n.rest)

pub loop-head-init : goal.loop-head-init
loop-head-init c = (goes_none c.args.self.now, all_rest c.args.self.now)

pub returns-in_err-consider : goal.returns-in_err-consider
returns-in_err-consider c = record { goes = goes_then _ c.loop-head.self _ c.loop-head.invariant.0 c.in_err-consider.ensures.follows.goes; conflict = search rules }
