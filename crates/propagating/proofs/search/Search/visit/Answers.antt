use Rattle.std.proofs.Common.{ap, vec_len, arith, rules}
use Rattle.trail.proofs.Looks.{begins_of}
use Rattle.propagating.proofs.Considering.{goes_none, goes_then}
use Rattle.propagating.proofs.search.Search.visit.Goals as goal

pub consider-requires : goal.consider-requires
consider-requires c =
    let s = c.loop-next.self in
    begins_of s.slots.len s.words.items c.in-Some.at c.index-word.result.now s.loaded (omega (arith, c.loop-next.invariant.0, s.words.ok.0)) c.index-word.ensures

pub loop-next-init : goal.loop-next-init
loop-next-init c = (omega (arith, c.len-end.ensures), goes_none c.args.self.now)

pub loop-next-preserved : goal.loop-next-preserved
loop-next-preserved c =
    let s = c.loop-next.self in
    let on = c.in_ok-consider.ensures.follows.goes in
    (omega (arith, ap vec_len on.keeps.words), goes_then _ s _ c.loop-next.invariant.1 on)

pub returns-in_err-consider : goal.returns-in_err-consider
returns-in_err-consider c = record { goes = goes_then _ c.loop-next.self _ c.loop-next.invariant.1 c.in_err-consider.ensures.follows.goes; conflict = search rules }
