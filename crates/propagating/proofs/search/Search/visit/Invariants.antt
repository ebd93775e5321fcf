use Rattle.std.proofs.Common.{◌≤◌, vec_len}
use Rattle.propagating.specs.Parts.{Goes}
use Rattle.propagating.proofs.search.Search.visit.Given as goal

abbrev pub invariant-loop-next : goal.invariant-loop-next
invariant-loop-next l = (l.end ≤ vec_len l.self.words) × Goes l.initial.self l.self

abbrev pub decreases-loop-next : goal.decreases-loop-next
decreases-loop-next l = l.end
