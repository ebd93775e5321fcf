use Rattle.std.proofs.Common.{◌-◌, vec_len}
use Rattle.propagating.specs.Parts.{Goes}
use Rattle.propagating.proofs.search.Search.propagate.Given as goal

abbrev pub invariant-loop-position : goal.invariant-loop-position
invariant-loop-position l = Goes l.initial.self l.self

abbrev pub decreases-loop-position : goal.decreases-loop-position
decreases-loop-position l = vec_len l.self.slots - l.position
