use Rattle.std.proofs.Common.{◌-◌, vec_len}
use Rattle.propagating.specs.Parts.{Goes}
use Rattle.propagating.proofs.Considering.{Rest}
use Rattle.propagating.proofs.search.Search.sweep.Given as goal

-- from here on memory holds a rest of the clause list
abbrev pub invariant-loop-head : goal.invariant-loop-head
invariant-loop-head l = Goes l.initial.self l.self × Rest l.self l.head

abbrev pub decreases-loop-head : goal.decreases-loop-head
decreases-loop-head l = vec_len l.self.words - l.head
