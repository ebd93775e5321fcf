use Rattle.std.proofs.Common.{◌≡◌, false, length, drop}
use Rattle.clause.specs.Logic.{some_outside}
use Rattle.trail.specs.Cells.{values_of, literals_of}
use Rattle.trail.specs.Values.{status, status_from}
use Rattle.propagating.proofs.search.propagation.look.Given as goal

-- what is left of the clause gives its status, and lies inside
abbrev pub invariant-loop-word : goal.invariant-loop-word
invariant-loop-word l =
    (status_from (values_of l.slots) l.pending (drop l.word-index (literals_of l.clause)) ≡ status (values_of l.slots) (literals_of l.clause))
    × (some_outside (length l.slots) (drop l.word-index (literals_of l.clause)) ≡ false)
