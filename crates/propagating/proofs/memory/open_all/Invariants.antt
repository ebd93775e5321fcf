use Rattle.std.proofs.Common.{◌≡◌, ℕ, ◌<◌, get_or, None}
use Rattle.trail.specs.Cells.{values_of, entries_of}
use Rattle.propagating.proofs.memory.open_all.Given as goal

-- the variables up to here are open, and the trail is as it was
abbrev pub invariant-loop-slot : goal.invariant-loop-slot
invariant-loop-slot l = ((j : ℕ) → j < l.slot-index → get_or (values_of l.slots) j None ≡ None) × (entries_of l.slots ≡ entries_of l.initial.slots)
