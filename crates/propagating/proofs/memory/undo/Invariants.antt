use Rattle.std.proofs.Common.{◌≡◌, ℕ, ◌<◌, ◌≤◌, false, length, take}
use Rattle.trail.specs.Cells.{values_of, entries_of}
use Rattle.trail.specs.Trail.{written, entry_at}
use Rattle.propagating.proofs.memory.undo.Given as goal

-- the positions from i on are taken off, and all of them were forced
abbrev pub invariant-loop-i : goal.invariant-loop-i
invariant-loop-i l =
    (entries_of l.slots ≡ entries_of l.initial.slots)
    × (values_of l.slots ≡ written (length l.initial.slots) (take l.i (entries_of l.initial.slots)))
    × ((j : ℕ) → l.i ≤ j → j < l.trail → (entry_at (entries_of l.initial.slots) j).decided ≡ false)
