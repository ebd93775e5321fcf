use Rattle.std.proofs.Common.{◌≡◌, ◌+◌, false, ◌++◌, length, take, drop, replicate, vec_len, vec_capacity}
use Rattle.clause.specs.Logic.{some_outside}
use Rattle.trail.specs.Cells.{values_of, entries_of, literals_of, heads_of}
use Rattle.propagating.proofs.memory.store.Given as goal

-- the words from the clause's head up to here are written
abbrev pub invariant-loop-literal : goal.invariant-loop-literal
invariant-loop-literal l =
    (literals_of l.words.items ≡ literals_of l.initial.words.items ++ take l.literal-index l.clause)
    × (heads_of l.words.items ≡ heads_of l.initial.words.items ++ replicate l.literal-index l.head)
    × (some_outside (length l.slots) (drop l.literal-index l.clause) ≡ false)
    × (vec_len l.words ≡ vec_len l.initial.words + l.literal-index)
    × (vec_capacity l.words ≡ vec_capacity l.initial.words)
    × (values_of l.slots ≡ values_of l.initial.slots)
    × (entries_of l.slots ≡ entries_of l.initial.slots)
