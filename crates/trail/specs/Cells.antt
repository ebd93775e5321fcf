-- What an engine's memory holds.
use Rattle.std.specs.Prelude.{ℕ, ◌+◌, false, List, map, take, drop, None, slice_index_or}
use Rattle.clause.specs.Logic.{Clause}
use Rattle.clause.specs.Memory.{clauses_of}
use Rattle.clause.specs.declared.literal.Literal.{Literal}
use Rattle.trail.specs.Values.{Values}
use Rattle.trail.specs.declared.cells.Entry.{Entry}
use Rattle.trail.specs.declared.cells.Slot.{Slot}
use Rattle.trail.specs.declared.cells.Word.{Word}

abbrev pub empty_literal : Literal
empty_literal = record { variable = 0; negated = false }

abbrev pub empty_entry : Entry
empty_entry = record { literal = empty_literal; decided = false }

abbrev pub empty_slot : Slot
empty_slot = record { value = None; entry = empty_entry; positive = None; negative = None }

abbrev pub empty_word : Word
empty_word = record { literal = empty_literal; head = 0; older = None }

-- the variables' values
abbrev pub values_of : List Slot → Values
values_of slots = map (λ s. s.value) slots

-- the trail's positions, those past its length too
abbrev pub entries_of : List Slot → List Entry
entries_of slots = map (λ s. s.entry) slots

abbrev pub literals_of : List Word → List Literal
literals_of words = map (λ w. w.literal) words

-- where the heads of the words' clauses are
abbrev pub heads_of : List Word → List ℕ
heads_of words = map (λ w. w.head) words

-- the number of literals of the clause whose head is there
abbrev pub size_at : List Word → ℕ → ℕ
size_at words h = (slice_index_or words h empty_word).literal.variable

-- the words of that clause's literals
abbrev pub clause_at : List Word → ℕ → List Word
clause_at words h = take (size_at words h) (drop (h + 1) words)

-- the clause list that the words hold
abbrev pub formula : List Word → List Clause
formula words = clauses_of (literals_of words)
