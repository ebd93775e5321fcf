-- What a search holds, and what its parts do to it.
use Rattle.std.specs.Prelude.{◌≡◌, ℕ, ◌+◌, ◌≤◌, true, false, List, ◌++◌, take, None, Result, OnErr, All, slice_set, vec_len, vec_capacity}
use Rattle.clause.specs.Logic.{Clause, outside, Solves, Unsolvable}
use Rattle.engine.specs.declared.types.Answer.{Answer}
use Rattle.engine.specs.declared.types.Answer.TheVariants.{More, Model, Unsatisfiable}
use Rattle.trail.specs.Debt.{debt}
use Rattle.trail.specs.Trail.{Trail, Forces, Refuted}
use Rattle.trail.specs.Values.{Values, value_so_far, assign, row_of}
use Rattle.trail.specs.Cells.{values_of, entries_of, formula}
use Rattle.trail.specs.declared.cells.Entry.{Entry}
use Rattle.propagating.specs.declared.search.Search.{Search}

-- the clause list in its memory
abbrev pub clauses_in : Search → List Clause
clauses_in s = formula s.words.items

-- the values so far
abbrev pub values_in : Search → Values
values_in s = values_of s.slots.items

-- the assigned literals
abbrev pub trail_in : Search → Trail
trail_in s = take s.progress.trail (entries_of s.slots.items)

-- the steps that it still owes
abbrev pub owes : Search → ℕ
owes s = debt (vec_len s.slots) (trail_in s)

-- no model agrees with its trail
abbrev pub Refutes : Search → Type 0
Refutes s = Refuted (vec_len s.slots) (clauses_in s) (trail_in s)

-- the literal may be put on its trail: its variable is open, and where it is forced, it follows
pub record MayPush (s : Search) (e : Entry) : Type 0 where
  pub inside : outside (vec_len s.slots) e.literal.variable ≡ false
  pub opened : value_so_far (values_in s) e.literal.variable ≡ None
  pub forced : e.decided ≡ false → Forces (vec_len s.slots) (clauses_in s) (trail_in s) e.literal

-- the literal was put last on its trail, and holds
pub record Pushes (s : Search) (e : Entry) (s' : Search) : Type 0 where
  pub trail : s'.progress.trail ≡ s.progress.trail + 1
  pub values : values_in s' ≡ assign (values_in s) e.literal
  pub entries : entries_of s'.slots.items ≡ slice_set (entries_of s.slots.items) s.progress.trail e

-- the decision that makes a slot's variable false
abbrev pub decision : ℕ → Entry
decision slot = record { literal = record { variable = slot + 1; negated = true }; decided = true }

-- variables, clauses and memory stay
pub record Keeps (s s' : Search) : Type 0 where
  pub words : s'.words ≡ s.words
  pub variables : vec_len s'.slots ≡ vec_len s.slots
  pub room : vec_capacity s'.slots ≡ vec_capacity s.slots

-- the trail is empty, and there is room for as much
pub record Emptied (s s' : Search) : Type 0 where
  pub trail : s'.progress.trail ≡ 0
  pub slot_room : vec_capacity s.slots ≤ vec_capacity s'.slots
  pub word_room : vec_capacity s'.words ≡ vec_capacity s.words

-- the trail goes on by forced literals, or by none
pub record GoesOn (t t' : Trail) : Type 0 where
  pub more : Trail
  pub trail : t' ≡ t ++ more
  pub forced : All (λ e. e.decided ≡ false) more

-- the trail stays, and there is room for as much
pub record Extended (s s' : Search) : Type 0 where
  pub trail : trail_in s' ≡ trail_in s
  pub slot_room : vec_capacity s.slots ≤ vec_capacity s'.slots
  pub word_room : vec_capacity s'.words ≡ vec_capacity s.words

-- forced literals were put on the trail, or none
pub record Goes (s s' : Search) : Type 0 where
  pub keeps : Keeps s s'
  pub debt : owes s' ≤ owes s
  pub onward : GoesOn (trail_in s) (trail_in s')

-- the same, and where it ends in a conflict, no model agrees with the trail
pub record Follows {T E : Type 0} (s : Search) (r : Result T E) (s' : Search) : Type 0 where
  pub goes : Goes s s'
  pub conflict : OnErr r (Refutes s')

-- What a step comes to, from a debt of d: more with a lower debt, a model, or none.
abbrev pub TurnsFrom : ℕ → Answer → Search → Type 0
TurnsFrom d More s' = owes s' + 1 ≤ d
TurnsFrom d Model s' = Solves (vec_len s'.slots) (clauses_in s') (row_of (values_in s'))
TurnsFrom d Unsatisfiable s' = Unsolvable (vec_len s'.slots) (clauses_in s')

abbrev pub Turns : Search → Answer → Search → Type 0
Turns s a s' = TurnsFrom (owes s) a s'

-- a step
pub record Steps (s : Search) (a : Answer) (s' : Search) : Type 0 where
  pub keeps : Keeps s s'
  pub turns : Turns s a s'
