-- The trail of assigned literals: what it wrote, and why its forced literals are right.
use Rattle.std.specs.Prelude.{◌≡◌, ℕ, ◌<◌, Bool, true, false, cond, List, [], ◌∷◌, length, take, replicate, None, ◌≢◌, slice_index_or}
use Rattle.clause.specs.Logic.{Row, Clause, Solves, literal_holds, outside}
use Rattle.clause.specs.declared.literal.Literal.{Literal}
use Rattle.trail.specs.Cells.{empty_entry}
use Rattle.trail.specs.Values.{Values, assign, value_so_far}
use Rattle.trail.specs.declared.cells.Entry.{Entry}

-- the assigned literals in the order of their assignment
abbrev pub Trail : Type 0
Trail = List Entry

abbrev pub entry_at : Trail → ℕ → Entry
entry_at t i = slice_index_or t i empty_entry

abbrev pub literal_at : Trail → ℕ → Literal
literal_at t i = (entry_at t i).literal

-- the values after each literal of the trail was assigned in turn
abbrev pub after : Values → Trail → Values
after vs [] = vs
after vs (e ∷ t) = after (assign vs e.literal) t

-- the same from open variables
abbrev pub written : ℕ → Trail → Values
written v t = after (replicate v None) t

-- each position's variable is one of 1 to v and was open when it was assigned
abbrev pub Fresh : ℕ → Trail → Type 0
Fresh v t = (i : ℕ) → i < length t → (outside v (literal_at t i).variable ≡ false) × (value_so_far (written v (take i t)) (literal_at t i).variable ≡ None)

-- a row that makes every literal of the trail hold
abbrev pub agrees : Row → Trail → Bool
agrees row [] = true
agrees row (e ∷ t) = cond (literal_holds row e.literal) (agrees row t) false

-- a model that agrees with the trail before a forced literal, at position i
pub record Reaches (v : ℕ) (cs : List Clause) (t : Trail) (row : Row) (i : ℕ) : Type 0 where
  pub solves : Solves v cs row
  pub within : i < length t
  pub forced : (entry_at t i).decided ≡ false
  pub agrees : agrees row (take i t) ≡ true

-- every model that agrees with the trail before a forced literal agrees with that literal
abbrev pub Sound : ℕ → List Clause → Trail → Type 0
Sound v cs t = (row : Row) (i : ℕ) → Reaches v cs t row i → literal_holds row (literal_at t i) ≡ true

-- every model that agrees with the trail makes the literal hold
abbrev pub Forces : ℕ → List Clause → Trail → Literal → Type 0
Forces v cs t l = (row : Row) → Solves v cs row → agrees row t ≡ true → literal_holds row l ≡ true

-- no model agrees with the trail
abbrev pub Refuted : ℕ → List Clause → Trail → Type 0
Refuted v cs t = (row : Row) → Solves v cs row → agrees row t ≢ true
