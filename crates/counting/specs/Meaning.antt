-- What the counting engine means: its view.
use Rattle.std.specs.Prelude.{◌≡◌, ◌-◌, ◌^◌, ◌≤◌, length, vec_items}
use Rattle.clause.specs.Logic.{Row}
use Rattle.clause.specs.Memory.{clauses_of}
use Rattle.engine.specs.View.{View, State, allowance, owed}
use Rattle.engine.specs.Phases.{state_in}
use Rattle.counting.specs.Rows.{number}
use Rattle.counting.specs.declared.counting.Counting.{Counting}
use Rattle.engine.specs.declared.types.Phase.{Phase}
use Rattle.engine.specs.declared.types.Phase.TheVariants.{Searching}

-- while it searches it owes a step for each row that is left, the one tried next among them
abbrev pub state_of : Phase → Row → State
state_of phase row = state_in phase (2 ^ length row - number row) row

-- the row tried next, or the model
abbrev pub row_of : Counting → Row
row_of c = vec_items c.row

-- what it means in a phase
abbrev pub view_in : Phase → Counting → View
view_in phase c = record {
  variables = c.variables;
  clauses = clauses_of (vec_items c.words);
  count = c.control.count;
  places = c.control.places;
  state = state_of phase (row_of c);
}

abbrev pub view_of : Counting → View
view_of c = view_in c.control.phase c

-- a search has begun: what was asked stays, and the steps owed are no more than idle owes
pub record Begun (e : View) (c : Counting) : Type 0 where
  pub phase : c.control.phase ≡ Searching
  pub variables : c.variables ≡ e.variables
  pub clauses : (view_of c).clauses ≡ e.clauses
  pub places : c.control.places ≡ e.places
  pub count : c.control.count ≡ e.count
  pub owes : owed (view_of c) ≤ allowance e.variables
