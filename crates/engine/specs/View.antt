-- What an engine means: a record of what its calls speak of.
use Rattle.std.specs.Prelude.{ℕ, ◌+◌, ◌-◌, ◌^◌, Bool, true, false, List, []}
use Rattle.clause.specs.Logic.{Row, Clause}
use Rattle.engine.specs.declared.types.Places.{Places}

pub data State : Type 0 where
  idle : State
  -- with the steps that the engine still owes
  searching : ℕ → State
  -- answered, with a value for each variable
  model : Row → State
  -- answered: no values make every clause hold
  none : State

pub record View : Type 0 where
  pub variables : ℕ
  pub clauses : List Clause
  -- the steps since the making
  pub count : ℕ
  pub places : Places
  pub state : State

-- the most steps that an engine owes from idle, with v variables
abbrev pub allowance : ℕ → ℕ
allowance v = 2 ^ (v + 1) - 1

abbrev pub owed_in : ℕ → State → ℕ
owed_in v idle = allowance v
owed_in v (searching d) = d
owed_in v (model row) = 0
owed_in v none = 0

-- at most how many steps an engine still owes
abbrev pub owed : View → ℕ
owed e = owed_in e.variables e.state

abbrev pub is_searching : State → Bool
is_searching idle = false
is_searching (searching d) = true
is_searching (model row) = false
is_searching none = false

abbrev pub has_model : State → Bool
has_model idle = false
has_model (searching d) = false
has_model (model row) = true
has_model none = false

abbrev pub has_answered : State → Bool
has_answered idle = false
has_answered (searching d) = false
has_answered (model row) = true
has_answered none = true

-- the values of a model
abbrev pub row_in : State → Row
row_in idle = []
row_in (searching d) = []
row_in (model row) = row
row_in none = []

-- a new engine with these places
abbrev pub new_with : Places → View
new_with p = record { variables = 0; clauses = []; count = 0; places = p; state = idle }

-- the engine idle, with these variables and clauses
abbrev pub idle_with : View → ℕ → List Clause → View
idle_with e v cs = record { variables = v; clauses = cs; count = e.count; places = e.places; state = idle }
