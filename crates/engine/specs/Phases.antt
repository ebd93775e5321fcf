-- What an engine's phase says of its state.
use Rattle.std.specs.Prelude.{ℕ, Bool, true, false}
use Rattle.clause.specs.Logic.{Row}
use Rattle.engine.specs.View.{State}
use Rattle.engine.specs.View.State.{idle, searching, model, none}
use Rattle.engine.specs.declared.types.Answer.{Answer}
use Rattle.engine.specs.declared.types.Answer.TheVariants as answer
use Rattle.engine.specs.declared.types.Phase.{Phase}
use Rattle.engine.specs.declared.types.Phase.TheVariants.{Idle, Searching, Model, Unsatisfiable}

-- the state in a phase, where so many steps are owed while it searches, and a model has this row
abbrev pub state_in : Phase → ℕ → Row → State
state_in Idle debt row = idle
state_in Searching debt row = searching debt
state_in Model debt row = model row
state_in Unsatisfiable debt row = none

-- the phase after a step that answered so
abbrev pub phase_after : Answer → Phase
phase_after answer.More = Searching
phase_after answer.Model = Model
phase_after answer.Unsatisfiable = Unsatisfiable

-- whether the engine is searching in this phase
abbrev pub in_search : Phase → Bool
in_search Idle = false
in_search Searching = true
in_search Model = false
in_search Unsatisfiable = false

-- whether the engine is at a model in this phase
abbrev pub at_model : Phase → Bool
at_model Idle = false
at_model Searching = false
at_model Model = true
at_model Unsatisfiable = false
