-- Many steps one after another: what a search comes to, and how many steps it takes.
use Rattle.std.specs.Prelude.{◌≡◌, ℕ, zero, suc, ◌+◌, ◌≤◌, false, List, Some, None, Ok, Err, Option, Result, ◌≢◌, nat_lt}
use Rattle.refusal.specs.declared.refusal.Refusal.{Refusal}
use Rattle.refusal.specs.declared.refusal.Refusal.TheVariants.{StepsSpent}
use Rattle.clause.specs.Logic.{Row, Clause, Solves, Unsolvable}
use Rattle.engine.specs.declared.types.Answer.{Answer}
use Rattle.engine.specs.declared.types.Answer.TheVariants.{More, Model, Unsatisfiable}
use Rattle.engine.specs.View.{View, State, allowance, owed, has_answered}
use Rattle.engine.specs.View.State.{idle, model, none}
use Rattle.engine.specs.Calls.{StepsTo, refuse_if, step_limit}

-- k steps, each answering more
abbrev pub Mores : ℕ → View → View → Type 0
Mores zero e e' = e' ≡ e
Mores (suc k) e e' = (m : View) × Mores k e m × StepsTo m More e'

-- k steps, the last answering a and each before it more
pub record Ends (k : ℕ) (e : View) (a : Answer) (e' : View) : Type 0 where
  pub before : ℕ
  pub last : k ≡ before + 1
  pub at : View
  pub mores : Mores before e at
  pub step : StepsTo at a e'

-- k steps and the answer that they came to
abbrev pub Steps : ℕ → View → Answer → View → Type 0
Steps k e More e' = Mores k e e'
Steps k e Model e' = Ends k e Model e'
Steps k e Unsatisfiable e' = Ends k e Unsatisfiable e'

-- The answer is right: a model's values make every clause hold, and at none no values do.
abbrev pub Right : ℕ → List Clause → Answer → State → Type 0
Right v cs More s' = has_answered s' ≡ false
Right v cs Model s' = (row : Row) × (s' ≡ model row) × Solves v cs row
Right v cs Unsatisfiable s' = (s' ≡ none) × Unsolvable v cs

-- A search with a budget: k steps were made, and the last answered a.
pub record Searched (e : View) (budget : ℕ) (a : Answer) (k : ℕ) (e' : View) : Type 0 where
  pub variables : e'.variables ≡ e.variables
  pub clauses : e'.clauses ≡ e.clauses
  pub places : e'.places ≡ e.places
  pub count : e'.count ≡ e.count + k
  pub within : k ≤ budget
  -- fewer steps than the budget only where it answered
  pub whole : a ≡ More → k ≡ budget
  pub steps : Steps k e a e'
  pub right : has_answered e.state ≡ false → Right e.variables e.clauses a e'.state
  -- the steps made and those still owed are no more than were owed, and a budget of that many brings the answer
  pub debt : has_answered e.state ≡ false → 1 ≤ owed e → k + owed e' ≤ owed e
  pub ends : has_answered e.state ≡ false → 1 ≤ owed e → owed e ≤ budget → a ≢ More
  -- so from idle a search ends within 2^(v+1)-1 steps
  pub idle_bound : e.state ≡ idle → k ≤ allowance e.variables
  pub idle_ends : e.state ≡ idle → allowance e.variables ≤ budget → a ≢ More

abbrev pub run_refusal : View → ℕ → Option Refusal
run_refusal e budget = refuse_if (nat_lt step_limit (e.count + budget)) StepsSpent None

abbrev pub Ran : View → ℕ → Result (Answer × ℕ) Refusal → View → Type 0
Ran e budget (Ok r) e' = (run_refusal e budget ≡ None) × Searched e budget r.0 r.1 e'
Ran e budget (Err x) e' = (run_refusal e budget ≡ Some x) × (e' ≡ e)

-- from idle a search comes to the answer a
pub record ComesTo (e : View) (a : Answer) : Type 0 where
  pub idles : e.state ≡ idle
  pub k : ℕ
  pub after : View
  pub steps : Steps k e a after

-- no two engines with as many variables and the same clauses come to a model and to none
abbrev pub Agree : Type 0
Agree = (e f : View) → e.variables ≡ f.variables → e.clauses ≡ f.clauses → ComesTo e Model → ComesTo f Unsatisfiable → ⊥
