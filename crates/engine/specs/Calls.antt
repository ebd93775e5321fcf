-- What each call of an engine does to what it means: a relation of the view before, the arguments, the answer and the view after.
-- A refused call leaves the view as it was, and the refusal is the first of its tests that holds.
use Rattle.std.specs.Prelude.{◌≡◌, ℕ, ◌+◌, ◌≤◌, Bool, cond, not, List, [], ◌∷◌, ◌++◌, length, Some, None, Ok, Err, Option, Result, nat_lt}
use Rattle.refusal.specs.declared.refusal.Refusal.{Refusal}
use Rattle.refusal.specs.declared.refusal.Refusal.TheVariants.{VariableRange, PlacesLacking, StepsSpent, Searching, NoModel}
use Rattle.clause.specs.Logic.{Row, Clause, Solves, Unsolvable, words, value, outside, some_outside}
use Rattle.engine.specs.declared.types.Answer.{Answer}
use Rattle.engine.specs.declared.types.Answer.TheVariants.{More, Model, Unsatisfiable}
use Rattle.engine.specs.declared.types.Places.{Places}
use Rattle.engine.specs.View.{View, State, allowance, owed, idle_with, is_searching, has_model, row_in}
use Rattle.engine.specs.View.State.{idle, searching, model, none}

-- the first test that holds gives the refusal
abbrev pub refuse_if : Bool → Refusal → Option Refusal → Option Refusal
refuse_if test x rest = cond test (Some x) rest

-- a test that refuses exactly so
abbrev pub Tested : {U : Type 0} → Option Refusal → Result U Refusal → Type 0
Tested refusal (Ok u) = refusal ≡ None
Tested refusal (Err x) = refusal ≡ Some x

abbrev pub Cleared : View → View → Type 0
Cleared e e' = e' ≡ idle_with e 0 []

-- for an engine that searches or not, with so many variables
abbrev pub growth_refusal : Bool → Places → ℕ → ℕ → Option Refusal
growth_refusal searches places variables k =
    refuse_if searches Searching
    (refuse_if (nat_lt places.variables (variables + k)) PlacesLacking None)

abbrev pub grow_refusal : View → ℕ → Option Refusal
grow_refusal e k = growth_refusal (is_searching e.state) e.places e.variables k

abbrev pub Grown : {U : Type 0} → View → ℕ → Result U Refusal → View → Type 0
Grown e k (Ok u) e' = (grow_refusal e k ≡ None) × (e' ≡ idle_with e (e.variables + k) e.clauses)
Grown e k (Err x) e' = (grow_refusal e k ≡ Some x) × (e' ≡ e)

-- for an engine that searches or not, with so many variables, and clauses that take so many words
abbrev pub addition_refusal : Bool → Places → ℕ → ℕ → Clause → Option Refusal
addition_refusal searches places variables used c =
    refuse_if searches Searching
    (refuse_if (some_outside variables c) VariableRange
    (refuse_if (nat_lt places.words (used + (length c + 1))) PlacesLacking None))

abbrev pub add_refusal : View → Clause → Option Refusal
add_refusal e c = addition_refusal (is_searching e.state) e.places e.variables (words e.clauses) c

abbrev pub Added : {U : Type 0} → View → Clause → Result U Refusal → View → Type 0
Added e c (Ok u) e' = (add_refusal e c ≡ None) × (e' ≡ idle_with e e.variables (e.clauses ++ (c ∷ [])))
Added e c (Err x) e' = (add_refusal e c ≡ Some x) × (e' ≡ e)

-- for an engine at a model or not, with so many variables
abbrev pub question_refusal : Bool → ℕ → ℕ → Option Refusal
question_refusal models variables x =
    refuse_if (outside variables x) VariableRange
    (refuse_if (not models) NoModel None)

abbrev pub value_refusal : View → ℕ → Option Refusal
value_refusal e x = question_refusal (has_model e.state) e.variables x

abbrev pub Valued : View → ℕ → Result Bool Refusal → Type 0
Valued e x (Ok b) = (value_refusal e x ≡ None) × (b ≡ value (row_in e.state) x)
Valued e x (Err y) = value_refusal e x ≡ Some y

abbrev pub step_limit : ℕ
step_limit = 1000000000000

-- after so many steps
abbrev pub count_refusal : ℕ → Option Refusal
count_refusal count = refuse_if (nat_lt step_limit (count + 1)) StepsSpent None

abbrev pub step_refusal : View → Option Refusal
step_refusal e = count_refusal e.count

-- A step of an engine that has not answered, and that owes at most `debt` steps, this one included.
abbrev pub Seeks : ℕ → List Clause → ℕ → Answer → State → Type 0
Seeks v cs debt More s' = (d : ℕ) × (s' ≡ searching d) × (1 ≤ d) × (d + 1 ≤ debt)
Seeks v cs debt Model s' = (row : Row) × (s' ≡ model row) × Solves v cs row
Seeks v cs debt Unsatisfiable s' = (s' ≡ none) × Unsolvable v cs

-- From state s a step answers a and comes to s'.
abbrev pub Moves : ℕ → List Clause → State → Answer → State → Type 0
Moves v cs idle a s' = Seeks v cs (allowance v) a s'
Moves v cs (searching d) a s' = Seeks v cs d a s'
Moves v cs (model row) a s' = (a ≡ Model) × (s' ≡ model row)
Moves v cs none a s' = (a ≡ Unsatisfiable) × (s' ≡ none)

-- What a step of an engine that has not answered does, but for its count.
pub record Tries (e : View) (a : Answer) (e' : View) : Type 0 where
  pub variables : e'.variables ≡ e.variables
  pub clauses : e'.clauses ≡ e.clauses
  pub places : e'.places ≡ e.places
  pub count : e'.count ≡ e.count
  pub seeks : Seeks e.variables e.clauses (owed e) a e'.state

pub record StepsTo (e : View) (a : Answer) (e' : View) : Type 0 where
  pub variables : e'.variables ≡ e.variables
  pub clauses : e'.clauses ≡ e.clauses
  pub places : e'.places ≡ e.places
  pub count : e'.count ≡ e.count + 1
  pub moves : Moves e.variables e.clauses e.state a e'.state

abbrev pub Stepped : View → Result Answer Refusal → View → Type 0
Stepped e (Ok a) e' = (step_refusal e ≡ None) × StepsTo e a e'
Stepped e (Err x) e' = (step_refusal e ≡ Some x) × (e' ≡ e)
