-- Literals, clauses and rows of values: when a literal, a clause and a clause list hold.
use Rattle.std.specs.Prelude.{◌≡◌, ℕ, ◌+◌, ◌-◌, Bool, true, false, cond, not, List, [], ◌∷◌, length, nat_lt, slice_index_or}
use Rattle.clause.specs.declared.literal.Literal.{Literal}

-- one value for each variable, that of variable 1 first
abbrev pub Row : Type 0
Row = List Bool

abbrev pub Clause : Type 0
Clause = List Literal

-- the value of variable x
abbrev pub value : Row → ℕ → Bool
value row x = slice_index_or row (x - 1) false

-- a literal holds where its variable is true, or, negated, where it is false
abbrev pub literal_holds : Row → Literal → Bool
literal_holds row l = cond l.negated (not (value row l.variable)) (value row l.variable)

abbrev pub negation : Literal → Literal
negation l = record { variable = l.variable; negated = not l.negated }

-- a clause holds where at least one of its literals does
abbrev pub clause_holds : Row → Clause → Bool
clause_holds row [] = false
clause_holds row (l ∷ c) = cond (literal_holds row l) true (clause_holds row c)

-- every clause holds
abbrev pub all_hold : Row → List Clause → Bool
all_hold row [] = true
all_hold row (c ∷ cs) = cond (clause_holds row c) (all_hold row cs) false

-- a value for each of v variables that makes every clause hold
pub record Solves (v : ℕ) (clauses : List Clause) (row : Row) : Type 0 where
  pub long : length row ≡ v
  pub holds : all_hold row clauses ≡ true

-- no values of v variables do
abbrev pub Unsolvable : ℕ → List Clause → Type 0
Unsolvable v clauses = (row : Row) → Solves v clauses row → ⊥

-- a clause takes one word more than it has literals
abbrev pub words : List Clause → ℕ
words [] = 0
words (c ∷ cs) = length c + 1 + words cs

-- not one of the variables 1 to v
abbrev pub outside : ℕ → ℕ → Bool
outside v x = cond (nat_lt x 1) true (nat_lt v x)

abbrev pub some_outside : ℕ → Clause → Bool
some_outside v [] = false
some_outside v (l ∷ c) = cond (outside v l.variable) true (some_outside v c)

-- every clause is over the variables 1 to v
abbrev pub all_inside : ℕ → List Clause → Bool
all_inside v [] = true
all_inside v (c ∷ cs) = cond (some_outside v c) false (all_inside v cs)
