-- The values so far, and what they make of a clause.
use Rattle.std.specs.Prelude.{ℕ, ◌-◌, Bool, true, false, cond, not, List, [], ◌∷◌, map, is_some, Some, None, Option, slice_index_or, slice_set}
use Rattle.std.specs.Option.{unwrap_or, option_map}
use Rattle.clause.specs.Logic.{Row, Clause}
use Rattle.clause.specs.declared.literal.Literal.{Literal}
use Rattle.trail.specs.declared.status.Status.{Status}
use Rattle.trail.specs.declared.status.Status.TheVariants.{Satisfied, Unresolved, Unit, Falsified}

-- one for each variable, that of variable 1 first; none while the variable is open
abbrev pub Values : Type 0
Values = List (Option Bool)

-- the value of variable x
abbrev pub value_so_far : Values → ℕ → Option Bool
value_so_far vs x = slice_index_or vs (x - 1) None

-- one way where there is a value, another where there is none
abbrev pub either : {X Y : Type 0} → Option X → Y → (X → Y) → Y
either None none some = none
either (Some x) none some = some x

-- the values with one more, that makes the literal hold
abbrev pub assign : Values → Literal → Values
assign vs l = slice_set vs (l.variable - 1) (Some (not l.negated))

-- a row, where open variables are false
abbrev pub row_of : Values → Row
row_of vs = map (λ o. unwrap_or o false) vs

-- whether a literal holds, so far; none while its variable is open
abbrev pub truth : Values → Literal → Option Bool
truth vs l = option_map (λ b. cond l.negated (not b) b) (value_so_far vs l.variable)

-- what is left of a clause makes its status, where `pending` is the open literal that was seen before
abbrev pub status_from : Values → Option Literal → Clause → Status
status_from vs pending [] = either pending Falsified Unit
status_from vs pending (l ∷ c) =
    either (truth vs l)
    (either pending (status_from vs (Some l) c) (λ _. Unresolved))
    (λ holds. cond holds Satisfied (status_from vs pending c))

abbrev pub status : Values → Clause → Status
status vs c = status_from vs None c

abbrev pub is_falsified : Status → Bool
is_falsified Satisfied = false
is_falsified Unresolved = false
is_falsified (Unit l) = false
is_falsified Falsified = true

-- values as pairs, whether there is one and which, which are equal exactly where the values are
abbrev pub told_of : Values → List (Bool × Bool)
told_of vs = map (λ o. (is_some o, unwrap_or o false)) vs
