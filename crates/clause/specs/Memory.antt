-- How a clause list lies in memory: clause after clause, a head that tells the number of literals, then the literals.
use Rattle.std.specs.Prelude.{◌≡◌, ℕ, zero, suc, ◌+◌, ◌-◌, ◌<◌, Bool, true, false, cond, List, [], ◌∷◌, ◌++◌, map, length, take, drop, ◌==◌, nat_lt}
use Rattle.clause.specs.Logic.{Row, Clause, all_hold, all_inside}
use Rattle.clause.specs.declared.literal.Literal.{Literal}

-- a clause's head: the number of its literals stands where a literal has its variable
abbrev pub head : ℕ → Literal
head n = record { variable = n; negated = false }

abbrev pub encode : List Clause → List Literal
encode [] = []
encode (c ∷ cs) = head (length c) ∷ (c ++ encode cs)

-- the first k clauses that memory holds
abbrev pub decode : ℕ → List Literal → List Clause
decode zero ws = []
decode (suc k) [] = []
decode (suc k) (h ∷ ws) = take h.variable ws ∷ decode k (drop h.variable ws)

abbrev pub clauses_of : List Literal → List Clause
clauses_of ws = decode (length ws) ws

-- whether one of these clauses has its head at a place
abbrev pub is_head : List Clause → ℕ → Bool
is_head [] h = false
is_head (c ∷ cs) h = cond (h == 0) true (cond (nat_lt h (length c + 1)) false (is_head cs (h - (length c + 1))))

-- a clause of the list has its head at h: there begins a rest of the list, which holds wherever the list does
pub record Begins (v : ℕ) (ws : List Literal) (cs : List Clause) (h : ℕ) : Type 0 where
  pub rest : List Clause
  pub here : drop h ws ≡ encode rest
  pub below : h < length ws
  pub inside : all_inside v rest ≡ true
  pub entailed : (row : Row) → all_hold row cs ≡ true → all_hold row rest ≡ true

-- literals as pairs of a variable and a sign, which are equal exactly where the literals are
abbrev pub parts_of : List Literal → List (ℕ × Bool)
parts_of ls = map (λ l. (l.variable, l.negated)) ls
