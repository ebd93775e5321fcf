-- Literals of a clause within the variables 1 to v, one by one.
use Rattle.std.proofs.Common.{◌≡◌, ℕ, ◌+◌, ◌<◌, ◌≤◌, Bool, true, false, cond, ltb, List, [], ◌∷◌, ◌++◌, length, get_or, drop, sym, refl, ap, ◌∙◌, arith, ltb-false, le-ltb}
use borrow.Author.Tests.{both_ways}
use Rattle.std.proofs.lemmas.List.{drop_more}
use Rattle.clause.specs.Logic.{Clause, outside, some_outside, all_inside}
use Rattle.clause.specs.declared.literal.Literal.{Literal}

abbrev pub no_literal : Literal
no_literal = record { variable = 0; negated = false }

pub either_false : (a b : Bool) → cond a true b ≡ false → (a ≡ false) × (b ≡ false)
either_false true b h = absurd (both_ways true h refl)
either_false false b h = (refl, h)

pub both_true : (a b : Bool) → cond a false b ≡ true → (a ≡ false) × (b ≡ true)
both_true true b h = absurd (both_ways false refl h)
both_true false b h = (refl, h)

pub all_true : (a b : Bool) → cond a b false ≡ true → (a ≡ true) × (b ≡ true)
all_true true b h = (refl, h)
all_true false b h = absurd (both_ways false refl h)

-- one of the variables 1 to v
pub record Within (v x : ℕ) : Type 0 where
  pub low : 1 ≤ x
  pub high : x ≤ v

pub within : (v x : ℕ) → outside v x ≡ false → Within v x
within v x h =
    let ends = either_false (ltb x 1) (ltb v x) h in
    record { low = ltb-false x 1 ends.0; high = ltb-false v x ends.1 }

pub not_outside : (v x : ℕ) → 1 ≤ x → x ≤ v → outside v x ≡ false
not_outside v x a b =
    let low : ltb x 1 ≡ false = le-ltb _ _ a in
    let high : ltb v x ≡ false = le-ltb _ _ b in
    rw (low, high)

-- the literal at a place, and what is left after it
pub outside_at : (v : ℕ) (c : Clause) (i : ℕ) → i < length c → some_outside v (drop i c) ≡ cond (outside v (get_or c i no_literal).variable) true (some_outside v (drop (i + 1) c))
outside_at v c i h = ap (some_outside v) (drop_more c i no_literal h)

-- the literal at a place of a clause that lies inside, and that the rest lies inside
pub record InsideAt (v : ℕ) (c : Clause) (i : ℕ) : Type 0 where
  pub here : Within v (get_or c i no_literal).variable
  pub rest : some_outside v (drop (i + 1) c) ≡ false

pub inside_at : (v : ℕ) (c : Clause) (i : ℕ) → i < length c → some_outside v (drop i c) ≡ false → InsideAt v c i
inside_at v c i h o =
    let parts = either_false (outside v (get_or c i no_literal).variable) (some_outside v (drop (i + 1) c)) (sym (outside_at v c i h) ∙ o) in
    record { here = within v (get_or c i no_literal).variable parts.0; rest = parts.1 }

-- more variables
pub clause_more : (v k : ℕ) (c : Clause) → some_outside v c ≡ false → some_outside (v + k) c ≡ false
clause_more v k [] h = refl
clause_more v k (l ∷ c) h =
    let parts = either_false (outside v l.variable) (some_outside v c) h in
    let w = within v l.variable parts.0 in
    let one : outside (v + k) l.variable ≡ false = not_outside (v + k) l.variable w.low (omega (arith, w.high)) in
    rw one (clause_more v k c parts.1)

pub inside_more : (v k : ℕ) (cs : List Clause) → all_inside v cs ≡ true → all_inside (v + k) cs ≡ true
inside_more v k [] h = refl
inside_more v k (c ∷ cs) h =
    let both = both_true (some_outside v c) (all_inside v cs) h in
    let one : some_outside (v + k) c ≡ false = clause_more v k c both.0 in
    rw one (inside_more v k cs both.1)

-- one clause more
pub inside_push : (v : ℕ) (cs : List Clause) (c : Clause) → all_inside v cs ≡ true → some_outside v c ≡ false → all_inside v (cs ++ (c ∷ [])) ≡ true
inside_push v [] c h o = rw o
inside_push v (d ∷ cs) c h o =
    let both = both_true (some_outside v d) (all_inside v cs) h in
    let one = both.0 in
    rw one (inside_push v cs c both.1 o)
