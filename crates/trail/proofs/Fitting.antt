-- Rows that have the values so far: a row that agrees with the trail fits what the trail wrote.
use Rattle.std.proofs.Common.{◌≡◌, ℕ, ◌-◌, ◌<◌, ◌≤◌, Bool, true, false, cond, not, ◌⊎◌, [], ◌∷◌, ◌++◌, length, get_or, replicate, Some, None, Option, sym, refl, ap, ◌∙◌, inl, inr, arith, get_or-set_other, get_or-set_same}
use borrow.Author.Tests.{both_ways}
use lib.ListN.{length-replicate}
use Rattle.std.proofs.lemmas.List.{set_past, get_or_past, get_or-replicate}
use Rattle.std.proofs.lemmas.Bool.{cases_lt, cases_eq}
use Rattle.clause.specs.Logic.{Row, literal_holds}
use Rattle.clause.specs.declared.literal.Literal.{Literal}
use Rattle.clause.proofs.Inside.{all_true}
use Rattle.trail.specs.Values.{Values, value_so_far, assign}
use Rattle.trail.specs.Trail.{Trail, after, written, agrees}
use Rattle.trail.specs.declared.cells.Entry.{Entry}

-- a row that has every value so far
abbrev pub Fits : Values → Row → Type 0
Fits vs row = (j : ℕ) (b : Bool) → get_or vs j None ≡ Some b → get_or row j false ≡ b

pub no_some : {A : Type 0} (o : Option A) (a : A) → o ≡ None → o ≡ Some a → ⊥
no_some o a n s = let z : ◌≡◌ {A = ℕ} 0 1 = cc in omega arith

same_some : {A : Type 0} (a b : A) → Some a ≡ Some b → a ≡ b
same_some a b e = cc

-- the value that makes a literal hold is the one that it has
pub holds_value : (row : Row) (l : Literal) → literal_holds row l ≡ true → get_or row (l.variable - 1) false ≡ not l.negated
holds_value row l h = go l.negated (get_or row (l.variable - 1) false) h
  where
    go : (n b : Bool) → cond n (not b) b ≡ true → b ≡ not n
    go true true h = absurd (both_ways false refl h)
    go true false h = refl
    go false true h = refl
    go false false h = absurd (both_ways false refl h)

pub fits_open : (v : ℕ) (row : Row) → Fits (replicate v None) row
fits_open v row j b e = go (cases_lt j v)
  where
    go : (j < v) ⊎ (v ≤ j) → get_or row j false ≡ b
    go (inl h) = absurd (no_some _ b (get_or-replicate v j None None h) e)
    go (inr h) = absurd (no_some _ b (get_or_past (replicate v None) j None (omega (arith, length-replicate {A = Option Bool} v None))) e)

pub fits_assign : (vs : Values) (row : Row) (l : Literal) → Fits vs row → literal_holds row l ≡ true → Fits (assign vs l) row
fits_assign vs row l f h j b e = go (cases_eq j (l.variable - 1)) (cases_lt (l.variable - 1) (length vs))
  where
    go : (j ≡ l.variable - 1) ⊎ (j ≡ l.variable - 1 → ⊥) → (l.variable - 1 < length vs) ⊎ (length vs ≤ l.variable - 1) → get_or row j false ≡ b
    go (inr other) s = f j b (sym (get_or-set_other vs (l.variable - 1) j (Some (not l.negated)) None other) ∙ e)
    go (inl same) (inr past) = f j b (ap (λ x. get_or x j None) (sym (set_past vs (l.variable - 1) (Some (not l.negated)) past)) ∙ e)
    go (inl same) (inl lt) =
        let own : get_or (assign vs l) j None ≡ Some (not l.negated) =
        ap (λ k. get_or (assign vs l) k None) same ∙ get_or-set_same vs (l.variable - 1) (Some (not l.negated)) None lt in
        ap (λ k. get_or row k false) same ∙ holds_value row l h ∙ same_some (not l.negated) b (sym own ∙ e)

fits_after : (vs : Values) (t : Trail) (row : Row) → Fits vs row → agrees row t ≡ true → Fits (after vs t) row
fits_after vs [] row f a = f
fits_after vs (e ∷ t) row f a =
    let both = all_true (literal_holds row e.literal) (agrees row t) a in
    fits_after (assign vs e.literal) t row (fits_assign vs row e.literal f both.0) both.1

pub fits_written : (v : ℕ) (t : Trail) (row : Row) → agrees row t ≡ true → Fits (written v t) row
fits_written v t row a = fits_after (replicate v None) t row (fits_open v row) a

-- one position more
after_push : (vs : Values) (t : Trail) (e : Entry) → after vs (t ++ (e ∷ [])) ≡ assign (after vs t) e.literal
after_push vs [] e = refl
after_push vs (d ∷ t) e = after_push (assign vs d.literal) t e

pub written_push : (v : ℕ) (t : Trail) (e : Entry) → written v (t ++ (e ∷ [])) ≡ assign (written v t) e.literal
written_push v t e = after_push (replicate v None) t e

pub agrees_push : (row : Row) (t : Trail) (e : Entry) → agrees row t ≡ true → literal_holds row e.literal ≡ true → agrees row (t ++ (e ∷ [])) ≡ true
agrees_push row [] e a h = rw h
agrees_push row (d ∷ t) e a h =
    let both = all_true (literal_holds row d.literal) (agrees row t) a in
    let first = both.0 in
    rw first (agrees_push row t e both.1 h)

-- of a row that fits the values so far, a literal that has a value is what it says
pub told : (vs : Values) (row : Row) (l : Literal) (b : Bool) → Fits vs row → value_so_far vs l.variable ≡ Some b → literal_holds row l ≡ cond l.negated (not b) b
told vs row l b f e = ap (λ x. cond l.negated (not x) x) (f (l.variable - 1) b e)
