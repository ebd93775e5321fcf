-- What a clause's status does to a search, and what a full trail says.
use Rattle.std.proofs.Common.{◌≡◌, ℕ, ◌<◌, ◌≤◌, Bool, true, false, ◌⊎◌, List, length, get_or, take, Some, None, Option, unwrap_or, sym, refl, ap, ◌∙◌, subst, inl, inr, arith}
use borrow.Author.Tests.{both_ways}
use lib.ListN.{length-map}
use Rattle.std.proofs.lemmas.List.{get_or-map, get_or_past, ext_get_or}
use Rattle.std.proofs.lemmas.Bool.{cases_lt}
use Rattle.clause.specs.Logic.{Row, Clause, clause_holds, all_hold, outside, some_outside}
use Rattle.clause.specs.declared.literal.Literal.{Literal}
use Rattle.trail.specs.Values.{Values, value_so_far, status, row_of}
use Rattle.trail.specs.Trail.{Trail, agrees, Forces, Refuted}
use Rattle.trail.specs.Standing.{Standing}
use Rattle.trail.specs.declared.status.Status.TheVariants.{Unit, Falsified}
use Rattle.trail.proofs.Fitting.{Fits, fits_written}
use Rattle.trail.proofs.Statuses.{unit, falsified}

-- a clause that holds wherever the formula does
abbrev pub Entailed : List Clause → Clause → Type 0
Entailed cs c = (row : Row) → all_hold row cs ≡ true → clause_holds row c ≡ true

pub row_value : (vs : Values) (j : ℕ) → get_or (row_of vs) j false ≡ unwrap_or (get_or vs j None) false
row_value vs j = go (cases_lt j (length vs))
  where
    go : (j < length vs) ⊎ (length vs ≤ j) → get_or (row_of vs) j false ≡ unwrap_or (get_or vs j None) false
    go (inl h) = get_or-map (λ o. unwrap_or o false) vs j None false h
    go (inr h) = get_or_past (row_of vs) j false (omega (arith, length-map vs (λ o. unwrap_or o false))) ∙ sym (ap (λ o. unwrap_or o false) (get_or_past vs j None h))

pub fits_row : (vs : Values) → Fits vs (row_of vs)
fits_row vs j b e = row_value vs j ∙ ap (λ o. unwrap_or o false) e

pub fits_standing : (v : ℕ) (cs : List Clause) (n : ℕ) (vs : Values) (es : Trail) (row : Row) → Standing v cs n vs es → agrees row (take n es) ≡ true → Fits vs row
fits_standing v cs n vs es row s a = subst (λ x. Fits x row) (sym s.written) (fits_written v (take n es) row a)

pub conflict : (v : ℕ) (cs : List Clause) (n : ℕ) (vs : Values) (es : Trail) (c : Clause) → Standing v cs n vs es → Entailed cs c → status vs c ≡ Falsified → Refuted v cs (take n es)
conflict v cs n vs es c s t f row m a = both_ways (clause_holds row c) (falsified vs row c (fits_standing v cs n vs es row s a) f) (t row m.holds)

-- a unit clause's literal may be put
pub record MayPut (v : ℕ) (cs : List Clause) (n : ℕ) (vs : Values) (es : Trail) (l : Literal) : Type 0 where
  pub inside : outside v l.variable ≡ false
  pub opened : value_so_far vs l.variable ≡ None
  pub forces : Forces v cs (take n es) l

pub may_put : (v : ℕ) (cs : List Clause) (n : ℕ) (vs : Values) (es : Trail) (c : Clause) (l : Literal) → Standing v cs n vs es → Entailed cs c → some_outside v c ≡ false → status vs c ≡ Unit l → MayPut v cs n vs es l
may_put v cs n vs es c l s t o u =
    let own = unit vs (row_of vs) l v c (fits_row vs) o u in
    record {
      inside = own.inside;
      opened = own.opened;
      forces = λ row m a. (unit vs row l v c (fits_standing v cs n vs es row s a) o u).forces (t row m.holds);
    }

-- No variable is open: only one row agrees with the trail.
abbrev pub Full : Values → Type 0
Full vs = (j : ℕ) → j < length vs → get_or vs j None ≡ None → ⊥

full_row : (vs : Values) (row : Row) → Full vs → Fits vs row → length row ≡ length vs → row ≡ row_of vs
full_row vs row full f l = ext_get_or false row (row_of vs) (l ∙ sym (length-map vs (λ o. unwrap_or o false))) (λ i h. go i (omega arith) (get_or vs i None) refl)
  where
    go : (i : ℕ) → i < length vs → (o : Option Bool) → get_or vs i None ≡ o → get_or row i false ≡ get_or (row_of vs) i false
    go i h None e = absurd (full i h e)
    go i h (Some b) e = f i b e ∙ sym (fits_row vs i b e)

pub full_refuted : (v : ℕ) (cs : List Clause) (n : ℕ) (vs : Values) (es : Trail) → Standing v cs n vs es → Full vs → all_hold (row_of vs) cs ≡ false → Refuted v cs (take n es)
full_refuted v cs n vs es s full h row m a =
    let same : row ≡ row_of vs = full_row vs row full (fits_standing v cs n vs es row s a) (m.long ∙ sym s.values_long) in
    both_ways (all_hold row cs) (ap (λ x. all_hold x cs) same ∙ h) m.holds
