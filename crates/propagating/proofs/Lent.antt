-- A search's slots that were lent as a slice, changed and came back.
use Rattle.std.proofs.Common.{◌≡◌, ℕ, ◌+◌, ◌-◌, ◌≤◌, false, List, ◌++◌, length, get_or, take, drop, set, None, sym, refl, ap, ◌∙◌, subst, arith, take_at}
use Rattle.clause.specs.Logic.{Clause, negation, outside}
use Rattle.clause.specs.declared.literal.Literal.{Literal}
use Rattle.trail.specs.Cells.{values_of, entries_of, empty_entry}
use Rattle.trail.specs.Values.{Values, assign, value_so_far}
use Rattle.trail.specs.Trail.{literal_at}
use Rattle.trail.specs.Debt.{debt}
use Rattle.trail.specs.Standing.{Standing, BackTo, Reversed}
use Rattle.trail.specs.declared.cells.Entry.{Entry}
use Rattle.trail.specs.declared.cells.Slot.{Slot}
use Rattle.trail.proofs.Soundness.{Pushed, fresh_at}
use Rattle.trail.proofs.Slots.{field_at}

-- they are as many as before
pub as_many : (ss new : List Slot) (len : ℕ) → length new ≡ len → length (take len (new ++ drop (length new) ss)) ≡ len
as_many ss new len l = ap length (take_at new (drop (length new) ss) len l) ∙ l

-- a literal was put at position n
pub record Put (n : ℕ) (e : Entry) (ss ss' : List Slot) : Type 0 where
  pub values : values_of ss' ≡ assign (values_of ss) e.literal
  pub entries : entries_of ss' ≡ set (entries_of ss) n e

pub put : (ss lent new : List Slot) (len n : ℕ) (e : Entry) → lent ≡ ss → length new ≡ len → values_of new ≡ assign (values_of lent) e.literal → entries_of new ≡ set (entries_of lent) n e
    → Put n e ss (take len (new ++ drop (length new) ss))
put ss lent new len n e s l v w =
    let back = take_at new (drop (length new) ss) len l in
    record {
      values = ap values_of back ∙ v ∙ ap (λ x. assign (values_of x) e.literal) s;
      entries = ap entries_of back ∙ w ∙ ap (λ x. set (entries_of x) n e) s;
    }

-- the trail was taken back to position p
pub record Undone (v n p : ℕ) (ss ss' : List Slot) : Type 0 where
  pub entries : entries_of ss' ≡ entries_of ss
  pub back : BackTo v n p (entries_of ss) (values_of ss')

pub undone : (v : ℕ) (ss lent new : List Slot) (len n p : ℕ) → lent ≡ ss → length lent ≡ v → length new ≡ len → entries_of new ≡ entries_of lent → BackTo (length lent) n p (entries_of lent) (values_of new)
    → Undone v n p ss (take len (new ++ drop (length new) ss))
undone v ss lent new len n p s m l e b =
    let back = take_at new (drop (length new) ss) len l in
    record {
      entries = ap entries_of back ∙ e ∙ ap entries_of s;
      back = subst (λ x. BackTo v n p (entries_of ss) (values_of x)) (sym back) (subst (λ x. BackTo v n p (entries_of x) (values_of new)) s (subst (λ k. BackTo k n p (entries_of lent) (values_of new)) m b));
    }

-- The search stands after a literal was put last, and owes less.
pub record Further (v : ℕ) (cs : List Clause) (n : ℕ) (ss : List Slot) (n' : ℕ) (ss' : List Slot) : Type 0 where
  pub standing : Standing v cs n' (values_of ss') (entries_of ss')
  pub owes : debt v (take n' (entries_of ss')) + 1 ≤ debt v (take n (entries_of ss))

pub further : (v : ℕ) (cs : List Clause) (n : ℕ) (e : Entry) (ss ss' : List Slot) → Put n e ss ss' → Pushed v cs n (entries_of ss) (assign (values_of ss) e.literal) (set (entries_of ss) n e)
    → Further v cs n ss (n + 1) ss'
further v cs n e ss ss' p q =
    record {
      standing = subst (λ x. Standing v cs (n + 1) x (entries_of ss')) (sym p.values) (subst (λ x. Standing v cs (n + 1) (assign (values_of ss) e.literal) x) (sym p.entries) q.standing);
      owes = let same : debt v (take (n + 1) (entries_of ss')) ≡ debt v (take (n + 1) (set (entries_of ss) n e)) = ap (λ x. debt v (take (n + 1) x)) p.entries in omega (arith, q.owes);
    }

-- The variable of a slot that was found open is open.
pub open_slot : (vs : Values) (slot : ℕ) → get_or vs slot None ≡ None → value_so_far vs (slot + 1) ≡ None
open_slot vs slot e = ap (λ k. get_or vs k None) (let z : slot + 1 - 1 ≡ slot = omega arith in z) ∙ e

-- The literal of the decision that the trail was taken back to.
pub decision_read : (v n p : ℕ) (ss ss' : List Slot) (d : Slot) → length ss' ≡ v → n ≤ v → Undone v n p ss ss' → (get_or ss' p d).entry.literal ≡ literal_at (entries_of ss) p
decision_read v n p ss ss' d l h u =
    let b = u.back.below in
    ap (λ e. e.literal) (field_at (λ s. s.entry) ss' p d empty_entry (omega arith)) ∙ ap (λ x. literal_at x p) u.entries

pub decision_inside : (v : ℕ) (cs : List Clause) (n p : ℕ) (ss ss' : List Slot) → Standing v cs n (values_of ss) (entries_of ss) → Undone v n p ss ss' → outside v (literal_at (entries_of ss) p).variable ≡ false
decision_inside v cs n p ss ss' s u = (fresh_at v (entries_of ss) n p (omega (arith, s.short, s.entries_long)) u.back.below s.fresh).0

pub reversed : (v n p : ℕ) (ss ss' ss'' : List Slot) (l : Literal) → l ≡ negation (literal_at (entries_of ss) p) → Undone v n p ss ss' → Put p (record { literal = l; decided = false }) ss' ss''
    → Reversed v n (entries_of ss) (p + 1) (values_of ss'') (entries_of ss'')
reversed v n p ss ss' ss'' l e u q =
    record {
      p = p;
      back = record { below = u.back.below; decided = u.back.decided; forced = u.back.forced; written = refl };
      trail = refl;
      values = q.values ∙ ap (λ x. assign x l) u.back.written ∙ ap (assign _) e;
      entries = q.entries ∙ ap (λ x. set x p (record { literal = l; decided = false })) u.entries ∙ ap (λ x. set (entries_of ss) p (record { literal = x; decided = false })) e;
    }
