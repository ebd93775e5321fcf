-- What a clause's status says of every row that fits the values so far.
use Rattle.std.proofs.Common.{◌≡◌, ℕ, Bool, true, false, cond, not, [], ◌∷◌, Some, None, Option, sym, refl, ap, ◌∙◌, arith}
use Rattle.clause.specs.Logic.{Row, Clause, literal_holds, clause_holds, outside, some_outside}
use Rattle.clause.specs.declared.literal.Literal.{Literal}
use Rattle.clause.proofs.Inside.{either_false}
use Rattle.std.specs.Option.{option_map}
use Rattle.trail.specs.Values.{Values, value_so_far, either, truth, status_from, status}
use Rattle.trail.specs.declared.status.Status.TheVariants.{Satisfied, Unresolved, Unit, Falsified}
use Rattle.trail.proofs.Fitting.{Fits, told}

-- A clause's first literal is open, or has a value and so holds or not.
data First (vs : Values) (row : Row) (p : Option Literal) (l : Literal) (c : Clause) : Type 0 where
  opened : value_so_far vs l.variable ≡ None → status_from vs p (l ∷ c) ≡ either p (status_from vs (Some l) c) (λ _. Unresolved) → First vs row p l c
  holds : status_from vs p (l ∷ c) ≡ Satisfied → clause_holds row (l ∷ c) ≡ true → First vs row p l c
  fails : status_from vs p (l ∷ c) ≡ status_from vs p c → clause_holds row (l ∷ c) ≡ clause_holds row c → First vs row p l c

truth_none : (f : Bool → Bool) (o : Option Bool) → option_map f o ≡ None → o ≡ None
truth_none f None e = refl
truth_none f (Some b) e = let z : ◌≡◌ {A = ℕ} 0 1 = cc in absurd (omega arith)

truth_some : (vs : Values) (row : Row) (l : Literal) (h : Bool) → Fits vs row → truth vs l ≡ Some h → literal_holds row l ≡ h
truth_some vs row l h f e = go (value_so_far vs l.variable) refl
  where
    go : (o : Option Bool) → value_so_far vs l.variable ≡ o → literal_holds row l ≡ h
    go None v = let clash : None ≡ Some h = sym (ap (option_map (λ b. cond l.negated (not b) b)) v) ∙ e in let z : ◌≡◌ {A = ℕ} 0 1 = cc in absurd (omega arith)
    go (Some b) v =
        let same : Some (cond l.negated (not b) b) ≡ Some h = sym (ap (option_map (λ b. cond l.negated (not b) b)) v) ∙ e in
        told vs row l b f v ∙ (let z : cond l.negated (not b) b ≡ h = cc in z)

-- the status in terms of the first literal's truth
pub status_first : (vs : Values) (p : Option Literal) (l : Literal) (c : Clause) (o : Option Bool) → truth vs l ≡ o
    → status_from vs p (l ∷ c) ≡ either o (either p (status_from vs (Some l) c) (λ _. Unresolved)) (λ holds. cond holds Satisfied (status_from vs p c))
status_first vs p l c o e = ap (λ x. either x (either p (status_from vs (Some l) c) (λ _. Unresolved)) (λ holds. cond holds Satisfied (status_from vs p c))) e

first : (vs : Values) (row : Row) (p : Option Literal) (l : Literal) (c : Clause) → Fits vs row → First vs row p l c
first vs row p l c f = go (truth vs l) refl
  where
    go : (o : Option Bool) → truth vs l ≡ o → First vs row p l c
    go None v = opened (truth_none (λ b. cond l.negated (not b) b) (value_so_far vs l.variable) v) (status_first vs p l c None v)
    go (Some true) v = holds (status_first vs p l c (Some true) v) (ap (λ x. cond x true (clause_holds row c)) (truth_some vs row l true f v))
    go (Some false) v = fails (status_first vs p l c (Some false) v) (ap (λ x. cond x true (clause_holds row c)) (truth_some vs row l false f v))

-- once an open literal was seen, the clause is a unit only by that literal, and the rest is false
unit_rest : (vs : Values) (row : Row) (k l : Literal) (c : Clause) → Fits vs row → status_from vs (Some k) c ≡ Unit l → (l ≡ k) × (clause_holds row c ≡ false)
unit_rest vs row k l [] f e = (cc, refl)
unit_rest vs row k l (x ∷ c) f e = go (first vs row (Some k) x c f) (unit_rest vs row k l c f)
  where
    go : First vs row (Some k) x c → (status_from vs (Some k) c ≡ Unit l → (l ≡ k) × (clause_holds row c ≡ false)) → (l ≡ k) × (clause_holds row (x ∷ c) ≡ false)
    go (opened v s) rest = let clash : Unresolved ≡ Unit l = sym s ∙ e in let z : ◌≡◌ {A = ℕ} 0 1 = cc in absurd (omega arith)
    go (holds s h) rest = let clash : Satisfied ≡ Unit l = sym s ∙ e in let z : ◌≡◌ {A = ℕ} 0 1 = cc in absurd (omega arith)
    go (fails s h) rest = let r = rest (sym s ∙ e) in (r.0, h ∙ r.1)

-- a unit clause that holds makes its open literal hold
pub record UnitClause (vs : Values) (row : Row) (l : Literal) (v : ℕ) (c : Clause) : Type 0 where
  pub opened : value_so_far vs l.variable ≡ None
  pub inside : outside v l.variable ≡ false
  pub forces : clause_holds row c ≡ true → literal_holds row l ≡ true

only : (b : Bool) → cond b true false ≡ true → b ≡ true
only true h = refl
only false h = h

pub unit : (vs : Values) (row : Row) (l : Literal) (v : ℕ) (c : Clause) → Fits vs row → some_outside v c ≡ false → status vs c ≡ Unit l → UnitClause vs row l v c
unit vs row l v [] f o e = let z : ◌≡◌ {A = ℕ} 0 1 = cc in absurd (omega arith)
unit vs row l v (x ∷ c) f o e = go (first vs row None x c f) (unit vs row l v c f (either_false (outside v x.variable) (some_outside v c) o).1)
  where
    go : First vs row None x c → (status vs c ≡ Unit l → UnitClause vs row l v c) → UnitClause vs row l v (x ∷ c)
    go (opened w s) deeper =
        let r = unit_rest vs row x l c f (sym s ∙ e) in
        let same : l ≡ x = r.0 in
        record {
          opened = ap (λ y. value_so_far vs y.variable) same ∙ w;
          inside = ap (λ y. outside v y.variable) same ∙ (either_false (outside v x.variable) (some_outside v c) o).0;
          forces = λ h. ap (literal_holds row) same ∙ only (literal_holds row x) (sym (ap (λ y. cond (literal_holds row x) true y) r.1) ∙ h);
        }
    go (holds s h) deeper = let clash : Satisfied ≡ Unit l = sym s ∙ e in let z : ◌≡◌ {A = ℕ} 0 1 = cc in absurd (omega arith)
    go (fails s h) deeper = let d = deeper (sym s ∙ e) in record { opened = d.opened; inside = d.inside; forces = λ k. d.forces (sym h ∙ k) }

-- once an open literal was seen, the clause is not falsified
never : (vs : Values) (row : Row) (k : Literal) (c : Clause) → Fits vs row → status_from vs (Some k) c ≡ Falsified → ⊥
never vs row k [] f e = let z : ◌≡◌ {A = ℕ} 0 1 = cc in omega arith
never vs row k (x ∷ c) f e = go (first vs row (Some k) x c f) (never vs row k c f)
  where
    go : First vs row (Some k) x c → (status_from vs (Some k) c ≡ Falsified → ⊥) → ⊥
    go (opened v s) rest = let clash : Unresolved ≡ Falsified = sym s ∙ e in let z : ◌≡◌ {A = ℕ} 0 1 = cc in omega arith
    go (holds s h) rest = let clash : Satisfied ≡ Falsified = sym s ∙ e in let z : ◌≡◌ {A = ℕ} 0 1 = cc in omega arith
    go (fails s h) rest = rest (sym s ∙ e)

-- a falsified clause is false
pub falsified : (vs : Values) (row : Row) (c : Clause) → Fits vs row → status vs c ≡ Falsified → clause_holds row c ≡ false
falsified vs row [] f e = refl
falsified vs row (x ∷ c) f e = go (first vs row None x c f) (falsified vs row c f)
  where
    go : First vs row None x c → (status vs c ≡ Falsified → clause_holds row c ≡ false) → clause_holds row (x ∷ c) ≡ false
    go (opened v s) rest = absurd (never vs row x c f (sym s ∙ e))
    go (holds s h) rest = let clash : Satisfied ≡ Falsified = sym s ∙ e in let z : ◌≡◌ {A = ℕ} 0 1 = cc in absurd (omega arith)
    go (fails s h) rest = h ∙ rest (sym s ∙ e)
