-- Many steps one after another: what they keep, that they lower the debt, and that the answer is right.
use Rattle.std.proofs.Common.{◌≡◌, ℕ, zero, suc, ◌+◌, ◌*◌, ◌^◌, ◌<◌, ◌≤◌, true, false, List, None, refl, ap, ◌∙◌, subst, add-one, arith, pow_pos}
use borrow.Author.Tests.{both_ways}
use native.Mathlib.Nat.{pow-succ'}
use Rattle.clause.specs.Logic.{Clause, Solves}
use Rattle.engine.specs.declared.types.Answer.{Answer}
use Rattle.engine.specs.declared.types.Answer.TheVariants.{More, Model, Unsatisfiable}
use Rattle.engine.specs.View.{View, State, allowance, owed, owed_in, has_answered}
use Rattle.engine.specs.View.State.{idle, searching, model, none}
use Rattle.engine.specs.Calls.{Seeks, Moves, StepsTo, step_limit, step_refusal}
use Rattle.engine.proofs.Refusals.{step_admits}
use Rattle.engine.specs.Search.{Mores, Ends, Steps, Right, Searched, Agree}

-- k steps that answer more: what stays, and, from an engine that had not answered, the debt that is left
pub record Went (k : ℕ) (e e' : View) : Type 0 where
  pub variables : e'.variables ≡ e.variables
  pub clauses : e'.clauses ≡ e.clauses
  pub places : e'.places ≡ e.places
  pub count : e'.count ≡ e.count + k
  pub unanswered : has_answered e.state ≡ false → has_answered e'.state ≡ false
  pub debt : has_answered e.state ≡ false → k + owed e' ≤ owed e

-- from a state that has not answered, a step seeks
pub seeks : (v : ℕ) (cs : List Clause) (s : State) (a : Answer) (s' : State) → has_answered s ≡ false → Moves v cs s a s' → Seeks v cs (owed_in v s) a s'
seeks v cs idle a s' h m = m
seeks v cs (searching d) a s' h m = m
seeks v cs (model row) a s' h m = absurd (both_ways true h refl)
seeks v cs none a s' h m = absurd (both_ways true h refl)

searching_open : (s : State) (d : ℕ) → s ≡ searching d → has_answered s ≡ false
searching_open s d e = ap has_answered e

pub went : (k : ℕ) (e e' : View) → Mores k e e' → Went k e e'
went zero e e' m =
    record {
      variables = ap (λ x. x.variables) m;
      clauses = ap (λ x. x.clauses) m;
      places = ap (λ x. x.places) m;
      count = ap (λ x. x.count) m ∙ omega arith;
      unanswered = λ h. ap (λ x. has_answered x.state) m ∙ h;
      debt = λ h. let same : owed e' ≡ owed e = ap owed m in omega arith;
    }
went (suc k) e e' m =
    let w = went k e m.0 m.1 in
    let s = m.2 in
    record {
      variables = s.variables ∙ w.variables;
      clauses = s.clauses ∙ w.clauses;
      places = s.places ∙ w.places;
      count = omega (arith, s.count, w.count);
      unanswered = λ h. searching_open e'.state _ (seeks _ _ _ _ _ (w.unanswered h) s.moves).1;
      debt = λ h.
          let q = seeks _ _ _ _ _ (w.unanswered h) s.moves in
          let left : owed e' ≡ q.0 = ap (owed_in e'.variables) q.1 in
          omega (arith, w.debt h, q.3, left);
    }

-- from idle there is always a step to make
pub idle_owes : (e : View) → e.state ≡ idle → (owed e ≡ allowance e.variables) × (1 ≤ owed e)
idle_owes e i =
    let v : ℕ = e.variables in
    let same : owed e ≡ allowance v = ap (owed_in v) i in
    let twice : 2 ^ (v + 1) ≡ 2 * 2 ^ v = ap (λ y. 2 ^ y) (add-one v) ∙ pow-succ' 2 v in
    (same, omega (arith, pow_pos v))

-- after a step that answers more there is a step to make
more_owes : (k : ℕ) (e e' : View) → Mores k e e' → has_answered e.state ≡ false → 1 ≤ owed e → 1 ≤ owed e'
more_owes zero e e' m h o = let same : owed e' ≡ owed e = ap owed m in omega arith
more_owes (suc k) e e' m h o =
    let w = went k e m.0 m.1 in
    let q = seeks _ _ _ _ _ (w.unanswered h) m.2.moves in
    let left : owed e' ≡ q.0 = ap (owed_in e'.variables) q.1 in
    omega (arith, q.2)

-- what a step that answers has answered
answered : (v : ℕ) (cs : List Clause) (d : ℕ) (a : Answer) (s' : State) → Seeks v cs d a s' → Right v cs a s'
answered v cs d More s' q = searching_open s' q.0 q.1
answered v cs d Model s' q = q
answered v cs d Unsatisfiable s' q = q

same_right : (v v' : ℕ) (cs cs' : List Clause) (a : Answer) (s : State) → v' ≡ v → cs' ≡ cs → Right v' cs' a s → Right v cs a s
same_right v v' cs cs' a s e f r = subst (λ x. Right v x a s) f (subst (λ x. Right x cs' a s) e r)

pub ends_right : (k : ℕ) (e : View) (a : Answer) (e' : View) → Ends k e a e' → has_answered e.state ≡ false → Right e.variables e.clauses a e'.state
ends_right k e a e' r h =
    let w = went r.before e r.at r.mores in
    same_right _ _ _ _ a e'.state w.variables w.clauses (answered _ _ _ a e'.state (seeks _ _ _ _ _ (w.unanswered h) r.step.moves))

-- an engine that has answered owes nothing
right_owes : (v w : ℕ) (cs : List Clause) (a : Answer) (s : State) → (a ≡ More → ⊥) → Right v cs a s → owed_in w s ≡ 0
right_owes v w cs More s n r = absurd (n refl)
right_owes v w cs Model s n r = ap (owed_in w) r.1
right_owes v w cs Unsatisfiable s n r = ap (owed_in w) r.0

-- a search that spent its budget
pub spent : (k budget : ℕ) (e e' : View) → k ≡ budget → Mores k e e' → Searched e budget More k e'
spent k budget e e' b m =
    let w = went k e e' m in
    record {
      variables = w.variables;
      clauses = w.clauses;
      places = w.places;
      count = w.count;
      within = omega arith;
      whole = λ _. b;
      steps = m;
      right = w.unanswered;
      debt = λ h _. w.debt h;
      ends = λ h o small _. let left = more_owes k e e' m h o in omega (arith, w.debt h);
      idle_bound = λ i. omega (arith, w.debt (ap has_answered i), (idle_owes e i).0);
      idle_ends = λ i small _. let own = idle_owes e i in let left = more_owes k e e' m (ap has_answered i) own.1 in omega (arith, w.debt (ap has_answered i), own.0);
    }

-- a search that answered
ends_steps : (k : ℕ) (e : View) (a : Answer) (e' : View) → (a ≡ More → ⊥) → Ends k e a e' → Steps k e a e'
ends_steps k e More e' n r = absurd (n refl)
ends_steps k e Model e' n r = r
ends_steps k e Unsatisfiable e' n r = r

pub found : (k budget : ℕ) (e : View) (a : Answer) (m e' : View) → k < budget → Mores k e m → StepsTo m a e' → (a ≡ More → ⊥) → Searched e budget a (k + 1) e'
found k budget e a m e' b w s n =
    let r : Ends (k + 1) e a e' = record { before = k; last = refl; at = m; mores = w; step = s } in
    let before = went k e m w in
    let total : (has_answered e.state ≡ false) → 1 ≤ owed e → k + 1 + owed e' ≤ owed e =
    λ h o. let rest : owed e' ≡ 0 = right_owes e.variables e'.variables e.clauses a e'.state n (ends_right (k + 1) e a e' r h) in
    let some = more_owes k e m w h o in
    omega (arith, before.debt h) in
    record {
      variables = s.variables ∙ before.variables;
      clauses = s.clauses ∙ before.clauses;
      places = s.places ∙ before.places;
      count = omega (arith, s.count, before.count);
      within = omega arith;
      whole = λ e. absurd (n e);
      steps = ends_steps (k + 1) e a e' n r;
      right = ends_right (k + 1) e a e' r;
      debt = total;
      ends = λ h o small more. n more;
      idle_bound = λ i. let own = idle_owes e i in omega (arith, total (ap has_answered i) own.1, own.0);
      idle_ends = λ i small more. n more;
    }

-- within the budget no step is refused
pub admitted : (k budget : ℕ) (e m : View) → k < budget → e.count + budget ≤ step_limit → Mores k e m → step_refusal m ≡ None
admitted k budget e m b l w = step_admits m (omega (arith, (went k e m w).count))

-- a model of one engine's clauses is a model of the other's
pub agree : Agree
agree e f ve ce p q =
    let m = ends_right p.k e Model p.after p.steps (ap has_answered p.idles) in
    let u = ends_right q.k f Unsatisfiable q.after q.steps (ap has_answered q.idles) in
    u.1 m.0 (subst (λ x. Solves f.variables x m.0) ce (subst (λ x. Solves x e.clauses m.0) ve m.2))
