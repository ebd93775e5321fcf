-- What a step of a search does to what the engine means.
use Rattle.std.proofs.Common.{◌≡◌, ℕ, ◌+◌, sym, refl, ap, subst}
use Rattle.clause.specs.Logic.{Solves, Unsolvable}
use Rattle.engine.specs.Calls.{Seeks, Moves, StepsTo}
use Rattle.engine.specs.Phases.{state_in, phase_after}
use Rattle.engine.specs.View.{State}
use Rattle.engine.specs.declared.types.Answer.{Answer}
use Rattle.engine.specs.declared.types.Answer.TheVariants.{More, Model, Unsatisfiable}
use Rattle.engine.specs.declared.types.Phase.{Phase}
use Rattle.engine.specs.declared.types.Places.{Places}
use Rattle.engine.specs.declared.types.Phase.TheVariants as phase
use Rattle.trail.specs.Cells.{formula}
use Rattle.trail.specs.Debt.{nodes}
use Rattle.trail.specs.Values.{row_of}
use Rattle.trail.proofs.Debts.{debt_some}
use Rattle.propagating.specs.declared.search.Search.{Search}
use Rattle.propagating.specs.declared.propagating.Propagating.{Propagating}
use Rattle.propagating.specs.Meaning.{view_of}
use Rattle.propagating.specs.Parts.{clauses_in, values_in, trail_in, owes, Keeps, TurnsFrom, Turns}

-- what the engine is doing, by its search
abbrev pub state : Phase → Search → State
state p s = state_in p (owes s) (row_of (values_in s))

pub same_clauses : (s t : Search) → Keeps s t → clauses_in t ≡ clauses_in s
same_clauses s t k = ap (λ w. formula w.items) k.words

seeks : (s t : Search) (d : ℕ) (a : Answer) → Keeps s t → TurnsFrom d a t → Seeks s.slots.len (clauses_in s) d a (state (phase_after a) t)
seeks s t d More k u = (owes t, refl, debt_some t.slots.len (trail_in t), u)
seeks s t d Model k u =
    (row_of (values_in t), refl, subst (λ cs. Solves s.slots.len cs (row_of (values_in t))) (same_clauses s t k) (subst (λ v. Solves v (clauses_in t) (row_of (values_in t))) k.variables u))
seeks s t d Unsatisfiable k u = (refl, subst (λ cs. Unsolvable s.slots.len cs) (same_clauses s t k) (subst (λ v. Unsolvable v (clauses_in t)) k.variables u))

-- What a step comes to, from a phase.
pub record Comes (s : Search) (p : Phase) (a : Answer) (t : Search) : Type 0 where
  pub keeps : Keeps s t
  pub moves : Moves s.slots.len (clauses_in s) (state p s) a (state (phase_after a) t)

abbrev stays : (s : Search) → Keeps s s
stays s = record { words = refl; variables = refl; room = refl }

in_phase : (s t : Search) (p q : Phase) (a : Answer) → p ≡ q → Keeps s t → Moves s.slots.len (clauses_in s) (state q s) a (state (phase_after a) t) → Comes s p a t
in_phase s t p q a e k m = record { keeps = k; moves = subst (λ x. Moves s.slots.len (clauses_in s) (state x s) a (state (phase_after a) t)) (sym e) m }

pub again_model : (s : Search) (p : Phase) → p ≡ phase.Model → Comes s p Model s
again_model s p e = in_phase s s p phase.Model Model e (stays s) (refl, refl)

pub again_none : (s : Search) (p : Phase) → p ≡ phase.Unsatisfiable → Comes s p Unsatisfiable s
again_none s p e = in_phase s s p phase.Unsatisfiable Unsatisfiable e (stays s) (refl, refl)

pub under_way : (s t : Search) (p : Phase) (a : Answer) → p ≡ phase.Searching → Keeps s t → Turns s a t → Comes s p a t
under_way s t p a e k u = in_phase s t p phase.Searching a e k (seeks s t (owes s) a k u)

-- idle, all is owed
pub first : (s t : Search) (p : Phase) (a : Answer) → p ≡ phase.Idle → Keeps s t → TurnsFrom (nodes s.slots.len) a t → Comes s p a t
first s t p a e k u = in_phase s t p phase.Idle a e k (seeks s t (nodes s.slots.len) a k u)

pub comes_as : (s t t' : Search) (p : Phase) (a a' : Answer) → t' ≡ t → a' ≡ a → Comes s p a t → Comes s p a' t'
comes_as s t t' p a a' e f c = subst (λ x. Comes s p a' x) (sym e) (subst (λ x. Comes s p x t) (sym f) c)

-- What the engine means after the step, counted.
pub steps_to : (e : Propagating) (t : Search) (a : Answer) (count : ℕ) (places : Places) (p : Phase) → count ≡ e.control.count + 1 → places ≡ e.control.places → p ≡ phase_after a → Comes e.search e.control.phase a t
    → StepsTo (view_of e) a (record { variables = t.slots.len; clauses = clauses_in t; count = count; places = places; state = state p t })
steps_to e t a count places p n l q c =
    record {
      variables = c.keeps.variables;
      clauses = same_clauses e.search t c.keeps;
      places = l;
      count = n;
      moves = subst (λ x. Moves e.search.slots.len (clauses_in e.search) (state e.control.phase e.search) a (state x t)) (sym q) c.moves;
    }
