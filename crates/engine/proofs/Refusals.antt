-- When a call of an engine is refused, and when not.
use Rattle.std.proofs.Common.{◌≡◌, ℕ, ◌+◌, ◌≤◌, Bool, true, false, ltb, length, Some, None, Option, refl, ap, ◌∙◌, arith, le-ltb, ltb-false}
use Rattle.refusal.specs.declared.refusal.Refusal.{Refusal}
use Rattle.engine.specs.declared.types.Places.{Places}
use Rattle.clause.specs.Logic.{Row, Clause, words, some_outside}
use Rattle.engine.specs.Calls.{refuse_if, growth_refusal, addition_refusal, add_refusal, step_refusal, step_limit}
use Rattle.engine.specs.Search.{run_refusal}
use Rattle.engine.specs.View.{View, is_searching}
use Rattle.engine.specs.Phases.{state_in, in_search}
use Rattle.engine.specs.declared.types.Phase.{Phase}
use Rattle.engine.specs.declared.types.Phase.TheVariants.{Idle, Searching, Model, Unsatisfiable}

pub none_some : {A : Type 0} {x : A} (o : Option A) → o ≡ None → o ≡ Some x → ⊥
none_some o n s = let z : ◌≡◌ {A = ℕ} 0 1 = cc in omega arith

pub step_admits : (e : View) → e.count + 1 ≤ step_limit → step_refusal e ≡ None
step_admits e h = let t : ltb step_limit (e.count + 1) ≡ false = le-ltb _ _ h in rw t

pub run_admits : (e : View) (budget : ℕ) → e.count + budget ≤ step_limit → run_refusal e budget ≡ None
run_admits e budget h = let t : ltb step_limit (e.count + budget) ≡ false = le-ltb _ _ h in rw t

-- what a phase says of the state of an engine in it
pub searching_in : (p : Phase) (debt : ℕ) (row : Row) → is_searching (state_in p debt row) ≡ in_search p
searching_in Idle debt row = refl
searching_in Searching debt row = refl
searching_in Model debt row = refl
searching_in Unsatisfiable debt row = refl

-- what holds where a test lets a call pass
passes : (test : Bool) (x : Refusal) (rest : Option Refusal) → refuse_if test x rest ≡ None → (test ≡ false) × (rest ≡ None)
passes true x rest h = absurd (none_some (refuse_if true x rest) h refl)
passes false x rest h = (refl, h)

pub may_grow : (searches : Bool) (p : Places) (v k : ℕ) → growth_refusal searches p v k ≡ None → v + k ≤ p.variables
may_grow searches p v k h = ltb-false p.variables (v + k) (passes _ _ _ (passes searches _ _ h).1).0

pub may_add : (searches : Bool) (p : Places) (v used : ℕ) (c : Clause) → addition_refusal searches p v used c ≡ None → (some_outside v c ≡ false) × (used + (length c + 1) ≤ p.words)
may_add searches p v used c h =
    let inside = passes (some_outside v c) _ _ (passes searches _ _ h).1 in
    (inside.0, ltb-false p.words (used + (length c + 1)) (passes _ _ _ inside.1).0)

-- the test of an addition over the parts of an engine is the engine's own
pub add_passes : (e : View) (c : Clause) (searches : Bool) (v used : ℕ) → is_searching e.state ≡ searches → e.variables ≡ v → words e.clauses ≡ used
    → addition_refusal searches e.places v used c ≡ None → add_refusal e c ≡ None
add_passes e c searches v used s n u h =
    ap (λ b. addition_refusal b e.places e.variables (words e.clauses) c) s
    ∙ ap (λ k. addition_refusal searches e.places k (words e.clauses) c) n
    ∙ ap (λ k. addition_refusal searches e.places v k c) u ∙ h
