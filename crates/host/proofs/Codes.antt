-- The host's numbers, from what reading and matching answer.
use Rattle.std.proofs.Common.{◌≡◌, ℕ, List, Ok, Err, Result, sym, refl, ap, ◌∙◌, subst, inl, inr, arith, MatchResult}
use Rattle.refusal.specs.declared.refusal.Refusal.TheVariants.{NoMemory}
use Rattle.refusal.specs.declared.fault.Fault.{Fault}
use Rattle.refusal.specs.Faults.{fault_at}
use Rattle.refusal.specs.Numbers.{number_of}
use Rattle.circuit.specs.declared.pair.Pair.{Pair}
use Rattle.circuit.specs.View.{drawn}
use Rattle.sheet.specs.Answers.{PairLoaded}
use Rattle.host.specs.Codes.{ReadCode, Compared, MatchCode}

refusal_is : {X : Type 0} (f g : Fault) → ◌≡◌ {A = Result X Fault} (Err f) (Err g) → f ≡ g
refusal_is f g e = cc

never : {X : Type 0} (x : X) (g : Fault) → Ok x ≡ Err g → ⊥
never x g e = let z : ◌≡◌ {A = ℕ} 0 1 = cc in omega arith

read_ok : (t : List ℕ) (p : Pair) → PairLoaded t (Ok p) → ReadCode t 0
read_ok t p (inl h) = inr (rw h.0 refl)
read_ok t p (inr e) = absurd (never p (fault_at NoMemory 0) e)

read_err : (t : List ℕ) (f : Fault) (r : ℕ) → PairLoaded t (Err f) → r ≡ number_of f.refusal → ReadCode t r
read_err t f r (inl h) e = inr (rw h.0 e)
read_err t f r (inr q) e = inl (e ∙ ap (λ g. number_of g.refusal) (refusal_is {X = Pair} f (fault_at NoMemory 0) q))

pub read_answer : (t : List ℕ) (a : Result Pair Fault) (r : ℕ) → PairLoaded t a → MatchResult a (λ _. r ≡ 0) (λ f. r ≡ number_of f.refusal) → ReadCode t r
read_answer t (Ok p) r h e = subst (ReadCode t) (sym e) (read_ok t p h)
read_answer t (Err f) r h e = read_err t f r h e

-- what the pair's two circuits give is what any two circuits of those rows give
pub match_ok : (t : List ℕ) (p : Pair) (setting word r : ℕ) → PairLoaded t (Ok p) → Compared (drawn p.target) (drawn p.specification) setting word r → MatchCode t setting word r
match_ok t p setting word r (inl h) c =
    inr (rw h.0
    (λ x y q.
    let same = h.1.alone x y q.target_lawful q.specification_lawful q.written in
    subst (λ z. Compared x z setting word r) (sym same.1) (subst (λ z. Compared z (drawn p.specification) setting word r) (sym same.0) c)))
match_ok t p setting word r (inr e) c = absurd (never p (fault_at NoMemory 0) e)

pub match_err : (t : List ℕ) (f : Fault) (setting word r : ℕ) → PairLoaded t (Err f) → r ≡ number_of f.refusal → MatchCode t setting word r
match_err t f setting word r (inl h) e = inr (rw h.0 e)
match_err t f setting word r (inr q) e = inl (e ∙ ap (λ g. number_of g.refusal) (refusal_is {X = Pair} f (fault_at NoMemory 0) q))
