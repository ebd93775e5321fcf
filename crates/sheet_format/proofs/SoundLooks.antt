-- Looks that find nothing: where one after another finds no fault, each of them passed.
use Rattle.std.proofs.Common.{◌≡◌, ℕ, zero, suc, ◌<◌, Bool, true, false, List, [], ◌∷◌, Some, None, Option, refl, subst, inl, inr, arith}
use Rattle.std.specs.Option.{option_map}
use Rattle.std.proofs.lemmas.Bool.{cases_lt}
use Rattle.refusal.specs.declared.fault.Fault.{Fault}
use Rattle.sheet_format.specs.FirstFault.{unless, or_else, first, first_below}

-- a look that found something did not find nothing
found : {P : Type 0} {A : Type 0} (x : A) → Some x ≡ None → P
found x e = cc

pub both_passed : (a b : Option Fault) → or_else a b ≡ None → (a ≡ None) × (b ≡ None)
both_passed None b e = (refl, e)
both_passed (Some f) b e = found f e

-- each of some looks passed
abbrev pub AllPassed : List (Option Fault) → Type 0
AllPassed [] = Unit {0}
AllPassed (x ∷ xs) = (x ≡ None) × AllPassed xs

pub all_passed : (xs : List (Option Fault)) → first xs ≡ None → AllPassed xs
all_passed [] e = tt
all_passed (x ∷ xs) e = let two = both_passed x (first xs) e in (two.0, all_passed xs two.1)

pub test_passed : (b : Bool) (f : Fault) → unless b f ≡ None → b ≡ true
test_passed true f e = refl
test_passed false f e = found f e

pub moved_passed : (move : Fault → Fault) (a : Option Fault) → option_map move a ≡ None → a ≡ None
moved_passed move None e = refl
moved_passed move (Some f) e = found (move f) e

pub each_passed : (n : ℕ) (look : ℕ → Option Fault) → first_below n look ≡ None → (i : ℕ) → i < n → look i ≡ None
each_passed zero look e i l = absurd (omega arith)
each_passed (suc n) look e i l =
    let two = both_passed (first_below n look) (look n) e in
    elim (cases_lt i n) [
      | inl below ↦ each_passed n look two.0 i below
      | inr last ↦ let here : n ≡ i = omega arith in subst (λ k. look k ≡ None) here two.1
    ]
