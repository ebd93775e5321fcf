-- The three-valued bit keeps the laws of lanes, and its answers are known exactly when all ways agree, case by case.
use Rattle.std.proofs.Common.{◌≡◌, Bool, true, false, not, ◌&&◌, ◌||◌, sym, refl, ap, ◌∙◌}
use Rattle.std.proofs.lemmas.Bool.{true≢false, false≢true}
use Rattle.circuit.specs.Kinds.{xor}
use Rattle.value.specs.Lanes.{LaneLaws, Completes, Known, Agree1, Agree2, Sharp}
use Rattle.value.specs.Kinds.{ternary_ops, ternary_lane, ternary_not, ternary_and, ternary_or, ternary_xor}
use Rattle.value.specs.declared.ternary.Ternary.{Ternary}
use Rattle.value.specs.declared.ternary.Ternary.TheVariants.{Zero, One, Unknown}

-- a known lane turns out one way
one_way : (t : Ternary) (a c : Bool) → Known t → Completes t a → Completes t c → a ≡ c
one_way Zero a c k p q = p ∙ sym q
one_way One a c k p q = p ∙ sym q
one_way Unknown a c k p q = absurd k

not_sound : (x : Ternary) (a : Bool) → Completes x a → Completes (ternary_not x) (not a)
not_sound Zero a p = ap not p
not_sound One a p = ap not p
not_sound Unknown a p = tt

inverse_knows : (x : Ternary) → Agree1 not x → Known (ternary_not x)
inverse_knows Zero h = tt
inverse_knows One h = tt
inverse_knows Unknown h = false≢true (h true false tt tt)

both_sound : (x y : Ternary) (a b : Bool) → Completes x a → Completes y b → Completes (ternary_and x y) (a && b)
both_sound Zero y a b p q = ap (λ v. v && b) p
both_sound One Zero a b p q = ap (λ v. v && b) p ∙ q
both_sound One One a b p q = ap (λ v. v && b) p ∙ q
both_sound One Unknown a b p q = tt
both_sound Unknown Zero true b p q = q
both_sound Unknown Zero false b p q = refl
both_sound Unknown One a b p q = tt
both_sound Unknown Unknown a b p q = tt

both_knows : (x y : Ternary) → Agree2 ◌&&◌ x y → Known (ternary_and x y)
both_knows Zero y h = tt
both_knows One Zero h = tt
both_knows One One h = tt
both_knows One Unknown h = true≢false (h true true true false refl tt refl tt)
both_knows Unknown Zero h = tt
both_knows Unknown One h = true≢false (h true true false true tt refl tt refl)
both_knows Unknown Unknown h = true≢false (h true true false true tt tt tt tt)

either_sound : (x y : Ternary) (a b : Bool) → Completes x a → Completes y b → Completes (ternary_or x y) (a || b)
either_sound One y a b p q = ap (λ v. v || b) p
either_sound Zero Zero a b p q = ap (λ v. v || b) p ∙ q
either_sound Zero One a b p q = ap (λ v. v || b) p ∙ q
either_sound Zero Unknown a b p q = tt
either_sound Unknown One true b p q = refl
either_sound Unknown One false b p q = q
either_sound Unknown Zero a b p q = tt
either_sound Unknown Unknown a b p q = tt

either_knows : (x y : Ternary) → Agree2 ◌||◌ x y → Known (ternary_or x y)
either_knows One y h = tt
either_knows Zero Zero h = tt
either_knows Zero One h = tt
either_knows Zero Unknown h = true≢false (h false true false false refl tt refl tt)
either_knows Unknown One h = tt
either_knows Unknown Zero h = true≢false (h true false false false tt refl tt refl)
either_knows Unknown Unknown h = true≢false (h true true false false tt tt tt tt)

differ_sound : (x y : Ternary) (a b : Bool) → Completes x a → Completes y b → Completes (ternary_xor x y) (xor a b)
differ_sound Zero Zero a b p q = ap (λ v. xor v b) p ∙ q
differ_sound Zero One a b p q = ap (λ v. xor v b) p ∙ q
differ_sound Zero Unknown a b p q = tt
differ_sound One Zero a b p q = ap (λ v. xor v b) p ∙ ap not q
differ_sound One One a b p q = ap (λ v. xor v b) p ∙ ap not q
differ_sound One Unknown a b p q = tt
differ_sound Unknown y a b p q = tt

differ_knows : (x y : Ternary) → Agree2 xor x y → Known (ternary_xor x y)
differ_knows Zero Zero h = tt
differ_knows Zero One h = tt
differ_knows Zero Unknown h = true≢false (h false true false false refl tt refl tt)
differ_knows One Zero h = tt
differ_knows One One h = tt
differ_knows One Unknown h = false≢true (h true true true false refl tt refl tt)
differ_knows Unknown Zero h = true≢false (h true false false false tt refl tt refl)
differ_knows Unknown One h = false≢true (h true true false true tt refl tt refl)
differ_knows Unknown Unknown h = false≢true (h true true false true tt tt tt tt)

pub ternary_sharp : Sharp ternary_ops
ternary_sharp = record {
  inverse = λ x. ((λ k a c p q. one_way (ternary_not x) (not a) (not c) k (not_sound x a p) (not_sound x c q)), inverse_knows x);
  both = λ x y. ((λ k a b c d p q r s. one_way (ternary_and x y) (a && b) (c && d) k (both_sound x y a b p q) (both_sound x y c d r s)), both_knows x y);
  either = λ x y. ((λ k a b c d p q r s. one_way (ternary_or x y) (a || b) (c || d) k (either_sound x y a b p q) (either_sound x y c d r s)), either_knows x y);
  differ = λ x y. ((λ k a b c d p q r s. one_way (ternary_xor x y) (xor a b) (xor c d) k (differ_sound x y a b p q) (differ_sound x y c d r s)), differ_knows x y);
}

inverse_known : (x : Ternary) → Known x → Known (ternary_not x)
inverse_known Zero p = tt
inverse_known One p = tt
inverse_known Unknown p = absurd p

both_known : (x y : Ternary) → Known x → Known y → Known (ternary_and x y)
both_known Zero y p q = tt
both_known One y p q = q
both_known Unknown y p q = absurd p

either_known : (x y : Ternary) → Known x → Known y → Known (ternary_or x y)
either_known Zero y p q = q
either_known One y p q = tt
either_known Unknown y p q = absurd p

differ_known : (x y : Ternary) → Known x → Known y → Known (ternary_xor x y)
differ_known Zero y p q = q
differ_known One y p q = inverse_known y q
differ_known Unknown y p q = absurd p

pub ternary_laws : LaneLaws ternary_ops 1 ternary_lane
ternary_laws = record {
  falsity = λ j h. refl;
  truth = λ j h. refl;
  inverse = λ x j a h p. not_sound x a p;
  both = λ x y j a b h p q. both_sound x y a b p q;
  either = λ x y j a b h p q. either_sound x y a b p q;
  differ = λ x y j a b h p q. differ_sound x y a b p q;
  inverse_known = λ x j h p. inverse_known x p;
  both_known = λ x y j h p q. both_known x y p q;
  either_known = λ x y j h p q. either_known x y p q;
  differ_known = λ x y j h p q. differ_known x y p q;
}
