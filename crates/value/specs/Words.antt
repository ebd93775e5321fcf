-- The bits of an and, an or and an exclusive or of two numbers are those of their bits; so the word of 64 lanes keeps the
-- laws of lanes, as the single bit does.
use Rattle.std.specs.Prelude.{◌≡◌, ℕ, ◌+◌, ◌-◌, ◌/◌, ◌%◌, ◌^◌, ◌<◌, min, max, Bool, true, false, not, ◌&&◌, ◌||◌, ◌⊎◌, ◌==◌, refl}
use Rattle.std.proofs.Common.{sym, ap, ◌∙◌, inl, inr, arith}
use Rattle.std.specs.Int.Bits.{bit_and, bit_or, bit_xor}
use Rattle.std.proofs.lemmas.Nat.Bits.{bit_at_and, bit_at_or, bit_at_xor, bit_at_ones, bit_at-zero}
use Rattle.circuit.specs.Kinds.{xor}
use Rattle.meaning.specs.Meaning.{bit}
use Rattle.value.specs.Lanes.{LaneLaws, Completes, Known}
use Rattle.value.specs.Kinds.{known, bit_ops, bit_lane, word_ops, word_lane}

xor_true : (a : Bool) → xor a true ≡ not a
xor_true true = refl
xor_true false = refl

-- a digit is 0 or 1
pub digit : (n : ℕ) → (n % 2 ≡ 0) ⊎ (n % 2 ≡ 1)
digit n = grind arith

two_digits : (P : ℕ → ℕ → Type 0) → P 0 0 → P 0 1 → P 1 0 → P 1 1 → (m n : ℕ) → P (m % 2) (n % 2)
two_digits P p q r s m n =
    elim (digit m) [
      | inl x ↦ elim (digit n) [ inl y ↦ rw (x, y) p | inr y ↦ rw (x, y) q ]
      | inr x ↦ elim (digit n) [ inl y ↦ rw (x, y) r | inr y ↦ rw (x, y) s ]
    ]

pub bit_of_and : (a b j : ℕ) → bit (bit_and a b) j ≡ (bit a j && bit b j)
bit_of_and a b j = rw bit_at_and (two_digits (λ x y. (min x y == 1) ≡ (x == 1 && y == 1)) refl refl refl refl (a / 2 ^ j) (b / 2 ^ j))

pub bit_of_or : (a b j : ℕ) → bit (bit_or a b) j ≡ (bit a j || bit b j)
bit_of_or a b j = rw bit_at_or (two_digits (λ x y. (max x y == 1) ≡ (x == 1 || y == 1)) refl refl refl refl (a / 2 ^ j) (b / 2 ^ j))

pub bit_of_xor : (a b j : ℕ) → bit (bit_xor a b) j ≡ xor (bit a j) (bit b j)
bit_of_xor a b j = rw bit_at_xor (two_digits (λ x y. ((x + y) % 2 == 1) ≡ xor (x == 1) (y == 1)) refl refl refl refl (a / 2 ^ j) (b / 2 ^ j))

pub bit_ones : (j : ℕ) → j < 64 → bit (2 ^ 64 - 1) j ≡ true
bit_ones j h = ap (λ n. n == 1) (bit_at_ones 64 j h)

pub bit_zero : (j : ℕ) → bit 0 j ≡ false
bit_zero j = ap (λ n. n == 1) (bit_at-zero j)

-- a bit is a lane that is known, and the only way that it may turn out
known_known : (a : Bool) → Known (known a)
known_known true = tt
known_known false = tt

pub completes_known : (a b : Bool) → a ≡ b → Completes (known a) b
completes_known true b e = sym e
completes_known false b e = sym e

pub known_completes : (a b : Bool) → Completes (known a) b → a ≡ b
known_completes true b e = sym e
known_completes false b e = sym e

pub word_laws : LaneLaws word_ops 64 word_lane
word_laws = record {
  falsity = λ j h. ap known (bit_zero j);
  truth = λ j h. ap known (bit_ones j h);
  inverse = λ x j a h p. completes_known (bit (bit_xor x.bits (2 ^ 64 - 1)) j) (not a)
      (bit_of_xor x.bits (2 ^ 64 - 1) j ∙ ap (xor (bit x.bits j)) (bit_ones j h) ∙ xor_true (bit x.bits j) ∙ ap not (known_completes (bit x.bits j) a p));
  both = λ x y j a b h p q. completes_known (bit (bit_and x.bits y.bits) j) (a && b)
      (let e = known_completes (bit x.bits j) a p in let f = known_completes (bit y.bits j) b q in let g = bit_of_and x.bits y.bits j in cc);
  either = λ x y j a b h p q. completes_known (bit (bit_or x.bits y.bits) j) (a || b)
      (let e = known_completes (bit x.bits j) a p in let f = known_completes (bit y.bits j) b q in let g = bit_of_or x.bits y.bits j in cc);
  differ = λ x y j a b h p q. completes_known (bit (bit_xor x.bits y.bits) j) (xor a b)
      (let e = known_completes (bit x.bits j) a p in let f = known_completes (bit y.bits j) b q in let g = bit_of_xor x.bits y.bits j in cc);
  inverse_known = λ x j h p. known_known (bit (bit_xor x.bits (2 ^ 64 - 1)) j);
  both_known = λ x y j h p q. known_known (bit (bit_and x.bits y.bits) j);
  either_known = λ x y j h p q. known_known (bit (bit_or x.bits y.bits) j);
  differ_known = λ x y j h p q. known_known (bit (bit_xor x.bits y.bits) j);
}

pub bit_laws : LaneLaws bit_ops 1 bit_lane
bit_laws = record {
  falsity = λ j h. refl;
  truth = λ j h. refl;
  inverse = λ x j a h p. completes_known (not x.value) (not a) (ap not (known_completes x.value a p));
  both = λ x y j a b h p q. completes_known (x.value && y.value) (a && b)
      (let e = known_completes x.value a p in let f = known_completes y.value b q in cc);
  either = λ x y j a b h p q. completes_known (x.value || y.value) (a || b)
      (let e = known_completes x.value a p in let f = known_completes y.value b q in cc);
  differ = λ x y j a b h p q. completes_known (xor x.value y.value) (xor a b)
      (let e = known_completes x.value a p in let f = known_completes y.value b q in cc);
  inverse_known = λ x j h p. known_known (not x.value);
  both_known = λ x y j h p q. known_known (x.value && y.value);
  either_known = λ x y j h p q. known_known (x.value || y.value);
  differ_known = λ x y j h p q. known_known (xor x.value y.value);
}
