-- The lowest bit of an and, an or and an exclusive or of two numbers, from theirs.
use Rattle.std.specs.Prelude.{◌≡◌, ℕ, ◌%◌, ◌<◌, min, max, ◌&&◌, ◌||◌, ◌⊎◌, ◌==◌}
use Rattle.std.proofs.Common.{inl, inr, arith}
use Prim.Native.Nat.{differ}
use Rattle.std.specs.Int.Bits.{bit_and, bit_or, bit_xor, and_step, or_step, xor_step}
use Rattle.circuit.specs.Kinds.{xor}
use Rattle.value.specs.Words.{digit}

pub low_and : (p q : ℕ) → (bit_and p q % 2 == 1) ≡ (p % 2 == 1 && q % 2 == 1)
low_and p q =
    let e : bit_and p q % 2 ≡ min (p % 2) (q % 2) = omega (arith, and_step p q) in
    elim (digit p) [
      | inl x ↦ elim (digit q) [ inl y ↦ rw (e, x, y) | inr y ↦ rw (e, x, y) ]
      | inr x ↦ elim (digit q) [ inl y ↦ rw (e, x, y) | inr y ↦ rw (e, x, y) ]
    ]

pub low_or : (p q : ℕ) → (bit_or p q % 2 == 1) ≡ (p % 2 == 1 || q % 2 == 1)
low_or p q =
    let e : bit_or p q % 2 ≡ max (p % 2) (q % 2) = omega (arith, or_step p q) in
    elim (digit p) [
      | inl x ↦ elim (digit q) [ inl y ↦ rw (e, x, y) | inr y ↦ rw (e, x, y) ]
      | inr x ↦ elim (digit q) [ inl y ↦ rw (e, x, y) | inr y ↦ rw (e, x, y) ]
    ]

pub differ_small : (x y : ℕ) → (x ≡ 0) ⊎ (x ≡ 1) → (y ≡ 0) ⊎ (y ≡ 1) → differ x y < 2
differ_small x y (inl p) (inl q) = rw (p, q) (omega arith)
differ_small x y (inl p) (inr q) = rw (p, q) (omega arith)
differ_small x y (inr p) (inl q) = rw (p, q) (omega arith)
differ_small x y (inr p) (inr q) = rw (p, q) (omega arith)

pub low_xor : (p q : ℕ) → (bit_xor p q % 2 == 1) ≡ xor (p % 2 == 1) (q % 2 == 1)
low_xor p q =
    let e : bit_xor p q % 2 ≡ differ (p % 2) (q % 2) = omega (arith, xor_step p q, differ_small (p % 2) (q % 2) (digit p) (digit q)) in
    elim (digit p) [
      | inl x ↦ elim (digit q) [ inl y ↦ rw (e, x, y) | inr y ↦ rw (e, x, y) ]
      | inr x ↦ elim (digit q) [ inl y ↦ rw (e, x, y) | inr y ↦ rw (e, x, y) ]
    ]
