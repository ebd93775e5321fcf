-- Over bits, the or over a table's rows is the row that the inputs pick: every other row's and has an input turned to 0.
use Rattle.std.proofs.Common.{◌≡◌, ℕ, zero, suc, ◌+◌, ◌*◌, ◌/◌, ◌%◌, ◌^◌, ◌<◌, ◌≤◌, Bool, true, false, cond, not, ◌&&◌, ◌||◌, eqb, List, [], ◌∷◌, length, sym, refl, ap, ◌∙◌, inl, inr, pow-suc, arith}
use native.Mathlib.Nat.{pow-succ'}
use Rattle.std.proofs.Math.Bool.{and-true, and-false, or-false, and_assoc}
use Rattle.std.proofs.lemmas.Bool.{cases_eq, eq-eqb, ne_eqb}
use Rattle.circuit.specs.Kinds.{xor, row_number}
use Rattle.value.specs.Ops.{Ops}
use Rattle.value.specs.Values.{taken, and_inputs, or_below, table_value}
use Rattle.value.specs.Words.{digit}

-- the bits themselves as a kind
abbrev pub bools : Ops Bool
bools = record { falsity = false; truth = true; inverse = not; both = ◌&&◌; either = ◌||◌; differ = xor }

-- row r is the one that the inputs pick just where its lowest bit is the first input's and the rest is that of the others
pick : (v : Bool) (r m : ℕ) → eqb r (cond v 1 0 + 2 * m) ≡ (cond (eqb (r % 2) 0) (not v) v && eqb (r / 2) m)
pick true r m = elim (digit r) [
  | inl x ↦ rw x (ne_eqb r (1 + 2 * m) (λ e. omega arith))
  | inr x ↦ rw x (elim (cases_eq (r / 2) m) [
    | inl e ↦ eq-eqb r (1 + 2 * m) (omega arith) ∙ sym (eq-eqb (r / 2) m e)
    | inr n ↦ ne_eqb r (1 + 2 * m) (λ e. n (omega arith)) ∙ sym (ne_eqb (r / 2) m n)
  ])
]
pick false r m = elim (digit r) [
  | inl x ↦ rw x (elim (cases_eq (r / 2) m) [
    | inl e ↦ eq-eqb r (0 + 2 * m) (omega arith) ∙ sym (eq-eqb (r / 2) m e)
    | inr n ↦ ne_eqb r (0 + 2 * m) (λ e. n (omega arith)) ∙ sym (ne_eqb (r / 2) m n)
  ])
  | inr x ↦ rw x (ne_eqb r (0 + 2 * m) (λ e. omega arith))
]

-- a row's and is its bit at the row that the inputs pick, and false at any other
picked : (b : Bool) (r : ℕ) (ins : List Bool) → r < 2 ^ length ins → and_inputs bools b r ins ≡ (b && eqb r (row_number ins))
picked b r [] h = let z : r ≡ 0 = omega arith in sym (ap (λ x. b && x) (eq-eqb r 0 z) ∙ and-true b)
picked b r (v ∷ ins) h =
    let rest = row_number ins in
    let small : r / 2 < 2 ^ length ins = omega (arith, pow-suc 2 (length ins)) in
    picked (b && taken bools (r % 2) v) (r / 2) ins small ∙ and_assoc b (taken bools (r % 2) v) (eqb (r / 2) rest) ∙ ap (λ x. b && x) (sym (pick v r rest))

digit_more : (v : Bool) (m n : ℕ) → m < n → cond v 1 0 + 2 * m < 2 * n
digit_more true m n h = omega arith
digit_more false m n h = omega arith

pub row_number_below : (ins : List Bool) → row_number ins < 2 ^ length ins
row_number_below [] = omega arith
row_number_below (v ∷ ins) = rw (pow-succ' 2 (length ins)) (digit_more v (row_number ins) (2 ^ length ins) (row_number_below ins))

-- the or of the terms of rows below n, where row m is picked: none so far, or row m's bit
none_picked : (f g : ℕ → Bool) (m n : ℕ) → ((r : ℕ) → r < n → g r ≡ (f r && eqb r m)) → n ≤ m → or_below bools g n ≡ false
none_picked f g m zero h l = refl
none_picked f g m (suc n) h l =
    let before = none_picked f g m n (λ r k. h r (omega arith)) (omega arith) in
    let here = h n (omega arith) in
    let other : eqb n m ≡ false = ne_eqb n m (λ e. omega arith) in
    ap (λ x. x || g n) before ∙ here ∙ ap (λ x. f n && x) other ∙ and-false (f n)

one_picked : (f g : ℕ → Bool) (m n : ℕ) → ((r : ℕ) → r < n → g r ≡ (f r && eqb r m)) → m < n → or_below bools g n ≡ f m
one_picked f g m zero h l = absurd (omega arith)
one_picked f g m (suc n) h l =
    let here = h n (omega arith) in
    elim (cases_eq n m) [
      | inl e ↦
          let before = none_picked f g m n (λ r k. h r (omega arith)) (omega arith) in
          ap (λ x. x || g n) before ∙ here ∙ ap (λ x. f n && x) (eq-eqb n m e) ∙ and-true (f n) ∙ ap f e
      | inr ne ↦
          let k : m < n = omega (arith, ne) in
          let before = one_picked f g m n (λ r k. h r (omega arith)) k in
          ap (λ x. x || g n) before ∙ ap (λ x. f m || x) (here ∙ ap (λ x. f n && x) (ne_eqb n m ne) ∙ and-false (f n)) ∙ or-false (f m)
    ]

-- a table of bits gives the bit of the row that its inputs pick
pub table_bits : (rows : ℕ → Bool) (ins : List Bool) → table_value bools rows ins ≡ rows (row_number ins)
table_bits rows ins =
    one_picked rows (λ r. and_inputs bools (rows r) r ins) (row_number ins) (2 ^ length ins) (λ r h. picked (rows r) r ins h) (row_number_below ins)
