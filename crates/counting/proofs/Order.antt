-- Rows of values in counting order: counting up value by value, and the number of a row.
use Rattle.std.proofs.Common.{◌≡◌, ℕ, zero, suc, ◌+◌, ◌^◌, ◌<◌, ◌≤◌, true, false, ◌⊎◌, List, [], ◌∷◌, ◌++◌, length, get_or, take, drop, set, replicate, sym, refl, ap, ◌∙◌, inl, inr, add-one, arith, pow_pos}
use native.Mathlib.Nat.{pow-succ'}
use borrow.Author.Tests.{both_ways}
use lib.Seq.{set_split}
use Rattle.std.proofs.lemmas.List.{drop_more}
use Rattle.std.proofs.lemmas.Bool.{cases_lt}
use Rattle.clause.specs.Logic.{Row, Clause, all_hold}
use Rattle.counting.specs.Rows.{number, some_false, next}
use Rattle.counting.specs.Tried.{Before}

-- The first i values are counted up, and the rest is still to be.
pub record Up (first now : Row) (i : ℕ) : Type 0 where
  pub row : take i now ++ next (drop i now) ≡ next first
  pub more : some_false (drop i now) ≡ some_false first

pub up_ends : (first now : Row) (i : ℕ) → i < length now → get_or now i false ≡ false → Up first now i → (true ≡ some_false first) × (set now i true ≡ next first)
up_ends first now i h b u =
    let cut : drop i now ≡ false ∷ drop (i + 1) now = drop_more now i false h ∙ ap (λ x. x ∷ drop (i + 1) now) b in
    let split : set now i true ≡ take i now ++ (true ∷ drop (i + 1) now) = set_split now i true h ∙ ap (λ k. take i now ++ (true ∷ drop k now)) (sym (add-one i)) in
    (sym (ap some_false cut) ∙ u.more, split ∙ sym (ap (λ x. take i now ++ next x) cut) ∙ u.row)

-- The number of a row.
pub number_below : (r : Row) → number r < 2 ^ length r
number_below [] = pow_pos 0
number_below (true ∷ r) = let h = number_below r in rw (pow-succ' 2 (length r)) (omega arith)
number_below (false ∷ r) = let h = number_below r in rw (pow-succ' 2 (length r)) (omega arith)

pub number_next : (r : Row) → some_false r ≡ true → number (next r) ≡ number r + 1
number_next [] h = absurd (both_ways false refl h)
number_next (true ∷ r) h = omega (arith, number_next r h)
number_next (false ∷ r) h = omega arith

pub number_last : (r : Row) → some_false r ≡ false → number r + 1 ≡ 2 ^ length r
number_last [] h = refl
number_last (true ∷ r) h = let e = number_last r h in rw (pow-succ' 2 (length r)) (omega arith)
number_last (false ∷ r) h = absurd (both_ways true h refl)

pub number_over : (r : Row) → some_false r ≡ false → number (next r) ≡ 0
number_over [] h = refl
number_over (true ∷ r) h = omega (arith, number_over r h)
number_over (false ∷ r) h = absurd (both_ways true h refl)

pub number_first : (n : ℕ) → number (replicate n false) ≡ 0
number_first zero = refl
number_first (suc n) = omega (arith, number_first n)

pub next_length : (r : Row) → length (next r) ≡ length r
next_length [] = refl
next_length (true ∷ r) = ap suc (next_length r)
next_length (false ∷ r) = refl

number_same : (r s : Row) → length r ≡ length s → number r ≡ number s → r ≡ s
number_same [] [] l e = refl
number_same [] (b ∷ s) l e = absurd (omega arith)
number_same (b ∷ r) [] l e = absurd (omega arith)
number_same (true ∷ r) (true ∷ s) l e = ap (λ x. true ∷ x) (number_same r s (omega arith) (omega arith))
number_same (true ∷ r) (false ∷ s) l e = absurd (omega arith)
number_same (false ∷ r) (true ∷ s) l e = absurd (omega arith)
number_same (false ∷ r) (false ∷ s) l e = ap (λ x. false ∷ x) (number_same r s (omega arith) (omega arith))

-- This row fails too: so does every row up to it.
pub fails_up_to : (row : Row) (cs : List Clause) → ((r : Row) → Before row r → all_hold r cs ≡ false) → all_hold row cs ≡ false
    → (r : Row) → length r ≡ length row → number r < number row + 1 → all_hold r cs ≡ false
fails_up_to row cs tried fails r l h = go (cases_lt (number r) (number row))
  where
    go : (number r < number row) ⊎ (number row ≤ number r) → all_hold r cs ≡ false
    go (inl lt) = tried r (record { long = l; less = lt })
    go (inr ge) = ap (λ x. all_hold x cs) (number_same r row l (omega arith)) ∙ fails
