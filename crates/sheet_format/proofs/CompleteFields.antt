-- A row's fields as they are read back: each field that was written holds its number, and those after it are blank.
use Rattle.std.proofs.Common.{◌≡◌, ℕ, zero, suc, ◌+◌, ◌%◌, ◌<◌, ◌≤◌, min, Bool, true, false, List, [], ◌∷◌, length, get_or, Some, None, Option, sym, refl, ap, ◌∙◌, inl, inr, arith, rules}
use Rattle.std.specs.List.{slice_get}
use Rattle.std.proofs.lemmas.Bool.Decides.{nat_tests}
use Rattle.std.proofs.lemmas.Bool.{cases_lt, le-leb}
use Rattle.std.proofs.lemmas.Slice.Eq.{bytes_eq-Decides}
use Rattle.std.proofs.lemmas.Option.{slice_get-get_or, slice_get_past}
use Rattle.std.specs.Str.{bytes_eq}
use Rattle.refusal.specs.declared.fault.Fault.{Fault}
use Rattle.layout.specs.declared.shape.Shape.{Shape}
use Rattle.layout.specs.Text.{column, columns, row_text, decoded, blank, numeral}
use Rattle.sheet_format.specs.Shapes.{lowest, highest}
use Rattle.sheet_format.specs.Decoding.{fields_of, field, filled_below, number}
use Rattle.sheet_format.specs.FirstFault.{well_formed, in_range, field_fault, fields_fault, row_fault, first_below, or_else}

pub decoded_columns : (n : ℕ) → n < 100000 → decoded (columns (Some n)) ≡ n
decoded_columns n small = search rules

pub numeral_columns : (n : ℕ) → n < 100000 → numeral (columns (Some n)) ≡ true
numeral_columns n small =
    (bytes_eq-Decides (columns (Some n)) (columns (Some (decoded (columns (Some n)))))).1 (sym (ap (λ m. columns (Some m)) (decoded_columns n small)))

five_apart : (a b c d e : ℕ) → 32 < e → bytes_eq (a ∷ b ∷ c ∷ d ∷ e ∷ []) (columns None) ≡ false
five_apart a b c d e h = grind (arith, nat_tests)

-- the last column of a number is no space
pub blank_columns : (n : ℕ) → blank (columns (Some n)) ≡ false
blank_columns n = five_apart (column 10000 (Some n)) (column 1000 (Some n)) (column 100 (Some n)) (column 10 (Some n)) (48 + n % 10) (omega arith)

-- thirty columns that hold the numbers in their first fields, and no more
abbrev pub Holds : List ℕ → List ℕ → Type 0
Holds text ns = (j : ℕ) → j < 6 → field j text ≡ columns (slice_get ns j)

-- a row's first fields hold its numbers, at each of the six places by the text itself
pub row_holds : (l : ℕ) (ns : List ℕ) → Holds (fields_of (row_text l ns)) ns
row_holds l ns zero h = refl
row_holds l ns (suc zero) h = refl
row_holds l ns (suc (suc zero)) h = refl
row_holds l ns (suc (suc (suc zero))) h = refl
row_holds l ns (suc (suc (suc (suc zero)))) h = refl
row_holds l ns (suc (suc (suc (suc (suc zero))))) h = refl
row_holds l ns (suc (suc (suc (suc (suc (suc j)))))) h = absurd (omega arith)

module _ (text ns : List ℕ) (holds : Holds text ns) where
  field_filled : (j : ℕ) → j < 6 → j < length ns → field j text ≡ columns (Some (get_or ns j 0))
  field_filled j h l = holds j h ∙ ap columns (slice_get-get_or ns j 0 l)

  field_blank : (j : ℕ) → j < 6 → length ns ≤ j → field j text ≡ columns None
  field_blank j h l = holds j h ∙ ap columns (slice_get_past ns j l)

  pub filled_below_holds : (j : ℕ) → j ≤ 6 → filled_below j text ≡ min j (length ns)
  filled_below_holds zero h = omega arith
  filled_below_holds (suc j) h = let before = filled_below_holds j (omega arith) in elim (cases_lt j (length ns)) [
    | inl l ↦ let b : blank (field j text) ≡ false = ap blank (field_filled j h l) ∙ blank_columns (get_or ns j 0) in rw (before, b) (omega arith)
    | inr l ↦ let b : blank (field j text) ≡ true = ap blank (field_blank j h l) in rw (before, b) (omega arith)
  ]

  pub number_holds : (j : ℕ) → j < 6 → j < length ns → get_or ns j 0 < 100000 → number j text ≡ get_or ns j 0
  number_holds j h l small = ap decoded (field_filled j h l) ∙ decoded_columns (get_or ns j 0) small

-- a number in range, in its place
in_place : (s : Shape) (j n : ℕ) (x : List ℕ) → blank x ≡ false → numeral x ≡ true → decoded x ≡ n → j < s.allowed
    → lowest s j ≤ n → n ≤ highest s j → field_fault s j j x ≡ None
unfolding field_fault
in_place s j n x b m d place low high =
    let form : well_formed s j j x ≡ true = rw (b, m) (grind (arith, nat_tests)) in
    let range : in_range s j x ≡ true = rw (b, d) (grind (arith, nat_tests)) in
    rw (form, range)

-- no number, where none is needed
blank_none : (s : Shape) (j k : ℕ) → s.needed ≤ j → field_fault s j k (columns None) ≡ None
unfolding field_fault
blank_none s j k past = rw (le-leb s.needed j past)

-- looks that find nothing, one after another
pub or_none : {x y : Option Fault} → x ≡ None → y ≡ None → or_else x y ≡ None
or_none {x} {y} p q = ap (λ z. or_else z y) p ∙ q

pub first_below_none : (n : ℕ) (look : ℕ → Option Fault) → ((k : ℕ) → k < n → look k ≡ None) → first_below n look ≡ None
first_below_none zero look h = refl
first_below_none (suc n) look h = or_none (first_below_none n look (λ k l. h k (omega arith))) (h n (omega arith))

-- as many numbers as the shape asks for, each in its range
pub record Suiting (s : Shape) (ns : List ℕ) : Type 0 where
  pub enough : s.needed ≤ length ns
  pub few : length ns ≤ s.allowed
  pub low : (j : ℕ) → j < length ns → lowest s j ≤ get_or ns j 0
  pub high : (j : ℕ) → j < length ns → get_or ns j 0 ≤ highest s j
  pub small : (j : ℕ) → j < length ns → get_or ns j 0 < 100000

module _ (s : Shape) (text ns : List ℕ) (holds : Holds text ns) (suits : Suiting s ns) where
  field_none : (j : ℕ) → j < 6 → field_fault s j (filled_below j text) (field j text) ≡ None
  field_none j h = let k = filled_below_holds text ns holds j (omega arith) in elim (cases_lt j (length ns)) [
    | inl l ↦
        let n = get_or ns j 0 in
        let small = suits.small j l in
        let all_filled : filled_below j text ≡ j = k ∙ omega arith in
        rw (all_filled, field_filled text ns holds j h l)
        (in_place s j n (columns (Some n)) (blank_columns n) (numeral_columns n small) (decoded_columns n small) (omega arith)
        (suits.low j l) (suits.high j l))
    | inr l ↦ rw (field_blank text ns holds j h l) (blank_none s j (filled_below j text) (omega arith))
  ]

  pub fields_none : fields_fault s text ≡ None
  fields_none = first_below_none 6 (λ j. field_fault s j (filled_below j text) (field j text)) field_none

-- a row of numbers that suit has no fault
pub row_none : (b : Bool) (s : Shape) (l : ℕ) (ns : List ℕ) → b ≡ true → Suiting s ns → row_fault b s (row_text l ns) ≡ None
unfolding row_fault
row_none b s l ns e suits = rw (e, fields_none s (fields_of (row_text l ns)) ns (row_holds l ns) suits)
