-- The first fault of a field, by what its columns hold and by the tests that the reader makes in its order.
use Rattle.std.proofs.Common.{◌≡◌, ℕ, ◌+◌, ◌*◌, ◌<◌, ◌≤◌, Bool, true, false, cond, ◌&&◌, eqb, ltb, leb, List, get_or, Some, None, Ok, Err, Option, Result, refl, ap}
use Rattle.std.proofs.lemmas.Bool.{lt-leb, le-leb, le-ltb, lt-ltb, ne_eqb, eq-eqb, and_left, and_right, and_from}
use Rattle.refusal.specs.declared.refusal.Refusal.{Refusal}
use Rattle.refusal.specs.declared.refusal.Refusal.TheVariants.{LineFeed, Letter, FieldForm, FieldRange}
use Rattle.refusal.specs.declared.fault.Fault.{Fault}
use Rattle.refusal.specs.Faults.{fault_at}
use Rattle.layout.specs.declared.shape.Shape.{Shape}
use Rattle.layout.specs.Text.{blank, numeral, decoded, field_value}
use Rattle.sheet_format.specs.Shapes.{lowest, highest}
use Rattle.sheet_format.specs.Decoding.{fields_of}
use Rattle.sheet_format.specs.FirstFault.{field_fault, fields_fault, row_fault, well_formed, in_range}
use Rattle.sheet.specs.Parts.{field_option}

-- what the two tests of a field's columns are, by the answer
abbrev held : Bool → Bool → ℕ → Result (Option ℕ) Refusal
held b m n = cond b (Ok None) (cond m (Ok (Some n)) (Err FieldForm))

held_none : (b m : Bool) (n : ℕ) → held b m n ≡ Ok None → b ≡ true
held_none true m n e = refl
held_none false true n e = cc
held_none false false n e = cc

held_some : (b m : Bool) (n v : ℕ) → held b m n ≡ Ok (Some v) → (b ≡ false) × (m ≡ true) × (v ≡ n)
held_some true m n v e = cc
held_some false true n v e = (refl, refl, cc)
held_some false false n v e = cc

held_wrong : (b m : Bool) (n : ℕ) (r : Refusal) → held b m n ≡ Err r → (b ≡ false) × (m ≡ false) × (r ≡ FieldForm)
held_wrong true m n r e = cc
held_wrong false true n r e = cc
held_wrong false false n r e = (refl, refl, cc)

module _ (s : Shape) (j k : ℕ) (x : List ℕ) where
  abbrev form : Fault
  form = fault_at FieldForm (2 + 5 * j)

  abbrev range : Fault
  range = fault_at FieldRange (2 + 5 * j)

  -- the fault, by the two tests
  ill : well_formed s j k x ≡ false → field_fault s j k x ≡ Some form
  unfolding field_fault
  ill e = rw e

  far : well_formed s j k x ≡ true → in_range s j x ≡ false → field_fault s j k x ≡ Some range
  unfolding field_fault
  far e f = rw (e, f)

  well : well_formed s j k x ≡ true → in_range s j x ≡ true → field_fault s j k x ≡ None
  unfolding field_fault
  well e f = rw (e, f)

  pub malformed : (r : Refusal) → field_value x ≡ Err r → field_fault s j k x ≡ Some (fault_at r (2 + 5 * j))
  malformed r e = let h = held_wrong (blank x) (numeral x) (decoded x) r e in rw h.2 (ill (rw (h.0, h.1)))

  pub blank_wrongly : field_value x ≡ Ok None → j < s.needed → field_fault s j k x ≡ Some form
  blank_wrongly e h = let b = held_none (blank x) (numeral x) (decoded x) e in ill (rw b (lt-leb s.needed j h))

  pub blank_rightly : field_value x ≡ Ok None → s.needed ≤ j → (field_fault s j k x ≡ None) × (None ≡ field_option x)
  blank_rightly e h =
      let b = held_none (blank x) (numeral x) (decoded x) e in
      (well (rw b (le-leb s.needed j h)) (rw b), rw b)

  -- a filled field
  module _ (n : ℕ) (e : field_value x ≡ Ok (Some n)) where
    taken : (t : Bool) → (ltb j s.allowed && eqb k j) ≡ t → well_formed s j k x ≡ t
    taken t h = let f = held_some (blank x) (numeral x) (decoded x) n e in rw (f.0, f.1) h

    pub past_allowed : s.allowed ≤ j → field_fault s j k x ≡ Some form
    past_allowed h = ill (taken false (and_left _ _ (le-ltb j s.allowed h)))

    pub after_gap : (k ≡ j → ⊥) → field_fault s j k x ≡ Some form
    after_gap h = ill (taken false (and_right (ltb j s.allowed) (eqb k j) (ne_eqb k j h)))

    -- in its place, its number within its bounds or not
    module _ (l : j < s.allowed) (h : k ≡ j) where
      stands : well_formed s j k x ≡ true
      stands = taken true (and_from _ _ (lt-ltb j s.allowed l) (eq-eqb k j h))

      bounded : (t : Bool) → (leb (lowest s j) n && leb n (highest s j)) ≡ t → in_range s j x ≡ t
      bounded t h = let f = held_some (blank x) (numeral x) (decoded x) n e in rw f.0 (rw f.2 at h)

      pub out_of_bounds : (leb (lowest s j) n && leb n (highest s j)) ≡ false → field_fault s j k x ≡ Some range
      out_of_bounds m = far stands (bounded false m)

      pub filled_rightly : (leb (lowest s j) n && leb n (highest s j)) ≡ true → (field_fault s j k x ≡ None) × (Some n ≡ field_option x)
      filled_rightly m = let f = held_some (blank x) (numeral x) (decoded x) n e in (well stands (bounded true m), rw f.0 (ap Some f.2))

-- the fault of a row, by its line feed, its letter and its fields
module _ (b : Bool) (s : Shape) (row : List ℕ) where
  pub no_feed : (get_or row 31 0 ≡ 10 → ⊥) → row_fault b s row ≡ Some (fault_at LineFeed 32)
  unfolding row_fault
  no_feed h = rw (ne_eqb (get_or row 31 0) 10 h)

  pub no_letter : get_or row 31 0 ≡ 10 → b ≡ false → row_fault b s row ≡ Some (fault_at Letter 1)
  unfolding row_fault
  no_letter h e = rw (eq-eqb (get_or row 31 0) 10 h, e)

  pub by_fields : get_or row 31 0 ≡ 10 → b ≡ true → (o : Option Fault) → fields_fault s (fields_of row) ≡ o → row_fault b s row ≡ o
  unfolding row_fault
  by_fields h e None f = rw (eq-eqb (get_or row 31 0) 10 h, e, f)
  by_fields h e (Some x) f = rw (eq-eqb (get_or row 31 0) 10 h, e, f)
