-- What a row says, where it has no fault.
use Rattle.std.proofs.Common.{◌≡◌, ℕ, zero, suc, ◌<◌, ◌≤◌, ltb, Bool, List, get_or, length, cond, Some, None, Option, ◌∙◌, arith}
use Rattle.std.proofs.lemmas.Bool.{cases_lt, lt-ltb, le-ltb}
use Rattle.std.proofs.Common.{inl, inr}
use Rattle.std.specs.Option.{IsSomeAnd}
use Rattle.std.proofs.lemmas.List.FromFn.{get_or-map-range_with_len}
use Rattle.layout.specs.declared.shape.Shape.{Shape}
use Rattle.layout.specs.Text.{blank, decoded}
use Rattle.sheet_format.specs.Decoding.{fields_of, field, number, numbers}
use Rattle.sheet_format.specs.FirstFault.{header_fault, output_fault}
use Rattle.sheet_format.proofs.SoundRow.{row_passed}
use Rattle.sheet_format.specs.Shapes.{header_shape, output_shape}
use Rattle.sheet_format.proofs.SoundFields.{Holds}
use Rattle.sheet_format.proofs.SoundRows.{header_passed, output_passed}
use Rattle.sheet.specs.Parts.{field_option, options, first_filled, Headed}

-- a field is filled with its number, or blank
by_blank : (x : List ℕ) (b : Bool) → blank x ≡ b → field_option x ≡ cond b None (Some (decoded x))
by_blank x b e = rw e

module _ (s : Shape) (text : List ℕ) (k : ℕ) (h : Holds s text k) where
  pub told : (j : ℕ) → j < k → field_option (field j text) ≡ Some (number j text)
  told j l = rw (h.some j l)

  each : (j : ℕ) → j < 6 → field_option (field j text) ≡ cond (ltb j k) (Some (number j text)) None
  each j six = elim (cases_lt j k) [
    | inl l ↦ rw (h.some j l, lt-ltb j k l)
    | inr l ↦ rw (h.none j six l, le-ltb j k l)
  ]

  -- the filled fields are the first, with their numbers
  pub options_are : options text ≡ first_filled k (numbers text)
  options_are =
      rw (each 0 (omega arith), each 1 (omega arith), each 2 (omega arith), each 3 (omega arith), each 4 (omega arith), each 5 (omega arith))

get_or_options : (text : List ℕ) (j : ℕ) → j < 6 → get_or (options text) j None ≡ field_option (field j text)
get_or_options text j l = get_or-map-range_with_len (λ i. field_option (field i text)) 0 6 j j None l (omega arith)

-- a header's numbers, in fields that are filled
module _ (row : List ℕ) (fields : List (Option ℕ)) (long : length row ≡ 32) (fine : header_fault row ≡ None) (are : fields ≡ options (fields_of row)) where
  pub header_number : (j : ℕ) → j < 3 → get_or fields j None ≡ Some (number j (fields_of row))
  header_number j l =
      let h = (row_passed _ _ row long fine).fields in
      let least = h.needed (omega arith) in
      rw are (get_or_options (fields_of row) j (omega arith) ∙ told header_shape (fields_of row) _ h j (omega arith))

  pub header_small : (j : ℕ) → j < 3 → IsSomeAnd (get_or fields j None) (λ n. n ≤ 255)
  header_small j l = rw (header_number j l) (small j l)
    where
      small : (j : ℕ) → j < 3 → number j (fields_of row) ≤ 255
      small zero l = let h = header_passed row long fine in omega arith
      small (suc zero) l = let h = header_passed row long fine in omega arith
      small (suc (suc zero)) l = let h = header_passed row long fine in omega arith
      small (suc (suc (suc j))) l = absurd (omega arith)

  pub headed : (a b d : ℕ) → get_or fields 0 None ≡ Some a → get_or fields 1 None ≡ Some b → get_or fields 2 None ≡ Some d
      → Headed row (record { inputs = a; gates = b; outputs = d })
  headed a b d p q r =
      let h = header_passed row long fine in
      let is_a : a ≡ number 0 (fields_of row) = let e = header_number 0 (omega arith) in cc in
      let is_b : b ≡ number 1 (fields_of row) = let e = header_number 1 (omega arith) in cc in
      let is_d : d ≡ number 2 (fields_of row) = let e = header_number 2 (omega arith) in cc in
      record { inputs_are = is_a; gates_are = is_b; outputs_are = is_d; few_inputs = omega arith; few_gates = omega arith; few_outputs = omega arith }

-- an output's net, in a field that is filled
pub output_small : (row : List ℕ) (fields : List (Option ℕ)) (n : ℕ) → length row ≡ 32 → output_fault n row ≡ None → fields ≡ options (fields_of row) → n ≤ 216
    → IsSomeAnd (get_or fields 0 None) (λ a. a ≤ 255)
output_small row fields n long fine are few =
    let h = (row_passed _ _ row long fine).fields in
    let least = h.needed (omega arith) in
    let net = output_passed n row long fine in
    rw (are, told (output_shape n) (fields_of row) _ h 0 (omega arith)) (omega (arith, net.net))
