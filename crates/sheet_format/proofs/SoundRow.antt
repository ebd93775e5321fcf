-- A row without a fault is the row of its letter and its numbers: its parts one after another are the row.
use Rattle.std.proofs.Common.{◌≡◌, ℕ, ◌+◌, ◌<◌, Bool, true, eqb, List, [], ◌∷◌, ◌++◌, length, get_or, take, drop, None, sym, refl, ap, ◌∙◌, arith}
use Rattle.std.specs.List.{slice_get}
use Rattle.std.proofs.lemmas.List.{length-take, length-drop, take-append-drop, drop-drop, drop_all, drop_more}
use Rattle.std.proofs.lemmas.Bool.{eqb-true}
use Rattle.refusal.specs.declared.refusal.Refusal.TheVariants.{LineFeed, Letter}
use Rattle.refusal.specs.Faults.{fault_at}
use Rattle.layout.specs.declared.shape.Shape.{Shape}
use Rattle.layout.specs.Text.{columns, row_text}
use Rattle.sheet_format.specs.Decoding.{letter, fields_of, field, numbers, filled}
use Rattle.sheet_format.specs.FirstFault.{unless, fields_fault, row_fault}
use Rattle.sheet_format.proofs.SoundLooks.{all_passed, test_passed}
use Rattle.sheet_format.proofs.SoundFields.{Holds, fields_passed}

-- w bytes from place a on, and what follows them
pub piece : (w a b : ℕ) (t : List ℕ) → a + w ≡ b → drop a t ≡ take w (drop a t) ++ drop b t
piece w a b t e =
    sym (take-append-drop w (drop a t)) ∙ ap (λ r. take w (drop a t) ++ r) (drop-drop w a t ∙ ap (λ n. drop n t) e)

-- a text of pieces, piece by piece
pub joined : (x y r s : List ℕ) → x ≡ y → r ≡ s → x ++ r ≡ y ++ s
joined x y r s e f = cc

row_parts : (row : List ℕ) → length row ≡ 32 → row ≡ letter row ∷ (fields_of row ++ (get_or row 31 0 ∷ []))
row_parts row e =
    let end : drop 31 row ≡ get_or row 31 0 ∷ [] =
    drop_more row 31 0 (omega arith) ∙ ap (λ r. get_or row 31 0 ∷ r) (drop_all 32 row (omega arith)) in
    drop_more row 0 0 (omega arith)
    ∙ ap (λ r. letter row ∷ r) (sym (take-append-drop 30 (drop 1 row)) ∙ ap (λ r. fields_of row ++ r) (drop-drop 30 1 row ∙ end))

fields_written : (text ns : List ℕ) → length text ≡ 30 → ((j : ℕ) → j < 6 → field j text ≡ columns (slice_get ns j))
    → text ≡ columns (slice_get ns 0) ++ (columns (slice_get ns 1) ++ (columns (slice_get ns 2) ++ (columns (slice_get ns 3) ++ (columns (slice_get ns 4) ++ (columns (slice_get ns 5) ++ [])))))
fields_written text ns e h =
    piece 5 0 5 text refl ∙ joined _ _ _ _ (h 0 (omega arith))
    (piece 5 5 10 text refl ∙ joined _ _ _ _ (h 1 (omega arith))
    (piece 5 10 15 text refl ∙ joined _ _ _ _ (h 2 (omega arith))
    (piece 5 15 20 text refl ∙ joined _ _ _ _ (h 3 (omega arith))
    (piece 5 20 25 text refl ∙ joined _ _ _ _ (h 4 (omega arith))
    (piece 5 25 30 text refl ∙ joined _ _ _ _ (h 5 (omega arith)) (drop_all 30 text (omega arith)))))))

row_written : (row ns : List ℕ) → length row ≡ 32 → get_or row 31 0 ≡ 10 → ((j : ℕ) → j < 6 → field j (fields_of row) ≡ columns (slice_get ns j))
    → row ≡ row_text (letter row) ns
row_written row ns e feed h =
    let long : length (fields_of row) ≡ 30 = simp (length-take, length-drop) (omega arith) in
    row_parts row e
    ∙ ap (λ x. letter row ∷ (fields_of row ++ (x ∷ []))) feed
    ∙ ap (λ text. letter row ∷ (text ++ (10 ∷ []))) (fields_written (fields_of row) ns long h)

-- what a row of that shape holds: the first k of its numbers
pub record RowHolds (stands : Bool) (s : Shape) (row : List ℕ) (k : ℕ) : Type 0 where
  pub stood : stands ≡ true
  pub fields : Holds s (fields_of row) k
  pub written : row ≡ row_text (letter row) (take k (numbers (fields_of row)))

pub row_passed : (stands : Bool) (s : Shape) (row : List ℕ) → length row ≡ 32 → row_fault stands s row ≡ None
    → RowHolds stands s row (filled (fields_of row))
unfolding row_fault
row_passed stands s row e none =
    let feed = unless (eqb (get_or row 31 0) 10) (fault_at LineFeed 32) in
    let name = unless stands (fault_at Letter 1) in
    let p = all_passed (feed ∷ name ∷ fields_fault s (fields_of row) ∷ []) none in
    let is = fields_passed s (fields_of row) p.1.1.0 in
    record {
      stood = test_passed stands (fault_at Letter 1) p.1.0;
      fields = is;
      written = row_written row (take (filled (fields_of row)) (numbers (fields_of row))) e
          (eqb-true (get_or row 31 0) 10 (test_passed (eqb (get_or row 31 0) 10) (fault_at LineFeed 32) p.0)) is.written;
    }
