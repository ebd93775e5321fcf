-- Where the rows of a circuit stand: each takes 32 bytes, so row k starts 32 * k bytes after the first.
use Rattle.std.proofs.Common.{◌≡◌, ℕ, zero, suc, ◌+◌, ◌*◌, ◌<◌, List, [], ◌∷◌, ◌++◌, length, get_or, take, drop, sym, refl, ap, ◌∙◌, arith, length-append}
use Rattle.std.proofs.lemmas.List.{append_assoc, drop-drop, drop_at}
use Rattle.circuit.specs.declared.gate.Gate.{Gate}
use Rattle.circuit.specs.Gates.{Sheet, gate_at}
use Rattle.sheet_format.specs.Rows.{header_text, gate_text, output_text, gate_texts, output_texts, rows, size}
use Rattle.sheet_format.specs.Decoding.{row_at}

-- row k + m, from row k on
pub row_from : (t : List ℕ) (k m n : ℕ) → k + m ≡ n → row_at t n ≡ row_at (drop (32 * k) t) m
row_from t k m n e =
    let far : 32 * n ≡ 32 * k + 32 * m = omega arith in
    ap (take 32) (ap (λ b. drop b t) far ∙ sym (drop-drop (32 * m) (32 * k) t))

pub length_gate_texts : (own : ℕ) (gs : List Gate) → length (gate_texts own gs) ≡ 32 * length gs
length_gate_texts own [] = refl
length_gate_texts own (g ∷ gs) = omega (arith, length_gate_texts (own + 1) gs)

pub length_output_texts : (qs : List ℕ) → length (output_texts qs) ≡ 32 * length qs
length_output_texts [] = refl
length_output_texts (q ∷ qs) = omega (arith, length_output_texts qs)

pub length_rows : (s : Sheet) → length (rows s) ≡ size (length s.gates) (length s.outputs)
unfolding rows
length_rows s =
    let gates = gate_texts (s.inputs + 1) s.gates in
    let outputs = output_texts s.outputs in
    omega (arith, length-append gates outputs, length_gate_texts (s.inputs + 1) s.gates, length_output_texts s.outputs)

gate_row : (own : ℕ) (gs : List Gate) (rest : List ℕ) (i : ℕ) → i < length gs
    → row_at (gate_texts own gs ++ rest) i ≡ gate_text (own + i) (gate_at gs i)
gate_row own [] rest i h = absurd (omega arith)
gate_row own (g ∷ gs) rest zero h = let e : own ≡ own + 0 = omega arith in ap (λ n. gate_text n g) e
gate_row own (g ∷ gs) rest (suc i) h =
    let e : own + 1 + i ≡ own + suc i = omega arith in
    row_from (gate_texts own (g ∷ gs) ++ rest) 1 i (suc i) (omega arith)
    ∙ gate_row (own + 1) gs rest i (omega arith) ∙ ap (λ n. gate_text n (gate_at gs i)) e

output_row : (qs rest : List ℕ) (j : ℕ) → j < length qs → row_at (output_texts qs ++ rest) j ≡ output_text (get_or qs j 1)
output_row [] rest j h = absurd (omega arith)
output_row (q ∷ qs) rest zero h = refl
output_row (q ∷ qs) rest (suc j) h = row_from (output_texts (q ∷ qs) ++ rest) 1 j (suc j) (omega arith) ∙ output_row qs rest j (omega arith)

module _ (s : Sheet) (rest : List ℕ) where
  pub row_of_header : row_at (rows s ++ rest) 0 ≡ header_text s
  unfolding rows
  row_of_header = refl

  after_header : drop 32 (rows s ++ rest) ≡ gate_texts (s.inputs + 1) s.gates ++ (output_texts s.outputs ++ rest)
  unfolding rows
  after_header = append_assoc (gate_texts (s.inputs + 1) s.gates) (output_texts s.outputs) rest

  pub row_of_gate : (i : ℕ) → i < length s.gates
      → row_at (rows s ++ rest) (1 + i) ≡ gate_text (s.inputs + i + 1) (gate_at s.gates i)
  row_of_gate i h =
      let e : s.inputs + 1 + i ≡ s.inputs + i + 1 = omega arith in
      row_from (rows s ++ rest) 1 i (1 + i) refl ∙ ap (λ t. row_at t i) after_header
      ∙ gate_row (s.inputs + 1) s.gates (output_texts s.outputs ++ rest) i h ∙ ap (λ n. gate_text n (gate_at s.gates i)) e

  pub row_of_output : (j : ℕ) → j < length s.outputs
      → row_at (rows s ++ rest) (1 + length s.gates + j) ≡ output_text (get_or s.outputs j 1)
  row_of_output j h =
      let g = length s.gates in
      let texts = gate_texts (s.inputs + 1) s.gates in
      let after = output_texts s.outputs ++ rest in
      row_from (rows s ++ rest) 1 (g + j) (1 + g + j) (omega arith) ∙ ap (λ t. row_at t (g + j)) after_header
      ∙ row_from (texts ++ after) g j (g + j) refl
      ∙ ap (λ t. row_at t j) (drop_at texts after (32 * g) (length_gate_texts (s.inputs + 1) s.gates))
      ∙ output_row s.outputs rest j h
