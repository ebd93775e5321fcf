-- Texts laid over a buffer, one after another.
use Rattle.std.proofs.Common.{◌≡◌, ℕ, ◌+◌, ◌-◌, ◌*◌, ◌<◌, ◌≤◌, List, [], ◌∷◌, ◌++◌, length, get_or, take, drop, sym, refl, ap, ◌∙◌, arith, drop-drop}
use borrow.Rule.Slice.PartMut.{put_mid}
use Rattle.std.proofs.lemmas.List.{append_assoc, append-nil, length-append, length-take, length-take-le, length-drop, take_at, drop_at, take-append-drop, take_more, take_all, drop_all}
use Rattle.circuit.specs.declared.gate.Gate.{Gate}
use Rattle.circuit.specs.Gates.{Sheet}
use Rattle.layout.specs.Text.{row_text}
use Rattle.sheet_format.specs.Rows.{rows, header_text, gate_text, gate_texts, output_text, output_texts}
use Rattle.sheet_format.proofs.CompleteRows.{length_gate_texts, length_output_texts, length_rows}
use Rattle.sheet.specs.Written.{laid, texts}

-- a text laid right after another
pub laid_more : (b : List ℕ) (at n : ℕ) (x y : List ℕ) → at + length x ≤ length b → n ≡ at + length x → laid (laid b at x) n y ≡ laid b at (x ++ y)
laid_more b at n x y h e =
    let p = take at b ++ x in
    let q = drop (at + length x) b in
    let r = drop (at + length x + length y) b in
    let whole : laid b at x ≡ p ++ q = sym (append_assoc (take at b) x q) in
    let long : length p ≡ n = omega (arith, length-append (take at b) x, length-take at b) in
    let front : take n (p ++ q) ≡ p = take_at p q n long in
    let back : drop (n + length y) (p ++ q) ≡ r =
    sym (drop-drop (length y) n (p ++ q)) ∙ ap (drop (length y)) (drop_at p q n long) ∙ drop-drop (length y) (at + length x) b in
    let far : at + length x + length y ≡ at + length (x ++ y) = omega (arith, length-append x y) in
    ap (λ z. laid z n y) whole ∙ ap (λ f. f ++ (y ++ drop (n + length y) (p ++ q))) front ∙ ap (λ g. p ++ (y ++ g)) back
    ∙ append_assoc (take at b) x (y ++ r) ∙ ap (λ z. take at b ++ z) (sym (append_assoc x y r)) ∙ ap (λ k. take at b ++ ((x ++ y) ++ drop k b)) far

-- nothing laid
pub laid_none : (b : List ℕ) (at : ℕ) → at ≤ length b → laid b at [] ≡ b
laid_none b at h = let z : at + 0 ≡ at = omega arith in ap (λ k. take at b ++ drop k b) z ∙ take-append-drop at b

-- the text of an item more
texts_push : {X : Type 0} (text : ℕ → X → List ℕ) (k : ℕ) (xs : List X) (x : X) → texts text k (xs ++ x ∷ []) ≡ texts text k xs ++ text (k + length xs) x
texts_push text k [] x = let z : k + 0 ≡ k = omega arith in append-nil (text k x) ∙ ap (λ n. text n x) (sym z)
texts_push text k (y ∷ xs) x =
    let z : k + 1 + length xs ≡ k + length (y ∷ xs) = omega arith in
    ap (λ r. text k y ++ r) (texts_push text (k + 1) xs x ∙ ap (λ n. texts text (k + 1) xs ++ text n x) z)
    ∙ sym (append_assoc (text k y) (texts text (k + 1) xs) (text (k + length (y ∷ xs)) x))

-- one turn: with the rows so far laid over b, one more row right after them
pub rows_turn : {X : Type 0} (text : ℕ → X → List ℕ) (b c d : List ℕ) (i : ℕ) (xs : List X) (x : X) (row : List ℕ)
    → d ≡ laid c (32 * i) row → 32 * length xs ≤ length b → i < length xs → x ≡ get_or xs i x → length row ≡ 32 → row ≡ text i x
    → (c ≡ laid b 0 (texts text 0 (take i xs))) × (length (texts text 0 (take i xs)) ≡ 32 * i)
    → (d ≡ laid b 0 (texts text 0 (take (i + 1) xs))) × (length (texts text 0 (take (i + 1) xs)) ≡ 32 * (i + 1))
rows_turn text b c d i xs x row is_d room l is_x long is_row before =
    let so_far = texts text 0 (take i xs) in
    let k : 0 + length (take i xs) ≡ i = omega (arith, length-take-le i xs (omega arith)) in
    let more : texts text 0 (take (i + 1) xs) ≡ so_far ++ row =
    ap (texts text 0) (take_more xs i x l) ∙ texts_push text 0 (take i xs) (get_or xs i x)
    ∙ ap (λ z. so_far ++ z) ((λ j. text (k j) (sym is_x j)) ∙ sym is_row) in (
      is_d ∙ ap (λ z. laid z (32 * i) row) before.0 ∙ laid_more b 0 (32 * i) so_far row (omega arith) (omega arith) ∙ ap (laid b 0) (sym more),
      omega (arith, ap length more, length-append so_far row),
    )

-- the rows of gates from net `own` on, and of outputs
gates_are : (own k : ℕ) (gs : List Gate) → texts (λ i g. gate_text (own + i) g) k gs ≡ gate_texts (own + k) gs
gates_are own k [] = refl
gates_are own k (g ∷ gs) =
    let e : own + (k + 1) ≡ own + k + 1 = omega arith in
    ap (λ z. gate_text (own + k) g ++ z) (gates_are own (k + 1) gs ∙ ap (λ n. gate_texts n gs) e)

outputs_are : (k : ℕ) (qs : List ℕ) → texts (λ i q. output_text q) k qs ≡ output_texts qs
outputs_are k [] = refl
outputs_are k (q ∷ qs) = ap (λ z. output_text q ++ z) (outputs_are (k + 1) qs)

-- the parts of a circuit's rows fit where its rows do
pub parts_fit : (s : Sheet) (at n : ℕ) (gs : List Gate) (qs : List ℕ) → at + length (rows s) ≤ n → gs ≡ s.gates → qs ≡ s.outputs → at + 32 + 32 * length gs + 32 * length qs ≤ n
parts_fit s at n gs qs h e f = omega (arith, length_rows s, ap length e, ap length f)

pub front_fit : (s : Sheet) (n : ℕ) (gs : List Gate) (qs : List ℕ) → length (rows s) ≤ n → gs ≡ s.gates → qs ≡ s.outputs → 32 + 32 * length gs + 32 * length qs ≤ n
front_fit s n gs qs h e f = omega (arith, parts_fit s 0 n gs qs (omega (arith, h)) e f)

-- the header, the gates and the outputs, laid one after another
pub sheet_laid : (b header c d e : List ℕ) (at : ℕ) (s : Sheet) (gs : List Gate) (qs : List ℕ) → at + length (rows s) ≤ length b → gs ≡ s.gates → qs ≡ s.outputs →
    header ≡ row_text 72 (s.inputs ∷ length gs ∷ length qs ∷ []) → c ≡ laid b at header → d ≡ laid c (at + 32) (gate_texts (s.inputs + 1) gs) →
    e ≡ laid d (at + 32 + 32 * length gs) (output_texts qs) → e ≡ laid b at (rows s)
unfolding rows
sheet_laid b header c d e at s gs qs h is_gs is_qs is_header is_c is_d is_e =
    let fit = parts_fit s at (length b) gs qs h is_gs is_qs in
    let g = gate_texts (s.inputs + 1) gs in
    let q = output_texts qs in
    let long : length header ≡ 32 = ap length is_header in
    let more : length g ≡ 32 * length gs = length_gate_texts (s.inputs + 1) gs in
    let one : d ≡ laid b at (header ++ g) = is_d ∙ ap (λ z. laid z (at + 32) g) is_c ∙ laid_more b at (at + 32) header g (omega arith) (omega arith) in
    let two : e ≡ laid b at ((header ++ g) ++ q) =
    is_e ∙ ap (λ z. laid z (at + 32 + 32 * length gs) q) one
    ∙ laid_more b at (at + 32 + 32 * length gs) (header ++ g) q (omega (arith, length-append header g)) (omega (arith, length-append header g)) in
    two ∙ ap (laid b at) (append_assoc header g q)
    ∙ ap (λ z. laid b at (z ++ (g ++ q))) (is_header ∙ ap (λ z. row_text 72 (s.inputs ∷ length z ∷ length qs ∷ [])) is_gs ∙ ap (λ z. row_text 72 (s.inputs ∷ length s.gates ∷ length z ∷ [])) is_qs)
    ∙ ap (λ z. laid b at (header_text s ++ (gate_texts (s.inputs + 1) z ++ q))) is_gs
    ∙ ap (λ z. laid b at (header_text s ++ (gate_texts (s.inputs + 1) s.gates ++ output_texts z))) is_qs

pub part_long : (b ys : List ℕ) (n k : ℕ) → n ≤ length b → k ≡ length b - n → length ys ≡ length (take k (drop n b)) → length (put_mid n k b ys) ≡ length b
part_long b ys n k h p e =
    let long = length-append (take n b) (ys ++ drop k (drop n b)) in
    let rest = length-append ys (drop k (drop n b)) in
    omega (arith, length-take n b, length-take k (drop n b), length-drop n b, length-drop k (drop n b))

-- a text laid over the front of what begins at n, as a part of the whole
pub laid_within : (b ys y : List ℕ) (n k : ℕ) → ys ≡ laid (take k (drop n b)) 0 y → k ≡ length b - n → n + length y ≤ length b → put_mid n k b ys ≡ laid b n y
laid_within b ys y n k e p h =
    let part : take k (drop n b) ≡ drop n b = take_all k (drop n b) (omega (arith, length-drop n b)) in
    let left : drop k (drop n b) ≡ [] = drop_all k (drop n b) (omega (arith, length-drop n b)) in
    let far : n + (0 + length y) ≡ n + length y = omega arith in
    ap (λ z. take n b ++ (z ++ drop k (drop n b))) (e ∙ ap (λ z. laid z 0 y) part) ∙ ap (λ z. take n b ++ ((y ++ drop (0 + length y) (drop n b)) ++ z)) left
    ∙ ap (λ z. take n b ++ z) (append-nil (y ++ drop (0 + length y) (drop n b))) ∙ ap (λ z. take n b ++ (y ++ z)) (drop-drop (0 + length y) n b ∙ ap (λ i. drop i b) far)

-- the same at a buffer's front, the gates and the outputs each laid over what begins after those before them
pub parts_laid : (b header c d e : List ℕ) (s : Sheet) (gs : List Gate) (qs : List ℕ) (k m : ℕ) → length (rows s) ≤ length b → gs ≡ s.gates → qs ≡ s.outputs
    → header ≡ row_text 72 (s.inputs ∷ length gs ∷ length qs ∷ []) → c ≡ laid b 0 header → length c ≡ length b
    → k ≡ length c - 32 → d ≡ laid (take k (drop 32 c)) 0 (texts (λ i g. gate_text (s.inputs + 1 + i) g) 0 gs) → length (put_mid 32 k c d) ≡ length c
    → m ≡ length (put_mid 32 k c d) - (32 + 32 * length gs)
    → e ≡ laid (take m (drop (32 + 32 * length gs) (put_mid 32 k c d))) 0 (texts (λ i q. output_text q) 0 qs)
    → put_mid (32 + 32 * length gs) m (put_mid 32 k c d) e ≡ laid b 0 (rows s)
parts_laid b header c d e s gs qs k m h is_gs is_qs is_header is_c long_c is_k is_d long_d is_m is_e =
    let fit = front_fit s (length b) gs qs h is_gs is_qs in
    let own : s.inputs + 1 + 0 ≡ s.inputs + 1 = omega arith in
    let g = gate_texts (s.inputs + 1) gs in
    let q = output_texts qs in
    let n = 32 + 32 * length gs in
    let whole = put_mid 32 k c d in
    let more : length g ≡ 32 * length gs = length_gate_texts (s.inputs + 1) gs in
    let rest : length q ≡ 32 * length qs = length_output_texts qs in
    let gates : d ≡ laid (take k (drop 32 c)) 0 g = is_d ∙ ap (laid (take k (drop 32 c)) 0) (gates_are (s.inputs + 1) 0 gs ∙ ap (λ i. gate_texts i gs) own) in
    let outputs : e ≡ laid (take m (drop n whole)) 0 q = is_e ∙ ap (laid (take m (drop n whole)) 0) (outputs_are 0 qs) in
    sheet_laid b header c whole (put_mid n m whole e) 0 s gs qs (omega (arith, h)) is_gs is_qs is_header is_c (laid_within c d g 32 k gates is_k (omega arith))
    (laid_within whole e q n m outputs is_m (omega arith))
