-- A sheet without a fault is the rows of the circuit that they say, and what may follow them: row by row, each row is the text of what it says.
use Rattle.std.proofs.Common.{◌≡◌, ℕ, zero, suc, ◌+◌, ◌-◌, ◌*◌, ◌%◌, ◌<◌, ◌≤◌, true, eqb, ltb, List, [], ◌∷◌, ◌++◌, map, length, get_or, take, drop, None, Option, sym, refl, ap, ◌∙◌, subst, inl, inr, append_assoc, add-one, arith}
use Rattle.std.specs.List.{range_with_len}
use Rattle.std.proofs.lemmas.List.{length-take, length-drop, drop_all, get_or_past}
use Rattle.std.proofs.lemmas.List.FromFn.{length-map-range_with_len, get_or-map-range_with_len, map-range_with_len_more}
use Rattle.std.proofs.lemmas.Bool.{cases_lt, and_parts, eqb-true, leb-true, ltb-true}
use Rattle.refusal.specs.declared.refusal.Refusal.TheVariants.{Length, RowCount}
use Rattle.refusal.specs.declared.fault.Fault.{Fault}
use Rattle.refusal.specs.Faults.{fault_at, moved_to_row}
use Rattle.circuit.specs.declared.gate.Gate.{Gate}
use Rattle.circuit.specs.declared.gate.Gate.TheVariants.{Unary}
use Rattle.circuit.specs.declared.gate.Unary.TheVariants.{Buffer}
use Rattle.circuit.specs.Gates.{Sheet, Lawful, Below, Driven, Net, nets, own_rows, total_rows}
use Rattle.circuit.proofs.Rows.{rows_push}
use Rattle.layout.specs.Text.{row_text}
use Rattle.refusal.specs.declared.role.Role.{Role}
use Rattle.refusal.specs.declared.role.Role.TheVariants.{Alone, Target, Specification}
use Rattle.sheet_format.specs.Rows.{rows, size, header_text, gate_text, gate_texts, output_text, output_texts}
use Rattle.sheet_format.specs.Decoding.{row_at, fields_of, number, gate_in, inputs_in, gates_in, outputs_in, gates_read, outputs_read}
use Rattle.sheet_format.specs.FirstFault.{unless, at_row, whole_rows, rows_counted, sheet_fault}
use Rattle.sheet_format.specs.FirstFault.{header_fault, gate_fault, output_fault, gates_fault, outputs_fault}
use Rattle.sheet_format.proofs.Read.{MayFollow, Suits, Sound}
use Rattle.sheet_format.proofs.SoundLooks.{all_passed, test_passed, moved_passed, each_passed}
use Rattle.sheet_format.proofs.SoundRow.{piece, joined}
use Rattle.sheet_format.proofs.SoundRows.{header_passed, GateHolds, gate_passed, OutputHolds, output_passed}

pub row_length : (t : List ℕ) (k : ℕ) → 32 * (k + 1) ≤ length t → length (row_at t k) ≡ 32
row_length t k l = simp (length-take, length-drop) (omega arith)

-- of g gates and q outputs, each row is there
gate_length : (t : List ℕ) (g q i : ℕ) → size g q ≤ length t → i < g → length (row_at t (1 + i)) ≡ 32
gate_length t g q i l m = row_length t (1 + i) (omega arith)

output_length : (t : List ℕ) (g q j : ℕ) → size g q ≤ length t → j < q → length (row_at t (1 + g + j)) ≡ 32
output_length t g q j l m = row_length t (1 + g + j) (omega arith)

-- n rows from row o + i on, if each is the text of what is read of it
rows_written : {X : Type 0} (t : List ℕ) (o b : ℕ) (read : List ℕ → X) (text : ℕ → X → List ℕ) (texts : ℕ → List X → List ℕ)
    → ((k : ℕ) → texts k [] ≡ []) → ((k : ℕ) (x : X) (xs : List X) → texts k (x ∷ xs) ≡ text k x ++ texts (k + 1) xs)
    → (n i a z own : ℕ) → 32 * (o + i) ≡ a → 32 * (o + i + n) ≡ z → b + i ≡ own
    → ((j : ℕ) → i ≤ j → j < i + n → row_at t (o + j) ≡ text (b + j) (read (row_at t (o + j))))
    → drop a t ≡ texts own (map (λ j. read (row_at t (o + j))) (range_with_len i n)) ++ drop z t
rows_written t o b read text texts none more zero i a z own p q r h =
    let same : a ≡ z = omega arith in
    ap (λ k. drop k t) same ∙ ap (λ xs. xs ++ drop z t) (sym (none own))
rows_written t o b read text texts none more (suc n) i a z own p q r h =
    let f : ℕ → _ = λ j. read (row_at t (o + j)) in
    let here : row_at t (o + i) ≡ text own (f i) = h i (omega arith) (omega arith) ∙ ap (λ k. text k (f i)) r in
    let later = texts (own + 1) (map f (range_with_len (i + 1) n)) in
    let rest : drop (a + 32) t ≡ later ++ drop z t =
    rows_written t o b read text texts none more n (i + 1) (a + 32) z (own + 1) (omega arith) (omega arith) (omega arith)
    (λ j l m. h j (omega arith) (omega arith)) in
    let front : take 32 (drop a t) ≡ text own (f i) = ap (λ k. take 32 (drop k t)) (sym p) ∙ here in
    piece 32 a (a + 32) t refl ∙ joined _ _ _ _ front rest ∙ sym (append_assoc (text own (f i)) later (drop z t))
    ∙ ap (λ xs. xs ++ drop z t) (sym (more own (f i) (map f (range_with_len (i + 1) n))))

-- the rows are all there, and what is left may follow them
counted : (role : Role) (t : List ℕ) (n : ℕ) → length t % 32 ≡ 0 → rows_counted role (32 * n) (length t) ≡ true
    → (32 * n ≤ length t) × MayFollow role (drop (32 * n) t)
counted Alone t n whole e =
    let same = eqb-true (32 * n) (length t) e in (omega arith, drop_all (32 * n) t (omega arith))
counted Target t n whole e =
    let least = leb-true (32 * n) (length t) e in (least, rw length-drop (omega arith))
counted Specification t n whole e =
    let same = eqb-true (32 * n) (length t) e in (omega arith, drop_all (32 * n) t (omega arith))

-- one gate more
rows_of_more : (t : List ℕ) (k : ℕ) → total_rows (gates_read t (k + 1)) ≡ total_rows (gates_read t k) + own_rows (gate_in (row_at t (1 + k)))
unfolding gates_read
rows_of_more t k =
    let read : ℕ → Gate = λ i. gate_in (row_at t (1 + i)) in
    ap total_rows (map-range_with_len_more read 0 k k (omega arith)) ∙ rows_push (map read (range_with_len 0 k)) (read k)

-- where no gate stands, net 1 is read
net_one : (n : ℕ) → 1 ≤ n → (j : ℕ) → Net n (get_or (1 ∷ []) j 1)
net_one n l zero = (omega arith, l)
net_one n l (suc j) = (omega arith, l)

-- g gates whose rows passed, after n inputs
module _ (role : Role) (t : List ℕ) (n g : ℕ)
    (passed : (i : ℕ) → i < g → GateHolds role (n + i + 1) (total_rows (gates_read t i)) (row_at t (1 + i))) where
  gates_written : drop 32 t ≡ gate_texts (n + 1) (gates_read t g) ++ drop (32 * (1 + g)) t
  unfolding gates_read
  gates_written = rows_written t 1 (n + 1) gate_in gate_text gate_texts (λ k. refl) (λ k x xs. refl) g 0 32 (32 * (1 + g)) (n + 1)
      refl (omega arith) (omega arith)
      (λ j l m. let own : n + j + 1 ≡ n + 1 + j = omega arith in
      subst (λ k. row_at t (1 + j) ≡ gate_text k (gate_in (row_at t (1 + j)))) own (passed j (omega arith)).written)

  gates_few : 1 ≤ g → total_rows (gates_read t g) ≤ 64
  gates_few l =
      let last : g - 1 + 1 ≡ g = omega arith in
      subst (λ k. total_rows (gates_read t k) ≤ 64) last (omega (arith, rows_of_more t (g - 1), (passed (g - 1) (omega arith)).few))

  gates_below : 1 ≤ n → Below n (gates_read t g)
  unfolding gates_read
  gates_below some i j = elim (cases_lt i g) [
    | inl l ↦
        let at = get_or-map-range_with_len (λ k. gate_in (row_at t (1 + k))) 0 g i i (Unary Buffer 1) l (omega arith) in
        let own : n + i + 1 - 1 ≡ n + i = omega arith in
        subst (λ x. Net (n + i) (get_or (nets x) j 1)) (sym at)
        (subst (λ k. Net k (get_or (nets (gate_in (row_at t (1 + i)))) j 1)) own ((passed i l).reads j))
    | inr l ↦
        let past = get_or_past (map (λ k. gate_in (row_at t (1 + k))) (range_with_len 0 g)) i (Unary Buffer 1) (rw length-map-range_with_len l) in
        subst (λ x. Net (n + i) (get_or (nets x) j 1)) (sym past) (net_one (n + i) (omega arith) j)
  ]

-- gates of a specification have no setting rows
gates_bare : (t : List ℕ) (k : ℕ) → ((i : ℕ) → i < k → own_rows (gate_in (row_at t (1 + i))) ≡ 0) → total_rows (gates_read t k) ≡ 0
unfolding gates_read
gates_bare t zero h = refl
gates_bare t (suc k) h =
    omega (arith, rw add-one at (rows_of_more t k), gates_bare t k (λ i l. h i (omega arith)), h k (omega arith))

-- q outputs whose rows passed, after g gates
module _ (t : List ℕ) (n g q : ℕ) (passed : (j : ℕ) → j < q → OutputHolds n (row_at t (1 + g + j))) where
  outputs_written : drop (32 * (1 + g)) t ≡ output_texts (outputs_read t g q) ++ drop (32 * (1 + g + q)) t
  unfolding outputs_read
  outputs_written = rows_written t (1 + g) 0 (λ row. number 0 (fields_of row)) (λ k net. output_text net) (λ k nets. output_texts nets)
      (λ k. refl) (λ k x xs. refl) q 0 (32 * (1 + g)) (32 * (1 + g + q)) 0 (omega arith) (omega arith) (omega arith)
      (λ j l m. (passed j (omega arith)).written)

  outputs_driven : 1 ≤ n → Driven n (outputs_read t g q)
  unfolding outputs_read
  outputs_driven some j = elim (cases_lt j q) [
    | inl l ↦ subst (Net n) (sym (get_or-map-range_with_len (λ k. number 0 (fields_of (row_at t (1 + g + k)))) 0 q j j 1 l (omega arith))) (passed j l).net
    | inr l ↦
        let past = get_or_past (map (λ k. number 0 (fields_of (row_at t (1 + g + k)))) (range_with_len 0 q)) j 1 (rw length-map-range_with_len l) in
        subst (Net n) (sym past) (omega arith, some)
  ]

pub gates_length : (t : List ℕ) (k : ℕ) → length (gates_read t k) ≡ k
unfolding gates_read
gates_length t k = length-map-range_with_len (λ i. gate_in (row_at t (1 + i))) 0 k

pub outputs_length : (t : List ℕ) (g k : ℕ) → length (outputs_read t g k) ≡ k
unfolding outputs_read
outputs_length t g k = length-map-range_with_len (λ j. number 0 (fields_of (row_at t (1 + g + j)))) 0 k

-- each look at a sheet that has no fault
record Passed (role : Role) (t : List ℕ) : Type 0 where
  whole : whole_rows t ≡ true
  header : header_fault (row_at t 0) ≡ None
  count : rows_counted role (size (gates_in t) (outputs_in t)) (length t) ≡ true
  gates : (i : ℕ) → i < gates_in t → gate_fault role (inputs_in t + i + 1) (total_rows (gates_read t i)) (row_at t (1 + i)) ≡ None
  outputs : (j : ℕ) → j < outputs_in t → output_fault (inputs_in t + gates_in t) (row_at t (1 + gates_in t + j)) ≡ None

sheet_passed : (role : Role) (t : List ℕ) → sheet_fault role t ≡ None → Passed role t
unfolding sheet_fault
sheet_passed role t e =
    let whole = unless (whole_rows t) (fault_at Length 0) in
    let header = header_fault (row_at t 0) in
    let count = unless (rows_counted role (size (gates_in t) (outputs_in t)) (length t)) (fault_at RowCount 1) in
    let gate : ℕ → Option Fault = λ i. gate_fault role (inputs_in t + i + 1) (total_rows (gates_read t i)) (row_at t (1 + i)) in
    let output : ℕ → Option Fault = λ j. output_fault (inputs_in t + gates_in t) (row_at t (1 + gates_in t + j)) in
    let p = all_passed (whole ∷ at_row 1 header ∷ at_row 1 count ∷ gates_fault role t (gates_in t) ∷ outputs_fault t (outputs_in t) ∷ []) e in
    record {
      whole = test_passed (whole_rows t) (fault_at Length 0) p.0;
      header = moved_passed (moved_to_row 1) header p.1.0;
      count = test_passed (rows_counted role (size (gates_in t) (outputs_in t)) (length t)) (fault_at RowCount 1)
          (moved_passed (moved_to_row 1) count p.1.1.0);
      gates = λ i l. moved_passed (moved_to_row (i + 2)) (gate i) (each_passed (gates_in t) (λ k. at_row (k + 2) (gate k)) p.1.1.1.0 i l);
      outputs = λ j l. moved_passed (moved_to_row (gates_in t + j + 2)) (output j)
          (each_passed (outputs_in t) (λ k. at_row (gates_in t + k + 2) (output k)) p.1.1.1.1.0 j l);
    }

-- the circuit of n inputs, g gates and q outputs that the rows of t say
abbrev read_of : List ℕ → ℕ → ℕ → ℕ → Sheet
read_of t n g q = record { inputs = n; gates = gates_read t g; outputs = outputs_read t g q }

module _ (role : Role) (t : List ℕ) (n g q : ℕ) (few : (1 ≤ n) × (n ≤ 16)) (sized : (1 ≤ g) × (g ≤ 200)) (shown : (1 ≤ q) × (q ≤ 16))
    (header : row_at t 0 ≡ row_text 72 (n ∷ g ∷ q ∷ []))
    (gates : (i : ℕ) → i < g → GateHolds role (n + i + 1) (total_rows (gates_read t i)) (row_at t (1 + i)))
    (outputs : (j : ℕ) → j < q → OutputHolds (n + g) (row_at t (1 + g + j))) where
  all_written : t ≡ rows (read_of t n g q) ++ drop (size g q) t
  unfolding rows
  all_written =
      let head = header_text (read_of t n g q) in
      let middle = gate_texts (n + 1) (gates_read t g) in
      let end = output_texts (outputs_read t g q) in
      let rest = drop (size g q) t in
      let named : row_at t 0 ≡ head = header ∙ ap (λ k. row_text 72 (n ∷ k ∷ q ∷ [])) (sym (gates_length t g))
      ∙ ap (λ k. row_text 72 (n ∷ length (gates_read t g) ∷ k ∷ [])) (sym (outputs_length t g q)) in
      piece 32 0 32 t refl ∙ joined (row_at t 0) head (drop 32 t) (middle ++ (end ++ rest)) named
      (gates_written role t n g gates ∙ ap (λ r. middle ++ r) (outputs_written t (n + g) g q outputs))
      ∙ simp append_assoc

  all_lawful : Lawful (read_of t n g q)
  all_lawful =
      let long = gates_length t g in
      let wide = outputs_length t g q in
      record {
        few = few;
        sized = (omega arith, omega arith);
        shown = (omega arith, omega arith);
        below = gates_below role t n g gates few.0;
        driven = subst (λ k. Driven (n + k) (outputs_read t g q)) (sym long) (outputs_driven t (n + g) g q outputs (omega arith));
        rows = gates_few role t n g gates sized.0;
      }

all_suits : (role : Role) (t : List ℕ) (n g q : ℕ)
    → ((i : ℕ) → i < g → GateHolds role (n + i + 1) (total_rows (gates_read t i)) (row_at t (1 + i)))
    → Suits role (read_of t n g q)
all_suits Alone t n g q gates = tt
all_suits Target t n g q gates = tt
all_suits Specification t n g q gates = gates_bare t g (λ i l. (gates i l).stands)

pub sound : Sound
sound role t e =
    let p = sheet_passed role t e in
    let whole = and_parts (ltb 0 (length t)) (eqb (length t % 32) 0) p.whole in
    let some = ltb-true 0 (length t) whole.0 in
    let even = eqb-true (length t % 32) 0 whole.1 in
    let long : 32 * (0 + 1) ≤ length t = omega arith in
    let h = header_passed (row_at t 0) (row_length t 0 long) p.header in
    let left = counted role t (1 + gates_in t + outputs_in t) even p.count in
    let n = inputs_in t in
    let g = gates_in t in
    let q = outputs_in t in
    let gates : (i : ℕ) → i < g → GateHolds role (n + i + 1) (total_rows (gates_read t i)) (row_at t (1 + i)) =
    λ i l. gate_passed role (n + i + 1) (total_rows (gates_read t i)) (row_at t (1 + i)) (gate_length t g q i left.0 l) (p.gates i l) in
    let outputs : (j : ℕ) → j < q → OutputHolds (n + g) (row_at t (1 + g + j)) =
    λ j l. output_passed (n + g) (row_at t (1 + g + j)) (output_length t g q j left.0 l) (p.outputs j l) in
    record {
      lawful = all_lawful role t n g q h.inputs h.gates h.outputs h.written gates outputs;
      suits = all_suits role t n g q gates;
      written = all_written role t n g q h.inputs h.gates h.outputs h.written gates outputs;
      follows = left.1;
    }
