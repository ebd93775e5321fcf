-- The rows of a sheet without a fault: the header, a gate's row and an output's row are the rows of what they say, within its bounds.
use Rattle.std.proofs.Common.{◌≡◌, ℕ, zero, suc, ◌+◌, ◌-◌, ◌<◌, ◌≤◌, Bool, true, false, cond, eqb, leb, List, [], ◌∷◌, length, get_or, take, is_some, Some, None, Option, unwrap_or, sym, refl, ap, ◌∙◌, inl, inr, arith}
use Rattle.std.proofs.lemmas.List.{get_or_past, get_or-take, get_or_default, length-take}
use Rattle.std.proofs.lemmas.Bool.{cases_lt, and_parts, eqb-true, leb-true}
use Rattle.circuit.specs.declared.gate.Kind as kinds
use Rattle.circuit.specs.declared.gate.Kind.{Kind}
use Rattle.circuit.specs.declared.gate.Kind.TheVariants.{Table}
use Rattle.circuit.specs.declared.gate.Gate.{Gate}
use Rattle.circuit.specs.Kinds.{letter_of, fewest_inputs, most_inputs, all_kinds, kind_among}
use Rattle.circuit.specs.Gates.{kind_of, nets, named, own_rows, Net}
use Rattle.refusal.specs.declared.refusal.Refusal.TheVariants.{TableBits}
use Rattle.refusal.specs.Faults.{fault_at}
use Rattle.layout.specs.declared.shape.Shape.{Shape}
use Rattle.layout.specs.Text.{row_text}
use Rattle.refusal.specs.declared.role.Role.{Role}
use Rattle.refusal.specs.declared.role.Role.TheVariants.{Alone, Target, Specification}
use Rattle.sheet_format.specs.Rows.{gate_text, output_text}
use Rattle.sheet_format.specs.Shapes.{lowest, highest, header_shape, gate_shape, output_shape}
use Rattle.sheet_format.specs.Decoding.{letter, fields_of, number, numbers, filled, inputs_from, gate_from, kind_in, gate_in}
use Rattle.sheet_format.specs.FirstFault.{unless, row_fault, header_fault, gate_fault, output_fault, names_gate, may_stand}
use Rattle.sheet_format.proofs.OfKinds.{input_bounds, unary_takes, binary_takes, takes}
use Rattle.sheet_format.proofs.SoundLooks.{all_passed, test_passed}
use Rattle.sheet_format.proofs.SoundRow.{RowHolds, row_passed}

-- the header says three numbers within their bounds
pub record HeaderHolds (row : List ℕ) : Type 0 where
  pub inputs : (1 ≤ number 0 (fields_of row)) × (number 0 (fields_of row) ≤ 16)
  pub gates : (1 ≤ number 1 (fields_of row)) × (number 1 (fields_of row) ≤ 200)
  pub outputs : (1 ≤ number 2 (fields_of row)) × (number 2 (fields_of row) ≤ 16)
  pub written : row ≡ row_text 72 (number 0 (fields_of row) ∷ number 1 (fields_of row) ∷ number 2 (fields_of row) ∷ [])

-- the row of a letter and exactly n numbers
exactly : (b : Bool) (l n : ℕ) {s : Shape} (row : List ℕ) (k : ℕ) → letter row ≡ l → k ≡ n → RowHolds b s row k
    → row ≡ row_text l (take n (numbers (fields_of row)))
exactly b l n row k e f h =
    h.written ∙ ap (λ x. row_text x (take k (numbers (fields_of row)))) e ∙ ap (λ x. row_text l (take x (numbers (fields_of row)))) f

header_holds : (row : List ℕ) (k : ℕ) → RowHolds (eqb (letter row) 72) header_shape row k → HeaderHolds row
header_holds row k h =
    let few : k ≡ 3 = omega (arith, h.fields.needed (omega arith), h.fields.allowed) in
    record {
      inputs = (h.fields.low 0 (omega arith), h.fields.high 0 (omega arith));
      gates = (h.fields.low 1 (omega arith), h.fields.high 1 (omega arith));
      outputs = (h.fields.low 2 (omega arith), h.fields.high 2 (omega arith));
      written = exactly _ 72 3 row k (eqb-true (letter row) 72 h.stood) few h;
    }

pub header_passed : (row : List ℕ) → length row ≡ 32 → header_fault row ≡ None → HeaderHolds row
header_passed row e none = header_holds row _ (row_passed _ _ row e none)

-- an output's row says one net
pub record OutputHolds (n : ℕ) (row : List ℕ) : Type 0 where
  pub net : Net n (number 0 (fields_of row))
  pub written : row ≡ output_text (number 0 (fields_of row))

output_holds : (n : ℕ) (row : List ℕ) (k : ℕ) → RowHolds (eqb (letter row) 81) (output_shape n) row k → OutputHolds n row
output_holds n row k h =
    let few : k ≡ 1 = omega (arith, h.fields.needed (omega arith), h.fields.allowed) in
    record {
      net = (h.fields.low 0 (omega arith), h.fields.high 0 (omega arith));
      written = exactly _ 81 1 row k (eqb-true (letter row) 81 h.stood) few h;
    }

pub output_passed : (n : ℕ) (row : List ℕ) → length row ≡ 32 → output_fault n row ≡ None → OutputHolds n row
output_passed n row e none = output_holds n row _ (row_passed _ _ row e none)

-- the letter that names a kind is the kind's
letter_here : (b : Bool) (k : Kind) (rest : Option Kind) (x : ℕ) → eqb (letter_of k) x ≡ b → (is_some rest ≡ true → letter_of (unwrap_or rest Table) ≡ x)
    → is_some (cond b (Some k) rest) ≡ true → letter_of (unwrap_or (cond b (Some k) rest) Table) ≡ x
letter_here true k rest x is later e = eqb-true (letter_of k) x is
letter_here false k rest x is later e = later e

pub letter_named : (ks : List Kind) (x : ℕ) → is_some (kind_among ks x) ≡ true → letter_of (unwrap_or (kind_among ks x) Table) ≡ x
letter_named [] x e = cc
letter_named (k ∷ ks) x e = letter_here (eqb (letter_of k) x) k (kind_among ks x) x refl (letter_named ks x) e

-- the first k of six numbers are those of the gate of that kind
table_numbers : (k a b c d e f : ℕ) → 2 ≤ k → k ≤ 5
    → take k (a ∷ b ∷ c ∷ d ∷ e ∷ f ∷ []) ≡ a ∷ named (inputs_from k (a ∷ b ∷ c ∷ d ∷ e ∷ f ∷ []))
table_numbers zero a b c d e f l m = absurd (omega arith)
table_numbers (suc zero) a b c d e f l m = absurd (omega arith)
table_numbers (suc (suc zero)) a b c d e f l m = refl
table_numbers (suc (suc (suc zero))) a b c d e f l m = refl
table_numbers (suc (suc (suc (suc zero)))) a b c d e f l m = refl
table_numbers (suc (suc (suc (suc (suc zero))))) a b c d e f l m = refl
table_numbers (suc (suc (suc (suc (suc (suc k)))))) a b c d e f l m = absurd (omega arith)

gate_numbers : (x : Kind) (k a b c d e f : ℕ) → 1 + fewest_inputs x ≤ k → k ≤ 1 + most_inputs x
    → take k (a ∷ b ∷ c ∷ d ∷ e ∷ f ∷ []) ≡ a ∷ nets (gate_from x k (a ∷ b ∷ c ∷ d ∷ e ∷ f ∷ []))
gate_numbers (kinds.TheVariants.Unary u) k a b c d e f l m =
    let n = unary_takes u in let two : k ≡ 2 = omega arith in ap (λ i. take i (a ∷ b ∷ c ∷ d ∷ e ∷ f ∷ [])) two
gate_numbers (kinds.TheVariants.Binary o) k a b c d e f l m =
    let n = binary_takes o in let three : k ≡ 3 = omega arith in ap (λ i. take i (a ∷ b ∷ c ∷ d ∷ e ∷ f ∷ [])) three
gate_numbers kinds.TheVariants.Table k a b c d e f l m = table_numbers k a b c d e f l m

pub gate_kind : (x : Kind) (k : ℕ) (ns : List ℕ) → kind_of (gate_from x k ns) ≡ x
gate_kind (kinds.TheVariants.Unary u) k ns = refl
gate_kind (kinds.TheVariants.Binary o) k ns = refl
gate_kind kinds.TheVariants.Table k ns = refl

-- the numbers after the first are nets below the gate's own, and past them stands net 1
nets_below : (own : ℕ) (x : Kind) (k a : ℕ) (xs ns : List ℕ) → take k ns ≡ a ∷ xs → length ns ≡ 6 → 2 ≤ k → k ≤ 6
    → ((j : ℕ) → j < k → lowest (gate_shape own x) j ≤ get_or ns j 0)
    → ((j : ℕ) → j < k → get_or ns j 0 ≤ highest (gate_shape own x) j)
    → (j : ℕ) → Net (own - 1) (get_or xs j 1)
nets_below own x k a xs ns e long two six low high j =
    let count : suc (length xs) ≡ k = sym (ap length e) ∙ simp length-take (omega arith) in
    elim (cases_lt j (length xs)) [
      | inl l ↦
          let at : get_or ns (suc j) 0 ≡ get_or xs j 1 =
          sym (get_or-take k ns (suc j) 0 (omega arith)) ∙ ap (λ ys. get_or ys (suc j) 0) e ∙ get_or_default xs j 0 1 l in
          let are = input_bounds own x j (omega arith) in
          let least = low (suc j) (omega arith) in
          let most = high (suc j) (omega arith) in
          (rw (← at) (rw are.0 at least), rw (← at) (rw are.1 at most))
      | inr l ↦ let past = get_or_past xs j 1 l in (omega arith, omega (arith, low 1 (omega arith), high 1 (omega arith)))
    ]

gate_holds : (x : Kind) (b : Bool) (own k : ℕ) (row : List ℕ) → letter_of x ≡ letter row → RowHolds b (gate_shape own x) row k
    → (row ≡ gate_text own (gate_from x k (numbers (fields_of row))))
    × ((j : ℕ) → Net (own - 1) (get_or (nets (gate_from x k (numbers (fields_of row)))) j 1))
gate_holds x b own k row e h =
    let t = takes x in
    let least : 1 + fewest_inputs x ≤ k = h.fields.needed (omega arith) in
    let ns = numbers (fields_of row) in
    let g = gate_from x k ns in
    let a = number 0 (fields_of row) in
    let are : take k ns ≡ a ∷ nets g = gate_numbers x k a _ _ _ _ _ least h.fields.allowed in
    let first : a ≡ own = omega (arith, h.fields.low 0 (omega arith), h.fields.high 0 (omega arith)) in (
      h.written ∙ ap (row_text (letter row)) (are ∙ ap (λ n. n ∷ nets g) first)
          ∙ ap (λ l. row_text l (own ∷ nets g)) (sym e ∙ ap letter_of (sym (gate_kind x k ns))),
      nets_below own x k a (nets g) ns are refl (omega arith) h.fields.within h.fields.low h.fields.high,
    )

-- a gate of a specification has no setting rows
abbrev pub Bare : Role → Gate → Type 0
Bare Alone g = Unit {0}
Bare Target g = Unit {0}
Bare Specification g = own_rows g ≡ 0

bare : (role : Role) (x : Kind) (k : ℕ) (ns : List ℕ) → may_stand role x ≡ true → Bare role (gate_from x k ns)
bare Alone x k ns e = tt
bare Target x k ns e = tt
bare Specification (kinds.TheVariants.Unary u) k ns e = refl
bare Specification (kinds.TheVariants.Binary o) k ns e = refl
bare Specification kinds.TheVariants.Table k ns e = cc

-- a gate's row says a gate that reads nets below its own
pub record GateHolds (role : Role) (own before : ℕ) (row : List ℕ) : Type 0 where
  pub written : row ≡ gate_text own (gate_in row)
  pub reads : (j : ℕ) → Net (own - 1) (get_or (nets (gate_in row)) j 1)
  pub few : before + own_rows (gate_in row) ≤ 64
  pub stands : Bare role (gate_in row)

pub gate_passed : (role : Role) (own before : ℕ) (row : List ℕ) → length row ≡ 32 → gate_fault role own before row ≡ None
    → GateHolds role own before row
unfolding gate_fault
gate_passed role own before row e none =
    let stands = names_gate role (letter row) in
    let bits = leb (before + own_rows (gate_in row)) 64 in
    let p = all_passed (row_fault stands (gate_shape own (kind_in row)) row ∷ unless bits (fault_at TableBits 1) ∷ []) none in
    let h = row_passed stands (gate_shape own (kind_in row)) row e p.0 in
    let named = and_parts (is_some (kind_among all_kinds (letter row))) (may_stand role (kind_in row)) h.stood in
    let is = gate_holds (kind_in row) stands own (filled (fields_of row)) row (letter_named all_kinds (letter row) named.0) h in
    record {
      written = is.0;
      reads = is.1;
      few = leb-true (before + own_rows (gate_in row)) 64 (test_passed bits (fault_at TableBits 1) p.1.0);
      stands = bare role (kind_in row) (filled (fields_of row)) (numbers (fields_of row)) named.1;
    }
