-- The rows of a lawful circuit have no fault and are read as that circuit: each row is found at its place, holds what was
-- written, and suits its shape since the circuit is lawful.
use Rattle.std.proofs.Common.{◌≡◌, ℕ, zero, suc, ◌+◌, ◌%◌, ◌<◌, ◌≤◌, true, eqb, ltb, List, [], ◌∷◌, ◌++◌, length, get_or, take, None, Option, sym, refl, ap, ◌∙◌, arith, length-append}
use Rattle.std.proofs.lemmas.List.{get_or-take, length-take-le, take_all}
use Rattle.std.proofs.lemmas.List.FromFn.{fill_by_all}
use Rattle.std.proofs.lemmas.Bool.{eq-eqb, le-leb, lt-ltb, and_from}
use Rattle.refusal.specs.declared.refusal.Refusal.TheVariants.{Length, RowCount}
use Rattle.refusal.specs.declared.fault.Fault.{Fault}
use Rattle.refusal.specs.Faults.{fault_at}
use Rattle.circuit.specs.declared.gate.Inputs.TheVariants.{One, Two, Three, Four}
use Rattle.circuit.specs.declared.gate.Unary.TheVariants.{Buffer}
use Rattle.circuit.specs.declared.gate.Gate.{Gate}
use Rattle.circuit.specs.declared.gate.Gate.TheVariants.{Unary, Binary, Table}
use Rattle.circuit.specs.Gates.{Sheet, Lawful, kind_of, gate_at, own_rows, total_rows}
use Rattle.refusal.specs.declared.role.Role.{Role}
use Rattle.refusal.specs.declared.role.Role.TheVariants.{Alone, Target, Specification}
use Rattle.sheet_format.specs.Rows.{rows, size, header_text, gate_text, output_text}
use Rattle.sheet_format.specs.Shapes.{lowest, highest, header_shape}
use Rattle.sheet_format.specs.Decoding.{row_at, fields_of, number, gate_in, inputs_in, gates_in, outputs_in, gates_read, outputs_read, sheet_in}
use Rattle.sheet_format.specs.FirstFault.{sheet_fault, header_fault, gates_fault, outputs_fault, gate_fault, output_fault, whole_rows, rows_counted, may_stand, unless, at_row}
use Rattle.sheet_format.proofs.Read.{Suits, MayFollow, Complete}
use Rattle.sheet_format.proofs.CompleteFields.{Suiting, row_holds, number_holds, row_none, or_none, first_below_none}
use Rattle.sheet_format.proofs.CompleteGates.{gate_same, gate_none, output_same, output_none}
use Rattle.sheet_format.proofs.CompleteRows as at
pub use Rattle.sheet_format.proofs.CompleteRows.{length_rows}

-- the rows of a gate and of those before it are among all rows
rows_within : (gs : List Gate) (i : ℕ) → i < length gs → total_rows (take i gs) + own_rows (gate_at gs i) ≤ total_rows gs
rows_within [] i h = absurd (omega arith)
rows_within (g ∷ gs) zero h = omega arith
rows_within (g ∷ gs) (suc i) h = omega (arith, rows_within gs i (omega arith))

-- a gate with no rows of its own is no table
plain_stands : (g : Gate) → own_rows g ≡ 0 → may_stand Specification (kind_of g) ≡ true
plain_stands (Unary u a) h = refl
plain_stands (Binary o a b) h = refl
plain_stands (Table (One a)) h = absurd (omega arith)
plain_stands (Table (Two a b)) h = absurd (omega arith)
plain_stands (Table (Three a b c)) h = absurd (omega arith)
plain_stands (Table (Four a b c d)) h = absurd (omega arith)

gate_stands : (role : Role) (s : Sheet) (i : ℕ) → Suits role s → i < length s.gates
    → may_stand role (kind_of (gate_at s.gates i)) ≡ true
gate_stands Alone s i suits h = refl
gate_stands Target s i suits h = refl
gate_stands Specification s i suits h = plain_stands (gate_at s.gates i) (omega (arith, rows_within s.gates i h))

three : (P : ℕ → Type 0) → P 0 → P 1 → P 2 → (j : ℕ) → j < 3 → P j
three P a b c zero h = a
three P a b c (suc zero) h = b
three P a b c (suc (suc zero)) h = c
three P a b c (suc (suc (suc j))) h = absurd (omega arith)

whole_follow : (role : Role) (rest : List ℕ) → MayFollow role rest → length rest % 32 ≡ 0
whole_follow Alone rest h = ap (λ t. length t % 32) h
whole_follow Target rest h = h
whole_follow Specification rest h = ap (λ t. length t % 32) h

rows_are_counted : (role : Role) (wanted given : ℕ) (rest : List ℕ) → MayFollow role rest → given ≡ wanted + length rest
    → rows_counted role wanted given ≡ true
rows_are_counted Alone wanted given rest h e = eq-eqb wanted given (omega (arith, ap length h))
rows_are_counted Target wanted given rest h e = le-leb wanted given (omega arith)
rows_are_counted Specification wanted given rest h e = eq-eqb wanted given (omega (arith, ap length h))

-- the numbers of the header
abbrev header_numbers : Sheet → List ℕ
header_numbers s = s.inputs ∷ length s.gates ∷ length s.outputs ∷ []

header_suits : (s : Sheet) → Lawful s → Suiting header_shape (header_numbers s)
header_suits s lawful = record {
  enough = omega arith;
  few = omega arith;
  low = three (λ j. lowest header_shape j ≤ get_or (header_numbers s) j 0) lawful.few.0 lawful.sized.0 lawful.shown.0;
  high = three (λ j. get_or (header_numbers s) j 0 ≤ highest header_shape j) lawful.few.1 lawful.sized.1 lawful.shown.1;
  small = three (λ j. get_or (header_numbers s) j 0 < 100000) (omega arith) (omega arith) (omega arith);
}

module _ (s : Sheet) (rest : List ℕ) (lawful : Lawful s) where
  header_number : (j : ℕ) → j < 3 → number j (fields_of (row_at (rows s ++ rest) 0)) ≡ get_or (header_numbers s) j 0
  header_number j h =
      ap (λ r. number j (fields_of r)) (at.row_of_header s rest)
      ∙ number_holds (fields_of (header_text s)) (header_numbers s) (row_holds 72 (header_numbers s)) j (omega arith) h ((header_suits s lawful).small j h)

  inputs_same : inputs_in (rows s ++ rest) ≡ s.inputs
  inputs_same = header_number 0 (omega arith)

  gates_counted : gates_in (rows s ++ rest) ≡ length s.gates
  gates_counted = header_number 1 (omega arith)

  outputs_counted : outputs_in (rows s ++ rest) ≡ length s.outputs
  outputs_counted = header_number 2 (omega arith)

  net_small : (i : ℕ) → i < length s.gates → s.inputs + i < 99999
  net_small i h = omega arith

  gates_same : (k : ℕ) → k ≤ length s.gates → gates_read (rows s ++ rest) k ≡ take k s.gates
  unfolding gates_read
  gates_same k h =
      let t = rows s ++ rest in
      let gs = s.gates in
      sym (fill_by_all (λ i. gate_in (row_at t (1 + i))) (take k gs) k (Unary Buffer 1) (length-take-le k gs h) (λ i l.
      let m : i < length gs = omega arith in
      get_or-take k gs i (Unary Buffer 1) l
      ∙ sym (ap gate_in (at.row_of_gate s rest i m) ∙ gate_same (s.inputs + i) (gate_at gs i) (lawful.below i) (net_small i m))))

  outputs_same : outputs_read (rows s ++ rest) (length s.gates) (length s.outputs) ≡ s.outputs
  unfolding outputs_read
  outputs_same =
      let t = rows s ++ rest in
      let qs = s.outputs in
      sym (fill_by_all (λ j. number 0 (fields_of (row_at t (1 + length s.gates + j)))) qs (length qs) 1 refl (λ j l.
      sym (ap (λ r. number 0 (fields_of r)) (at.row_of_output s rest j l) ∙ output_same (get_or qs j 1) (omega (arith, (lawful.driven j).1)))))

  sheet_same : sheet_in (rows s ++ rest) ≡ s
  sheet_same =
      let t = rows s ++ rest in
      let n = length s.gates in
      let g : gates_read t (gates_in t) ≡ s.gates =
      ap (gates_read t) gates_counted ∙ gates_same n (omega arith) ∙ take_all n s.gates (omega arith) in
      let o : outputs_read t (gates_in t) (outputs_in t) ≡ s.outputs =
      (λ i. outputs_read t (gates_counted i) (outputs_counted i)) ∙ outputs_same in
      λ i. record { inputs = inputs_same i; gates = g i; outputs = o i }

  header_none : header_fault (row_at (rows s ++ rest) 0) ≡ None
  header_none = ap header_fault (at.row_of_header s rest) ∙ row_none true header_shape 72 (header_numbers s) refl (header_suits s lawful)

  gates_none : (role : Role) → Suits role s → gates_fault role (rows s ++ rest) (gates_in (rows s ++ rest)) ≡ None
  gates_none role suits =
      let t = rows s ++ rest in
      let gs = s.gates in
      let look : ℕ → Option Fault = λ i. gate_fault role (inputs_in t + i + 1) (total_rows (gates_read t i)) (row_at t (1 + i)) in
      first_below_none (gates_in t) (λ i. at_row (i + 2) (look i)) (λ i l.
      let m : i < length gs = omega (arith, gates_counted) in
      let among = rows_within gs i m in
      let before = gates_same i (omega arith) in
      let row = at.row_of_gate s rest i m in
      let read : look i ≡ gate_fault role (s.inputs + i + 1) (total_rows (take i gs)) (gate_text (s.inputs + i + 1) (gate_at gs i)) =
      λ k. gate_fault role (inputs_same k + i + 1) (total_rows (before k)) (row k) in
      let stands = gate_stands role s i suits m in
      ap (at_row (i + 2)) (read
      ∙ gate_none (s.inputs + i) (gate_at gs i) (lawful.below i) (net_small i m) role (total_rows (take i gs)) stands (omega arith)))

  outputs_none : outputs_fault (rows s ++ rest) (outputs_in (rows s ++ rest)) ≡ None
  outputs_none =
      let t = rows s ++ rest in
      let n = s.inputs + length s.gates in
      let look : ℕ → Option Fault = λ j. output_fault (inputs_in t + gates_in t) (row_at t (1 + gates_in t + j)) in
      first_below_none (outputs_in t) (λ j. at_row (gates_in t + j + 2) (look j)) (λ j l.
      let m : j < length s.outputs = omega (arith, outputs_counted) in
      let net = get_or s.outputs j 1 in
      let row : row_at t (1 + gates_in t + j) ≡ output_text net = ap (λ g. row_at t (1 + g + j)) gates_counted ∙ at.row_of_output s rest j m in
      let read : look j ≡ output_fault n (output_text net) = λ k. output_fault (inputs_same k + gates_counted k) (row k) in
      ap (at_row (gates_in t + j + 2)) (read ∙ output_none n net (lawful.driven j) (omega arith)))

  module _ (role : Role) (follows : MayFollow role rest) where
    whole : whole_rows (rows s ++ rest) ≡ true
    whole =
        let n = length (rows s ++ rest) in
        let many = length-append (rows s) rest in
        let each = length_rows s in
        let after = whole_follow role rest follows in
        and_from (ltb 0 n) (eqb (n % 32) 0) (lt-ltb 0 n (omega arith)) (eq-eqb (n % 32) 0 (omega arith))

    counted : rows_counted role (size (gates_in (rows s ++ rest)) (outputs_in (rows s ++ rest))) (length (rows s ++ rest)) ≡ true
    counted =
        let t = rows s ++ rest in
        let wanted : size (gates_in t) (outputs_in t) ≡ length (rows s) = (λ i. size (gates_counted i) (outputs_counted i)) ∙ sym (length_rows s) in
        rows_are_counted role (size (gates_in t) (outputs_in t)) (length t) rest follows
        (length-append (rows s) rest ∙ ap (λ n. n + length rest) (sym wanted))

    sheet_none : Suits role s → sheet_fault role (rows s ++ rest) ≡ None
    unfolding sheet_fault
    sheet_none suits =
        or_none (ap (λ b. unless b (fault_at Length 0)) whole)
        (or_none (ap (at_row 1) header_none)
        (or_none (ap (λ b. at_row 1 (unless b (fault_at RowCount 1))) counted)
        (or_none (gates_none role suits)
        (or_none outputs_none refl))))

pub complete : Complete
complete role s rest lawful suits follows = record { faultless = sheet_none s rest lawful role follows suits; same = sheet_same s rest lawful }
