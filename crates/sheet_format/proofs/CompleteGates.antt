-- A gate's row and an output's row as they are read back, by cases on the kinds: the gate that was written, and no fault.
use Rattle.std.proofs.Common.{◌≡◌, ℕ, zero, suc, ◌+◌, ◌<◌, ◌≤◌, true, ◌&&◌, leb, List, [], ◌∷◌, length, get_or, is_some, Some, None, unwrap_or, sym, refl, ap, ◌∙◌, subst, arith}
use Rattle.std.proofs.lemmas.Bool.{le-leb}
use Rattle.std.proofs.lemmas.List.{get_or_default}
use Rattle.refusal.specs.declared.refusal.Refusal.TheVariants.{TableBits}
use Rattle.refusal.specs.Faults.{fault_at}
use Rattle.circuit.specs.declared.gate.Inputs.TheVariants.{One, Two, Three, Four}
use Rattle.circuit.specs.declared.gate.Unary.TheVariants.{Buffer, Inverter}
use Rattle.circuit.specs.declared.gate.Binary.TheVariants.{And, Or, Xor, Nand, Nor, Xnor}
use Rattle.circuit.specs.declared.gate.Kind.{Kind}
use Rattle.circuit.specs.declared.gate.Kind as kinds
use Rattle.circuit.specs.declared.gate.Gate.{Gate}
use Rattle.circuit.specs.declared.gate.Gate.TheVariants.{Unary, Binary, Table}
use Rattle.circuit.specs.Kinds.{all_kinds, kind_among, letter_of, fewest_inputs, most_inputs}
use Rattle.circuit.specs.Gates.{Net, kind_of, nets, own_rows}
use Rattle.refusal.specs.declared.role.Role.{Role}
use Rattle.sheet_format.specs.Rows.{gate_text, output_text}
use Rattle.sheet_format.specs.Shapes.{lowest, highest, gate_shape, output_shape}
use Rattle.sheet_format.specs.Decoding.{fields_of, filled, number, numbers, gate_from, kind_named, gate_in}
use Rattle.sheet_format.specs.FirstFault.{names_gate, may_stand, gate_fault, output_fault, row_fault, unless}
use Rattle.sheet_format.proofs.OfKinds.{input_bounds, numbers_at, unary_takes, binary_takes}
use Rattle.sheet_format.proofs.CompleteFields.{Suiting, row_holds, number_holds, filled_below_holds, row_none, or_none}

-- a kind is found by its letter
pub kind_found : (k : Kind) → kind_among all_kinds (letter_of k) ≡ Some k
kind_found (kinds.TheVariants.Unary Buffer) = refl
kind_found (kinds.TheVariants.Unary Inverter) = refl
kind_found (kinds.TheVariants.Binary And) = refl
kind_found (kinds.TheVariants.Binary Or) = refl
kind_found (kinds.TheVariants.Binary Xor) = refl
kind_found (kinds.TheVariants.Binary Nand) = refl
kind_found (kinds.TheVariants.Binary Nor) = refl
kind_found (kinds.TheVariants.Binary Xnor) = refl
kind_found kinds.TheVariants.Table = refl

pub kind_back : (k : Kind) → kind_named (letter_of k) ≡ k
kind_back k = ap (λ x. unwrap_or x kinds.TheVariants.Table) (kind_found k)

-- a gate has as many inputs as its kind takes
pub inputs_counted : (g : Gate) → (fewest_inputs (kind_of g) ≤ length (nets g)) × (length (nets g) ≤ most_inputs (kind_of g)) × (length (nets g) ≤ 4)
inputs_counted (Unary u a) = let n = unary_takes u in (omega arith, omega arith, omega arith)
inputs_counted (Binary o a b) = let n = binary_takes o in (omega arith, omega arith, omega arith)
inputs_counted (Table (One a)) = (omega arith, omega arith, omega arith)
inputs_counted (Table (Two a b)) = (omega arith, omega arith, omega arith)
inputs_counted (Table (Three a b c)) = (omega arith, omega arith, omega arith)
inputs_counted (Table (Four a b c d)) = (omega arith, omega arith, omega arith)

-- a gate is made again from the numbers of its row
gate_back : (own : ℕ) (g : Gate) (ns : List ℕ) → ((j : ℕ) → j < length (own ∷ nets g) → get_or ns j 0 ≡ get_or (own ∷ nets g) j 0)
    → gate_from (kind_of g) (length (own ∷ nets g)) ns ≡ g
gate_back own (Unary u a) ns h = ap (Unary u) (h 1 (omega arith))
gate_back own (Binary o a b) ns h = λ i. Binary o (h 1 (omega arith) i) (h 2 (omega arith) i)
gate_back own (Table (One a)) ns h = λ i. Table (One (h 1 (omega arith) i))
gate_back own (Table (Two a b)) ns h = λ i. Table (Two (h 1 (omega arith) i) (h 2 (omega arith) i))
gate_back own (Table (Three a b c)) ns h = λ i. Table (Three (h 1 (omega arith) i) (h 2 (omega arith) i) (h 3 (omega arith) i))
gate_back own (Table (Four a b c d)) ns h =
    λ i. Table (Four (h 1 (omega arith) i) (h 2 (omega arith) i) (h 3 (omega arith) i) (h 4 (omega arith) i))

module _ (own : ℕ) (g : Gate) (small : (j : ℕ) → j < length (own ∷ nets g) → get_or (own ∷ nets g) j 0 < 100000) where
  pub gate_read : gate_in (gate_text own g) ≡ g
  gate_read =
      let ns = own ∷ nets g in
      let text = fields_of (gate_text own g) in
      let holds = row_holds (letter_of (kind_of g)) ns in
      let four = (inputs_counted g).2 in
      let many : filled text ≡ length ns = filled_below_holds text ns holds 6 (omega arith) ∙ omega arith in
      let same : (j : ℕ) → j < length ns → get_or (numbers text) j 0 ≡ get_or ns j 0 =
      λ j l. let six : j < 6 = omega arith in numbers_at text j six ∙ number_holds text ns holds j six l (small j l) in
      ap (λ k. gate_from k (filled text) (numbers text)) (kind_back (kind_of g))
      ∙ ap (λ n. gate_from (kind_of g) n (numbers text)) many
      ∙ gate_back own g (numbers text) same

-- its letter names a gate, where it may stand
kind_stands : (role : Role) (k : Kind) → may_stand role k ≡ true → names_gate role (letter_of k) ≡ true
kind_stands role k stands = ap (λ x. is_some x && may_stand role (unwrap_or x kinds.TheVariants.Table)) (kind_found k) ∙ stands

-- the gate that drives net m + 1 reads nets up to m
module _ (m : ℕ) (g : Gate) (within : (j : ℕ) → Net m (get_or (nets g) j 1)) (small : m < 99999) where
  input_net_within : (j : ℕ) → j < length (nets g) → Net m (get_or (nets g) j 0)
  input_net_within j h = rw (get_or_default (nets g) j 0 1 h) (within j)

  gate_low : (j : ℕ) → j < length ((m + 1) ∷ nets g) → lowest (gate_shape (m + 1) (kind_of g)) j ≤ get_or ((m + 1) ∷ nets g) j 0
  gate_low zero h = omega arith
  gate_low (suc j) h = let c = inputs_counted g in rw (input_bounds (m + 1) (kind_of g) j (omega arith)).0 (input_net_within j (omega arith)).0

  gate_high : (j : ℕ) → j < length ((m + 1) ∷ nets g) → get_or ((m + 1) ∷ nets g) j 0 ≤ highest (gate_shape (m + 1) (kind_of g)) j
  gate_high zero h = omega arith
  gate_high (suc j) h =
      let c = inputs_counted g in rw (input_bounds (m + 1) (kind_of g) j (omega arith)).1 (omega (arith, (input_net_within j (omega arith)).1))

  gate_small : (j : ℕ) → j < length ((m + 1) ∷ nets g) → get_or ((m + 1) ∷ nets g) j 0 < 100000
  gate_small zero h = omega arith
  gate_small (suc j) h = omega (arith, (input_net_within j (omega arith)).1)

  gate_suits : Suiting (gate_shape (m + 1) (kind_of g)) ((m + 1) ∷ nets g)
  gate_suits = let c = inputs_counted g in
      record { enough = omega arith; few = omega arith; low = gate_low; high = gate_high; small = gate_small }

  pub gate_same : gate_in (gate_text (m + 1) g) ≡ g
  gate_same = gate_read (m + 1) g gate_small

  pub gate_none : (role : Role) (before : ℕ) → may_stand role (kind_of g) ≡ true → before + own_rows g ≤ 64
      → gate_fault role (m + 1) before (gate_text (m + 1) g) ≡ None
  unfolding gate_fault
  gate_none role before stands room =
      let k = kind_of g in
      let row = gate_text (m + 1) g in
      let fields : row_fault (names_gate role (letter_of k)) (gate_shape (m + 1) k) row ≡ None =
      row_none (names_gate role (letter_of k)) (gate_shape (m + 1) k) (letter_of k) ((m + 1) ∷ nets g) (kind_stands role k stands) gate_suits in
      let fields_read = subst (λ (x : Kind). row_fault (names_gate role (letter_of k)) (gate_shape (m + 1) x) row ≡ None) (sym (kind_back k)) fields in
      let bits : leb (before + own_rows (gate_in row)) 64 ≡ true =
      ap (λ x. leb (before + own_rows x) 64) gate_same ∙ le-leb (before + own_rows g) 64 room in
      or_none fields_read (or_none (ap (λ b. unless b (fault_at TableBits 1)) bits) refl)

-- an output's row holds its net
pub output_same : (net : ℕ) → net < 100000 → number 0 (fields_of (output_text net)) ≡ net
output_same net small = number_holds (fields_of (output_text net)) (net ∷ []) (row_holds 81 (net ∷ [])) 0 (omega arith) (omega arith) small

only : (P : ℕ → Type 0) → P 0 → (j : ℕ) → j < 1 → P j
only P h zero l = h
only P h (suc j) l = absurd (omega arith)

pub output_none : (n net : ℕ) → Net n net → n < 100000 → output_fault n (output_text net) ≡ None
output_none n net h small =
    row_none true (output_shape n) 81 (net ∷ []) refl (record {
      enough = omega arith;
      few = omega arith;
      low = only (λ j. lowest (output_shape n) j ≤ get_or (net ∷ []) j 0) h.0;
      high = only (λ j. get_or (net ∷ []) j 0 ≤ highest (output_shape n) j) h.1;
      small = only (λ j. get_or (net ∷ []) j 0 < 100000) (omega arith);
    })
