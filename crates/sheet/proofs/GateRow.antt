-- The fault of a gate's row, and the gate that it says.
use Rattle.std.proofs.Common.{◌≡◌, ℕ, zero, suc, ◌+◌, ◌<◌, ◌≤◌, true, List, get_or, Some, None, Option, sym, ap, ◌∙◌, arith}
use Rattle.std.proofs.lemmas.Bool.{lt-leb, le-leb}
use Rattle.refusal.specs.declared.refusal.Refusal.TheVariants.{TableBits}
use Rattle.refusal.specs.declared.fault.Fault.{Fault}
use Rattle.refusal.specs.declared.role.Role.{Role}
use Rattle.refusal.specs.Faults.{fault_at}
use Rattle.circuit.specs.declared.gate.Gate.{Gate}
use Rattle.circuit.specs.declared.gate.Kind.{Kind}
use Rattle.circuit.specs.Gates.{own_rows}
use Rattle.sheet_format.specs.Shapes.{highest, gate_shape}
use Rattle.sheet_format.specs.Decoding.{letter, fields_of, filled, numbers, kind_named, kind_in, gate_in, gate_from}
use Rattle.sheet_format.specs.FirstFault.{fields_fault, row_fault, gate_fault, names_gate}
use Rattle.sheet_format.proofs.OfKinds.{input_bounds, takes}
use Rattle.sheet_format.proofs.SoundFields.{fields_passed}
use Rattle.sheet.specs.Parts.{options, GateFields}
use Rattle.sheet.proofs.Fields.{by_fields}
use Rattle.sheet.proofs.Told.{options_are}

-- the fault of a gate's row: that of its letter and fields, and last the table bits
module _ (role : Role) (own before : ℕ) (row : List ℕ) where
  abbrev shaped : Option Fault
  shaped = row_fault (names_gate role (letter row)) (gate_shape own (kind_in row)) row

  pub in_fields : (f : Fault) → shaped ≡ Some f → gate_fault role own before row ≡ Some f
  unfolding gate_fault
  in_fields f e = rw e

  pub too_many : shaped ≡ None → 64 < before + own_rows (gate_in row) → gate_fault role own before row ≡ Some (fault_at TableBits 1)
  unfolding gate_fault
  too_many e h = rw (e, lt-leb (before + own_rows (gate_in row)) 64 h)

  pub few_enough : shaped ≡ None → before + own_rows (gate_in row) ≤ 64 → gate_fault role own before row ≡ None
  unfolding gate_fault
  few_enough e h = rw (e, le-leb (before + own_rows (gate_in row)) 64 h)

-- fields without a fault in the shape of a gate are those of a gate
pub gate_fields : (own : ℕ) (kind : Kind) (text : List ℕ) (fields : List (Option ℕ)) → own ≤ 216 → fields_fault (gate_shape own kind) text ≡ None → fields ≡ options text
    → GateFields kind (filled text) (numbers text) fields
gate_fields own kind text fields few none are =
    let s = gate_shape own kind in
    let h = fields_passed s text none in
    let t = takes kind in
    let net : (j : ℕ) → j < 6 → highest s j ≤ 255 = high in
    record {
      filled = are ∙ options_are s text (filled text) h;
      least = h.needed (omega arith);
      most = h.allowed;
      nets = λ j l. omega (arith, h.within, h.high j l, net j (omega (arith, h.within)));
    }
  where
    high : (j : ℕ) → j < 6 → highest (gate_shape own kind) j ≤ 255
    high zero l = omega arith
    high (suc j) l = rw (input_bounds own kind j (omega arith)).1 (omega arith)

-- a gate's row, by what was read of it: its letter, and the letter's kind
module _ (role : Role) (own before : ℕ) (row : List ℕ) (kind : Kind) (l : ℕ)
    (feed : get_or row 31 0 ≡ 10) (is_l : l ≡ letter row) (named : names_gate role l ≡ true) (is_kind : kind ≡ kind_named l) where
  kind_is : kind ≡ kind_in row
  kind_is = is_kind ∙ ap kind_named is_l

  pub fields_found : (o : Option Fault) → fields_fault (gate_shape own kind) (fields_of row) ≡ o → shaped role own before row ≡ o
  fields_found o e =
      by_fields (names_gate role (letter row)) (gate_shape own (kind_in row)) row feed (ap (names_gate role) (sym is_l) ∙ named) o
      (ap (λ k. fields_fault (gate_shape own k) (fields_of row)) (sym kind_is) ∙ e)

  pub gate_is : (g : Gate) → g ≡ gate_from kind (filled (fields_of row)) (numbers (fields_of row)) → g ≡ gate_in row
  gate_is g e = e ∙ ap (λ k. gate_from k (filled (fields_of row)) (numbers (fields_of row))) kind_is
