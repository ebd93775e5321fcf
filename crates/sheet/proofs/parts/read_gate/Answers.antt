use Rattle.std.proofs.Common.{Some, None, sym, ap, ◌∙◌, arith}
use Rattle.std.proofs.lemmas.Result.{err_from_is_err_and}
use Rattle.circuit.specs.Gates.{own_rows}
use Rattle.sheet_format.specs.Decoding.{fields_of, filled, numbers}
use Rattle.sheet_format.specs.FirstFault.{names_gate}
use Rattle.sheet.proofs.Fields.{no_feed, no_letter}
use Rattle.sheet.proofs.GateRow.{in_fields, too_many, few_enough, gate_fields, fields_found, gate_is}
use Rattle.sheet.proofs.parts.read_gate.Goals as goal

pub returns-in_err-letter : goal.returns-in_err-letter
returns-in_err-letter c =
    let p = err_from_is_err_and c.from_residual.result c.from_residual.ensures.1 in
    let h = c.in_err-letter.ensures in
    rw (p.1, p.2) (in_fields c.args.role c.args.own c.args.before c.args.row.now _ (no_feed _ _ c.args.row.now h.1) ∙ ap Some (sym h.0))

pub returns-in_err-kind : goal.returns-in_err-kind
returns-in_err-kind c =
    let p = err_from_is_err_and c.from_residual-in_err-kind.result c.from_residual-in_err-kind.ensures.1 in
    let h = c.in_ok-letter.ensures in
    let k = c.in_err-kind.ensures in
    rw (p.1, p.2)
    (in_fields c.args.role c.args.own c.args.before c.args.row.now _ (no_letter _ _ c.args.row.now h.0 (ap (names_gate c.args.role) (sym h.1) ∙ k.0))
    ∙ ap Some (sym k.1))

pub returns-in_err-fields : goal.returns-in_err-fields
returns-in_err-fields c =
    let p = err_from_is_err_and c.from_residual-in_err-fields.result c.from_residual-in_err-fields.ensures.1 in
    let h = c.in_ok-letter.ensures in
    let k = c.in_ok-kind.ensures in
    let v = rw c.shape_of_gate.ensures at c.in_err-fields.ensures in
    rw (p.1, p.2)
    (in_fields c.args.role c.args.own c.args.before c.args.row.now _
    (fields_found c.args.role c.args.own c.args.before c.args.row.now c.in_ok-kind.kind _ h.0 h.1 k.0 k.1 _ v))

pub gate_of-gate-requires : goal.gate_of-gate-requires
gate_of-gate-requires c =
    let text = fields_of c.args.row.now in
    let v = rw c.shape_of_gate.ensures at c.in_ok-fields.ensures in
    (filled text, numbers text, gate_fields c.args.own c.in_ok-kind.kind text c.in_ok-fields.fields (omega arith) v.0 v.1)

pub returns-then-before-rows-gt64 : goal.returns-then-before-rows-gt64
returns-then-before-rows-gt64 c =
    let h = c.in_ok-letter.ensures in
    let k = c.in_ok-kind.ensures in
    let v = rw c.shape_of_gate.ensures at c.in_ok-fields.ensures in
    let row = c.args.row.now in
    let none = fields_found c.args.role c.args.own c.args.before row c.in_ok-kind.kind _ h.0 h.1 k.0 k.1 None v.0 in
    let are = gate_fields c.args.own c.in_ok-kind.kind (fields_of row) c.in_ok-fields.fields (omega arith) v.0 v.1 in
    let gate = gate_is c.args.role c.args.own c.args.before row c.in_ok-kind.kind _ h.0 h.1 k.0 k.1 c.gate_of-gate.result (c.gate_of-gate.ensures _ _ are) in
    let rows = c.rows.ensures ∙ ap own_rows gate in
    too_many c.args.role c.args.own c.args.before row none (omega arith) ∙ ap Some (sym c.at.ensures)

pub returns : goal.returns
returns c =
    let h = c.in_ok-letter.ensures in
    let k = c.in_ok-kind.ensures in
    let v = rw c.shape_of_gate.ensures at c.in_ok-fields.ensures in
    let row = c.args.row.now in
    let none = fields_found c.args.role c.args.own c.args.before row c.in_ok-kind.kind _ h.0 h.1 k.0 k.1 None v.0 in
    let are = gate_fields c.args.own c.in_ok-kind.kind (fields_of row) c.in_ok-fields.fields (omega arith) v.0 v.1 in
    let gate = gate_is c.args.role c.args.own c.args.before row c.in_ok-kind.kind _ h.0 h.1 k.0 k.1 c.gate_of-gate.result (c.gate_of-gate.ensures _ _ are) in
    let rows = c.rows.ensures ∙ ap own_rows gate in
    (few_enough c.args.role c.args.own c.args.before row none (omega arith), (gate, omega arith))
