use Rattle.std.proofs.Common.{Some, sym, ap, ◌∙◌, arith}
use Rattle.sheet.proofs.Told.{header_small, headed}
use Rattle.sheet.proofs.parts.read_header.Goals as goal

pub number_in-requires : goal.number_in-requires
number_in-requires c =
    let h = rw c.shape_of_header.ensures at c.in_ok-fields.ensures in
    header_small c.args.row.now c.in_ok-fields.fields (omega arith) h.0 h.1 0 (omega arith)

pub number_in-requires-2 : goal.number_in-requires-2
number_in-requires-2 c =
    let h = rw c.shape_of_header.ensures at c.in_ok-fields.ensures in
    header_small c.args.row.now c.in_ok-fields.fields (omega arith) h.0 h.1 1 (omega arith)

pub number_in-requires-3 : goal.number_in-requires-3
number_in-requires-3 c =
    let h = rw c.shape_of_header.ensures at c.in_ok-fields.ensures in
    header_small c.args.row.now c.in_ok-fields.fields (omega arith) h.0 h.1 2 (omega arith)

pub returns : goal.returns
returns c =
    let h = rw c.shape_of_header.ensures at c.in_ok-fields.ensures in
    let b = c.number_in-2.ensures ∙ ap Some (sym c.from.ensures) in
    let d = c.number_in-3.ensures ∙ ap Some (sym c.from-2.ensures) in
    (h.0, headed c.args.row.now c.in_ok-fields.fields (omega arith) h.0 h.1 _ _ _ c.number_in.ensures b d)
