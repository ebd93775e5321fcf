use Rattle.std.proofs.Common.{◌≤◌, ◌+◌, ◌-◌, ◌*◌, [], ◌∷◌, length, drop, refl, ap, ◌∙◌, arith}
use borrow.Rule.Slice.PartMut.{put_mid}
use Rattle.std.proofs.lemmas.List.{length-take, length-drop}
use Rattle.circuit.specs.View.{drawn}
use Rattle.layout.specs.Text.{row_text}
use Rattle.sheet_format.specs.Rows.{gate_text, output_text}
use Rattle.sheet.proofs.Laid.{front_fit, part_long, parts_laid}
use Rattle.sheet.proofs.write.CircuitInRows.put.Goals as goal

pub put_row-requires : goal.put_row-requires
put_row-requires c =
    let fit = front_fit (drawn c.args.self.now) _ _ _ c.requires c.as_slice-gates.ensures.value c.as_slice-outputs.ensures.value in omega arith

pub put_rows-requires-clause-room : goal.put_rows-requires-clause-room
put_rows-requires-clause-room c =
    let b = c.put_row.new.into in
    let fit = front_fit (drawn c.args.self.now) _ _ _ c.requires c.as_slice-gates.ensures.value c.as_slice-outputs.ensures.value in
    let part = length-take (length b - 32) (drop 32 b) in
    let rest = length-drop 32 b in
    omega (arith, c.put_row.auto.into)

pub slice_bounds-put_rows-count-2 : goal.slice_bounds-put_rows-count-2
slice_bounds-put_rows-count-2 c =
    let b = c.put_row.new.into in
    let fit = front_fit (drawn c.args.self.now) _ _ _ c.requires c.as_slice-gates.ensures.value c.as_slice-outputs.ensures.value in
    let long = part_long b c.put_rows.new.into 32 (length b - 32) (omega (arith, c.put_row.auto.into)) refl c.put_rows.auto.into in
    omega (arith, c.put_row.auto.into)

pub slice_bounds-put_rows-start-2 : goal.slice_bounds-put_rows-start-2
slice_bounds-put_rows-start-2 c =
    let b = c.put_row.new.into in
    let fit = front_fit (drawn c.args.self.now) _ _ _ c.requires c.as_slice-gates.ensures.value c.as_slice-outputs.ensures.value in
    let long = part_long b c.put_rows.new.into 32 (length b - 32) (omega (arith, c.put_row.auto.into)) refl c.put_rows.auto.into in
    let h : 32 + 32 * length c.as_slice-gates.result.now ≤ length (put_mid 32 (length b - 32) b c.put_rows.new.into) = omega (arith, c.put_row.auto.into) in
    h

pub put_rows-requires-2-clause-room : goal.put_rows-requires-2-clause-room
put_rows-requires-2-clause-room c =
    let b = c.put_row.new.into in
    let d = put_mid 32 (length b - 32) b c.put_rows.new.into in
    let n = 32 + 32 * length c.as_slice-gates.result.now in
    let fit = front_fit (drawn c.args.self.now) _ _ _ c.requires c.as_slice-gates.ensures.value c.as_slice-outputs.ensures.value in
    let long = part_long b c.put_rows.new.into 32 (length b - 32) (omega (arith, c.put_row.auto.into)) refl c.put_rows.auto.into in
    let part = length-take (length d - n) (drop n d) in
    let rest = length-drop n d in
    omega (arith, c.put_row.auto.into)

pub returns : goal.returns
returns c =
    let t = c.args.self.now in
    let b = c.put_row.new.into in
    let inputs = c.from-inputs.ensures in
    let fit = front_fit (drawn t) _ _ _ c.requires c.as_slice-gates.ensures.value c.as_slice-outputs.ensures.value in
    let header = c.row_text.ensures ∙ ap (λ n. row_text 72 (n ∷ length c.as_slice-gates.result.now ∷ length c.as_slice-outputs.result.now ∷ [])) inputs in
    let gates = c.put_rows.ensures (λ i g. gate_text (t.inputs + 1 + i) g) (λ i x r l p. p ∙ ap (λ n. gate_text (n + 1 + i) x.now) inputs) in
    let outputs = c.put_rows-2.ensures (λ i q. output_text q) (λ i x r l p. p) in
    let long = part_long b c.put_rows.new.into 32 (length b - 32) (omega (arith, c.put_row.auto.into)) refl c.put_rows.auto.into in
    parts_laid c.args.into.now c.row_text.result b c.put_rows.new.into c.put_rows-2.new.into (drawn t) _ _ (length b - 32) _ c.requires
    c.as_slice-gates.ensures.value c.as_slice-outputs.ensures.value header c.put_row.ensures c.put_row.auto.into refl gates long refl outputs
