use Rattle.std.proofs.Common.{◌≡◌, ◌<◌, length, sym, ap, ◌∙◌, arith}
use mir.Val.{bool_byte}
use Rattle.std.proofs.lemmas.Result.{err_from_is_err_and}
use Rattle.sheet_format.specs.FirstFault.{field_fault}
use Rattle.sheet.specs.Parts.{field_option}
use Rattle.sheet.proofs.Loops.{turn, stopped, six_read, six_long, field_chunk}
use Rattle.sheet.proofs.rows.read_fields.Goals as goal

pub returns-in_err-field : goal.returns-in_err-field
returns-in_err-field c =
    let p = err_from_is_err_and c.from_residual.result c.from_residual.ensures.1 in
    let s = c.args.shape.now in
    let j = c.loop-j.j in
    let k = c.loop-j.filled in
    let long : length c.args.row.now ≡ 32 = omega arith in
    let six : j < 6 = omega (arith, six_long c.args.row.now _ long c.as_chunks.ensures.front, c.as_chunks.ensures.front_len) in
    let x = field_chunk c.args.row.now c.as_chunks.result.0.now long c.as_chunks.ensures.front j six in
    rw (p.1, p.2) (stopped s _ c.loop-j.fields k j _ c.loop-j.invariant six (ap (field_fault s j k) (sym x) ∙ c.in_err-field.ensures))

pub loop-j-preserved : goal.loop-j-preserved
loop-j-preserved c =
    let s = c.args.shape.now in
    let j = c.loop-j.j in
    let k = c.loop-j.filled in
    let long : length c.args.row.now ≡ 32 = omega arith in
    let six : j < 6 = omega (arith, six_long c.args.row.now _ long c.as_chunks.ensures.front, c.as_chunks.ensures.front_len) in
    let x = field_chunk c.args.row.now c.as_chunks.result.0.now long c.as_chunks.ensures.front j six in
    let e = c.in_ok-field.ensures in
    turn s _ c.loop-j.fields k j _ c.in_ok-field.field c.loop-j.invariant six (ap (field_fault s j k) (sym x) ∙ e.0)
    (e.1 ∙ ap field_option x) (c.from-filled.ensures ∙ ap bool_byte c.is_some.ensures)

pub returns : goal.returns
returns c =
    let long : length c.args.row.now ≡ 32 = omega arith in
    let six : c.loop-j.j ≡ 6 = omega (arith, six_long c.args.row.now _ long c.as_chunks.ensures.front, c.as_chunks.ensures.front_len) in
    six_read c.args.shape.now _ c.loop-j.fields c.loop-j.filled c.loop-j.j c.loop-j.invariant six
