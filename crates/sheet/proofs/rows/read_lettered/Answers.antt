use Rattle.std.proofs.Common.{eqb, None, Some, sym, ap, ◌∙◌}
use Rattle.std.proofs.lemmas.Result.{err_from_is_err_and, MatchResult-weaker}
use Rattle.std.proofs.lemmas.Bool.{ne_eqb, eq-eqb}
use Rattle.sheet_format.specs.Decoding.{letter}
use Rattle.sheet.proofs.Fields.{no_feed, no_letter, by_fields}
use Rattle.sheet.proofs.rows.read_lettered.Goals as goal

pub returns-in_err-read_letter : goal.returns-in_err-read_letter
returns-in_err-read_letter c =
    let p = err_from_is_err_and c.from_residual.result c.from_residual.ensures.1 in
    let h = c.in_err-read_letter.ensures in
    rw (p.1, p.2) (no_feed _ c.args.shape.now c.args.row.now h.1 ∙ ap Some (sym h.0))

pub returns-then-branch-wanted : goal.returns-then-branch-wanted
returns-then-branch-wanted c =
    let h = c.in_ok-read_letter.ensures in
    no_letter (eqb (letter c.args.row.now) c.args.wanted) c.args.shape.now c.args.row.now h.0
    (ne_eqb _ _ (λ e. c.if-branch-wanted.true (h.1 ∙ e))) ∙ ap Some (sym c.at.ensures)

pub returns : goal.returns
returns c =
    let h = c.in_ok-read_letter.ensures in
    let row = c.args.row.now in
    let by = by_fields (eqb (letter row) c.args.wanted) c.args.shape.now row h.0 (eq-eqb _ _ (sym h.1 ∙ c.if-branch-wanted.false)) in
    MatchResult-weaker c.read_fields.result c.read_fields.ensures (λ v p. (by None p.0, p.1)) (λ f p. by (Some f) p)
