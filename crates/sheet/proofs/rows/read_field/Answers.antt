-- Each way out is a case of the field's first fault, by what the columns hold.
use Rattle.std.proofs.Common.{◌≡◌, ◌+◌, ◌*◌, Some, Ok, sym, ap, ◌∙◌, ⊎_elim, rules, of_calls}
use Rattle.std.specs.Result.{is_ok}
use Rattle.std.proofs.lemmas.Result.{err_from_is_err_and}
use Rattle.refusal.specs.Faults.{fault_at}
use Rattle.sheet.proofs.Mapped.{was_err}
use Rattle.sheet.proofs.Fields.{malformed, blank_wrongly, blank_rightly, past_allowed, after_gap, out_of_bounds, filled_rightly}
use Rattle.sheet.proofs.rows.read_field.Goals as goal

pub returns-in_err-value : goal.returns-in_err-value
returns-in_err-value c =
    let p = err_from_is_err_and c.from_residual.result c.from_residual.ensures.1 in
    let q = was_err c.read_columns.result (sym c.map_err.ensures.variant ∙ ap is_ok c.in_err-value.was) in
    let e = q.0 in
    let is = q.1 in
    let made : c.in_err-value.field-0.0 ≡ fault_at e (2 + 5 * c.args.j) = search (rules, of_calls) in
    rw (p.1, p.2) (malformed c.args.shape.now c.args.j c.args.before c.args.text e (sym c.read_columns.ensures ∙ is) ∙ ap Some (sym made))

pub returns-then-j-shape : goal.returns-then-j-shape
returns-then-j-shape c =
    let e : c.read_columns.result ≡ Ok c.in_ok-value.value = search (rules, of_calls) in
    blank_wrongly c.args.shape.now c.args.j c.args.before c.args.text (sym c.read_columns.ensures ∙ e ∙ ap Ok c.in-None.is) c.if-j-shape.true
    ∙ ap Some (sym c.at.ensures)

pub returns-else-j-shape : goal.returns-else-j-shape
returns-else-j-shape c =
    let e : c.read_columns.result ≡ Ok c.in_ok-value.value = search (rules, of_calls) in
    let h = blank_rightly c.args.shape.now c.args.j c.args.before c.args.text (sym c.read_columns.ensures ∙ e ∙ ap Ok c.in-None.is) c.if-j-shape.false in
    (h.0, c.in-None.is ∙ h.1)

pub returns-then-j-shape-2 : goal.returns-then-j-shape-2
returns-then-j-shape-2 c =
    let e : c.read_columns.result ≡ Ok c.in_ok-value.value = search (rules, of_calls) in
    let v = sym c.read_columns.ensures ∙ e ∙ ap Ok c.in-Some.is in
    ⊎_elim (λ a. past_allowed c.args.shape.now c.args.j c.args.before c.args.text c.in-Some.number v a)
    (λ b. after_gap c.args.shape.now c.args.j c.args.before c.args.text c.in-Some.number v b.1) c.then-j-shape-2.either
    ∙ ap Some (sym c.at-then-j-shape-2.ensures)

pub returns-then-not-contains : goal.returns-then-not-contains
returns-then-not-contains c =
    let e : c.read_columns.result ≡ Ok c.in_ok-value.value = search (rules, of_calls) in
    let v = sym c.read_columns.ensures ∙ e ∙ ap Ok c.in-Some.is in
    out_of_bounds c.args.shape.now c.args.j c.args.before c.args.text c.in-Some.number v c.if-j-shape-2.false c.if-before-j.false
    (sym c.contains.ensures ∙ c.if-not-contains.true) ∙ ap Some (sym c.at-then-not-contains.ensures)

pub returns-else-not-contains : goal.returns-else-not-contains
returns-else-not-contains c =
    let e : c.read_columns.result ≡ Ok c.in_ok-value.value = search (rules, of_calls) in
    let v = sym c.read_columns.ensures ∙ e ∙ ap Ok c.in-Some.is in
    filled_rightly c.args.shape.now c.args.j c.args.before c.args.text c.in-Some.number v c.if-j-shape-2.false c.if-before-j.false
    (sym c.contains.ensures ∙ c.if-not-contains.false)
