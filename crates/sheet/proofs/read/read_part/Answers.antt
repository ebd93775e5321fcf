-- Each way out is the sheet's first fault at the look that the reader came to; the last gives the circuit.
use Rattle.std.proofs.Common.{◌≡◌, ◌+◌, ◌-◌, Ok, Some, sym, ap, ◌∙◌, rules, of_calls, arith}
use Rattle.std.specs.Result.{is_ok}
use Rattle.std.proofs.lemmas.Result.{err_from_is_err_and, MatchResult-at_ok, MatchResult-at_err}
use Rattle.refusal.specs.Faults.{moved_to_row}
use Rattle.sheet.proofs.Mapped.{was_err}
use Rattle.sheet.proofs.Sheets.{no_length, no_header, no_count, no_gates, no_outputs, all_read, lawful_is}
use Rattle.sheet.proofs.read.read_part.Goals as goal

pub returns-in_err-rows : goal.returns-in_err-rows
returns-in_err-rows c =
    let p = err_from_is_err_and c.from_residual.result c.from_residual.ensures.1 in
    let e = c.in_err-rows.ensures in
    rw (p.1, p.2) (no_length c.args.role c.args.bytes.now e.0 ∙ ap Some (sym e.1))

pub returns-in_err-header : goal.returns-in_err-header
returns-in_err-header c =
    let p = err_from_is_err_and c.from_residual-in_err-header.result c.from_residual-in_err-header.ensures.1 in
    let r = c.in_ok-rows.ensures in
    let q = was_err c.read_header.result (sym c.map_err.ensures.variant ∙ ap is_ok c.in_err-header.was) in
    let f = q.0 in
    let is = q.1 in
    let made : c.in_err-header.field-0.0 ≡ moved_to_row 1 f = search (rules, of_calls) in
    rw (p.1, p.2) (no_header c.args.role c.args.bytes.now c.in_ok-rows.rows.now r.0 r.1 f (MatchResult-at_err _ _ f is c.read_header.ensures) ∙ ap Some (sym made))

pub returns-in_err-map_err : goal.returns-in_err-map_err
returns-in_err-map_err c =
    let p = err_from_is_err_and c.from_residual-in_err-map_err.result c.from_residual-in_err-map_err.ensures.1 in
    let r = c.in_ok-rows.ensures in
    let is_h : c.read_header.result ≡ Ok c.in_ok-header.header = search (rules, of_calls) in
    let a = MatchResult-at_ok _ _ c.in_ok-header.header is_h c.read_header.ensures in
    let q = was_err c.check_count.result (sym c.map_err-2.ensures.variant ∙ ap is_ok c.in_err-map_err.was) in
    let f = q.0 in
    let is = q.1 in
    let e = MatchResult-at_err _ _ f is c.check_count.ensures in
    let made : c.in_err-map_err.field-0.0 ≡ moved_to_row 1 f = search (rules, of_calls) in
    rw (p.1, p.2)
    (no_count c.args.role c.args.bytes.now c.in_ok-rows.rows.now r.0 r.1 c.in_ok-header.header a.0 a.1 e.0 ∙ ap (λ f. Some (moved_to_row 1 f)) (sym e.1) ∙ ap Some (sym made))

pub returns-in_err-gates : goal.returns-in_err-gates
returns-in_err-gates c =
    let p = err_from_is_err_and c.from_residual-in_err-gates.result c.from_residual-in_err-gates.ensures.1 in
    let r = c.in_ok-rows.ensures in
    let h = c.in_ok-header.header in
    let is_h : c.read_header.result ≡ Ok h = search (rules, of_calls) in
    let a = MatchResult-at_ok _ _ h is_h c.read_header.ensures in
    let is_n : c.check_count.result ≡ Ok c.in_ok-map_err.field-0 = search (rules, of_calls) in
    let n = MatchResult-at_ok _ _ _ is_n c.check_count.ensures in
    rw (p.1, p.2) (no_gates c.args.role c.args.bytes.now c.in_ok-rows.rows.now r.0 r.1 h a.0 a.1 n (1 + h.gates - 1) (omega arith) _ c.in_err-gates.ensures)

pub returns-in_err-outputs : goal.returns-in_err-outputs
returns-in_err-outputs c =
    let p = err_from_is_err_and c.from_residual-in_err-outputs.result c.from_residual-in_err-outputs.ensures.1 in
    let r = c.in_ok-rows.ensures in
    let h = c.in_ok-header.header in
    let is_h : c.read_header.result ≡ Ok h = search (rules, of_calls) in
    let a = MatchResult-at_ok _ _ h is_h c.read_header.ensures in
    let is_n : c.check_count.result ≡ Ok c.in_ok-map_err.field-0 = search (rules, of_calls) in
    let n = MatchResult-at_ok _ _ _ is_n c.check_count.ensures in
    rw (p.1, p.2)
    (no_outputs c.args.role c.args.bytes.now c.in_ok-rows.rows.now r.0 r.1 h a.0 a.1 n (1 + h.gates - 1) (omega arith) c.in_ok-gates.ensures.0
    (1 + h.gates + h.outputs - (1 + h.gates)) (omega arith) _ c.in_err-outputs.ensures)

pub invariant_of-result : goal.invariant_of-result
invariant_of-result c =
    let r = c.in_ok-rows.ensures in
    let h = c.in_ok-header.header in
    let is_h : c.read_header.result ≡ Ok h = search (rules, of_calls) in
    let a = MatchResult-at_ok _ _ h is_h c.read_header.ensures in
    let is_n : c.check_count.result ≡ Ok c.in_ok-map_err.field-0 = search (rules, of_calls) in
    let n = MatchResult-at_ok _ _ _ is_n c.check_count.ensures in
    let all = all_read c.args.role c.args.bytes.now c.in_ok-rows.rows.now r.0 r.1 h a.0 a.1 n (1 + h.gates - 1) (omega arith) c.in_ok-gates.ensures.0
    (1 + h.gates + h.outputs - (1 + h.gates)) (omega arith) _ _ c.in_ok-gates.ensures.1 c.in_ok-outputs.ensures.1 c.in_ok-outputs.ensures.0 in
    let l = lawful_is c.args.role c.args.bytes.now _ all.0 all.1 in
    record { few = l.few; sized = l.sized; shown = l.shown; below = l.below; driven = l.driven; rows = l.rows }

pub returns : goal.returns
returns c =
    let r = c.in_ok-rows.ensures in
    let h = c.in_ok-header.header in
    let is_h : c.read_header.result ≡ Ok h = search (rules, of_calls) in
    let a = MatchResult-at_ok _ _ h is_h c.read_header.ensures in
    let is_n : c.check_count.result ≡ Ok c.in_ok-map_err.field-0 = search (rules, of_calls) in
    let n = MatchResult-at_ok _ _ _ is_n c.check_count.ensures in
    all_read c.args.role c.args.bytes.now c.in_ok-rows.rows.now r.0 r.1 h a.0 a.1 n (1 + h.gates - 1) (omega arith) c.in_ok-gates.ensures.0
    (1 + h.gates + h.outputs - (1 + h.gates)) (omega arith) _ _ c.in_ok-gates.ensures.1 c.in_ok-outputs.ensures.1 c.in_ok-outputs.ensures.0
