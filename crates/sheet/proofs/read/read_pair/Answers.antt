-- A fault of either sheet is the pair's first fault; without one, the specification is what stands right after the target.
use Rattle.std.proofs.Common.{◌≡◌, ◌≤◌, length, Ok, Some, sym, refl, ap, ◌∙◌, rules, of_calls}
use Rattle.std.specs.Result.{is_ok}
use Rattle.std.proofs.lemmas.Result.{err_from_is_err_and, MatchResult-at_ok, MatchResult-at_err}
use Rattle.refusal.specs.Faults.{moved_to_sheet}
use Rattle.refusal.specs.declared.role.Role.TheVariants.{Specification}
use Rattle.sheet_format.specs.Decoding.{sheet_in}
use Rattle.sheet_format.specs.FirstFault.{sheet_fault}
use Rattle.sheet.proofs.Mapped.{was_err}
use Rattle.sheet.proofs.Sheets.{target_within, after_is, in_target, in_specification, in_neither, pair_is, pair_refused}
use Rattle.sheet.proofs.read.read_pair.Goals as goal

pub returns-in_err-target : goal.returns-in_err-target
returns-in_err-target c =
    let p = err_from_is_err_and c.from_residual.result c.from_residual.ensures.1 in
    let t = c.args.bytes.now in
    let q = was_err c.read_part.result (sym c.map_err.ensures.variant ∙ ap is_ok c.in_err-target.was) in
    let f = q.0 in
    let is = q.1 in
    let made : c.in_err-target.field-0.0 ≡ moved_to_sheet 1 f = search (rules, of_calls) in
    let e = in_target t f (MatchResult-at_err _ _ f is c.read_part.ensures) ∙ ap Some (sym made) in
    rw (p.1, p.2) (e, pair_refused t _ e)

pub slice_bounds-read_part-count : goal.slice_bounds-read_part-count
slice_bounds-read_part-count c =
    let is : c.read_part.result ≡ Ok c.in_ok-target.target = search (rules, of_calls) in
    let a = MatchResult-at_ok _ _ _ is c.read_part.ensures in
    rw c.sheet_length-start.ensures.value (target_within c.args.bytes.now c.in_ok-target.target a.0 a.1)

pub slice_bounds-read_part-start : goal.slice_bounds-read_part-start
slice_bounds-read_part-start c =
    let is : c.read_part.result ≡ Ok c.in_ok-target.target = search (rules, of_calls) in
    let a = MatchResult-at_ok _ _ _ is c.read_part.ensures in
    let h : c.sheet_length-start.result ≤ length c.args.bytes.now =
    rw c.sheet_length-start.ensures.value (target_within c.args.bytes.now c.in_ok-target.target a.0 a.1) in
    h

pub returns-in_err-specification : goal.returns-in_err-specification
returns-in_err-specification c =
    let p = err_from_is_err_and c.from_residual-in_err-specification.result c.from_residual-in_err-specification.ensures.1 in
    let t = c.args.bytes.now in
    let is : c.read_part.result ≡ Ok c.in_ok-target.target = search (rules, of_calls) in
    let a = MatchResult-at_ok _ _ _ is c.read_part.ensures in
    let w = after_is t c.in_ok-target.target a.0 a.1 _ c.sheet_length-start.result c.sheet_length-start.ensures.value refl in
    let q = was_err c.read_part-2.result (sym c.map_err-2.ensures.variant ∙ ap is_ok c.in_err-specification.was) in
    let f = q.0 in
    let is_f = q.1 in
    let made : c.in_err-specification.field-0.0 ≡ moved_to_sheet 2 f = search (rules, of_calls) in
    let e = in_specification t c.in_ok-target.target a.0 a.1 f (ap (sheet_fault Specification) (sym w) ∙ MatchResult-at_err _ _ f is_f c.read_part-2.ensures)
    ∙ ap Some (sym made) in
    rw (p.1, p.2) (e, pair_refused t _ e)

pub invariant_of-result : goal.invariant_of-result
invariant_of-result c =
    let t = c.args.bytes.now in
    let is : c.read_part.result ≡ Ok c.in_ok-target.target = search (rules, of_calls) in
    let a = MatchResult-at_ok _ _ _ is c.read_part.ensures in
    let is_2 : c.read_part-2.result ≡ Ok c.in_ok-specification.specification = search (rules, of_calls) in
    let b = MatchResult-at_ok _ _ _ is_2 c.read_part-2.ensures in
    let w = after_is t c.in_ok-target.target a.0 a.1 _ c.sheet_length-start.result c.sheet_length-start.ensures.value refl in
    record { plain = (pair_is t c.in_ok-target.target a.0 a.1 c.in_ok-specification.specification (ap (sheet_fault Specification) (sym w) ∙ b.0) (b.1 ∙ ap sheet_in w)).specification_plain }

pub returns : goal.returns
returns c =
    let t = c.args.bytes.now in
    let is : c.read_part.result ≡ Ok c.in_ok-target.target = search (rules, of_calls) in
    let a = MatchResult-at_ok _ _ _ is c.read_part.ensures in
    let is_2 : c.read_part-2.result ≡ Ok c.in_ok-specification.specification = search (rules, of_calls) in
    let b = MatchResult-at_ok _ _ _ is_2 c.read_part-2.ensures in
    let w = after_is t c.in_ok-target.target a.0 a.1 _ c.sheet_length-start.result c.sheet_length-start.ensures.value refl in (
      in_neither t c.in_ok-target.target a.0 a.1 c.in_ok-specification.specification (ap (sheet_fault Specification) (sym w) ∙ b.0) (b.1 ∙ ap sheet_in w),
      pair_is t c.in_ok-target.target a.0 a.1 c.in_ok-specification.specification (ap (sheet_fault Specification) (sym w) ∙ b.0) (b.1 ∙ ap sheet_in w),
    )
