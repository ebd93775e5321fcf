use Rattle.std.proofs.Common.{sym, ap, ◌∙◌, subst}
use Rattle.trail.specs.Cells.{values_of, entries_of, formula}
use Rattle.clause.specs.Logic.{all_hold}
use Rattle.trail.specs.Values.{row_of}
use Rattle.trail.proofs.Verdicts.{Full, full_refuted}
use Rattle.propagating.specs.Parts.{clauses_in, values_in}
use Rattle.propagating.proofs.search.Search.pursue.Goals as goal

pub returns-else-all_hold-clause-conflict : goal.returns-else-all_hold-clause-conflict
returns-else-all_hold-clause-conflict c =
    let s = c.propagate.new.self in
    full_refuted s.slots.len (clauses_in s) s.progress.trail (values_in s) (entries_of s.slots.items) s.standing
    (subst (λ ss. Full (values_of ss)) c.deref.ensures.value c.in_default.ensures) (ap (λ ws. all_hold (row_of (values_in s)) (formula ws)) (sym c.deref-2.ensures.value) ∙ sym c.if-all_hold.ensures)
