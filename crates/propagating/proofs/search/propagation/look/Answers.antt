use Rattle.std.proofs.Common.{◌+◌, true, false, length, drop, Some, None, sym, ap, ◌∙◌}
use Rattle.clause.proofs.Inside.{not_outside}
use Rattle.trail.specs.Cells.{values_of, literals_of}
use Rattle.trail.specs.Values.{status_from}
use Rattle.trail.proofs.Looks.{word_at, status_at, two_open, one_open}
use Rattle.propagating.proofs.search.propagation.look.Goals as goal
use Rattle.propagating.proofs.search.propagation.look.Goals.{in-Some-false, in-None+else-is_some}

pub truth-requires : goal.truth-requires
truth-requires c =
    let w = word_at (length c.args.slots.now) c.args.clause.now c.loop-word.word-index c.loop-word-test.true c.loop-word.invariant.1 in
    not_outside (length c.args.slots.now) _ w.low w.high

pub returns-in-Some-true : goal.returns-in-Some-true
returns-in-Some-true c =
    sym (status_at (values_of c.args.slots.now) c.loop-word.pending c.args.clause.now c.loop-word.word-index (Some true) c.loop-word-test.true (ap (λ b. Some b) (sym c.in-Some-true.field-0-test) ∙ c.in-Some-true.ensures))
    ∙ c.loop-word.invariant.0

pub returns-then-is_some : goal.returns-then-is_some
returns-then-is_some c =
    sym (status_at (values_of c.args.slots.now) c.loop-word.pending c.args.clause.now c.loop-word.word-index None c.loop-word-test.true c.in-None.ensures ∙ two_open c.loop-word.pending _ c.if-is_some.ensures)
    ∙ c.loop-word.invariant.0

pub loop-word-preserved : goal.loop-word-preserved
loop-word-preserved c =
    let vs = values_of c.args.slots.now in
    let clause = c.args.clause.now in
    let i = c.loop-word.word-index in
    let rest = drop (i + 1) (literals_of clause) in
    let w = word_at (length c.args.slots.now) clause i c.loop-word-test.true c.loop-word.invariant.1 in (
      elim c.match-truth.branch [
        | in-Some-false w ↦ ap (λ p. status_from vs p rest) w.pending-is ∙ sym (status_at vs c.loop-word.pending clause i (Some false) c.loop-word-test.true (ap (λ b. Some b) (sym w.in-Some-false.field-0-test) ∙ w.in-Some-false.ensures)) ∙ c.loop-word.invariant.0
        | in-None+else-is_some w ↦ ap (λ p. status_from vs p rest) w.pending-is
            ∙ sym (status_at vs c.loop-word.pending clause i None c.loop-word-test.true w.in-None.ensures ∙ one_open c.loop-word.pending _ w.if-is_some.ensures) ∙ c.loop-word.invariant.0
      ],
      w.rest,
    )
