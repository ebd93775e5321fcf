-- From the end of the trail to its beginning, until a decision.
use Rattle.std.proofs.Common.{length, refl, sym, ap, ◌∙◌, arith, rules}
use lib.ListN.{length-map}
use Rattle.std.proofs.lemmas.List.{map-set}
use Rattle.trail.specs.Cells.{entries_of}
use Rattle.trail.proofs.Memory.{taken_off, forced_more}
use Rattle.trail.proofs.Slots.{field_kept}
use Rattle.propagating.proofs.memory.undo.Goals as goal

pub overflow_sub-entry : goal.overflow_sub-entry
overflow_sub-entry c =
    let es = entries_of c.args.slots.now in
    let inv = c.loop-i.invariant in
    let t = taken_off (length c.args.slots.now) c.args.trail c.loop-i.i c.loop-i.slots es c.loop-i.auto.slots (length-map c.args.slots.now (λ s. s.entry)) c.requires.short c.loop-i.auto.i c.loop-i-test.true c.requires.fresh inv.0 inv.1 in
    let low = t.low in
    search rules

pub bounds-slots-entry : goal.bounds-slots-entry
bounds-slots-entry c =
    let es = entries_of c.args.slots.now in
    let inv = c.loop-i.invariant in
    let t = taken_off (length c.args.slots.now) c.args.trail c.loop-i.i c.loop-i.slots es c.loop-i.auto.slots (length-map c.args.slots.now (λ s. s.entry)) c.requires.short c.loop-i.auto.i c.loop-i-test.true c.requires.fresh inv.0 inv.1 in
    omega (arith, t.low, t.high, c.loop-i.auto.slots)

pub offset_bounds-slots-entry : goal.offset_bounds-slots-entry
offset_bounds-slots-entry c =
    let es = entries_of c.args.slots.now in
    let inv = c.loop-i.invariant in
    let t = taken_off (length c.args.slots.now) c.args.trail c.loop-i.i c.loop-i.slots es c.loop-i.auto.slots (length-map c.args.slots.now (λ s. s.entry)) c.requires.short c.loop-i.auto.i c.loop-i-test.true c.requires.fresh inv.0 inv.1 in
    let low = t.low in
    let high = t.high in
    search rules

pub returns-then-entry : goal.returns-then-entry
returns-then-entry c =
    let es = entries_of c.args.slots.now in
    let inv = c.loop-i.invariant in
    let t = taken_off (length c.args.slots.now) c.args.trail c.loop-i.i c.loop-i.slots es c.loop-i.auto.slots (length-map c.args.slots.now (λ s. s.entry)) c.requires.short c.loop-i.auto.i c.loop-i-test.true c.requires.fresh inv.0 inv.1 in
    record {
      entries = field_kept (λ s. s.entry) c.loop-i.slots _ _ _ (omega (arith, t.low, t.high, c.loop-i.auto.slots)) refl ∙ inv.0;
      back = record {
        below = omega (arith, c.loop-i.auto.i, c.loop-i-test.true);
        decided = sym (ap (λ e. e.decided) t.is) ∙ c.if-entry.true;
        forced = λ j lo hi. inv.2 j (omega arith) hi;
        written = map-set (λ s. s.value) c.loop-i.slots _ _ ∙ t.next;
      };
    }

pub loop-i-preserved : goal.loop-i-preserved
loop-i-preserved c =
    let es = entries_of c.args.slots.now in
    let inv = c.loop-i.invariant in
    let t = taken_off (length c.args.slots.now) c.args.trail c.loop-i.i c.loop-i.slots es c.loop-i.auto.slots (length-map c.args.slots.now (λ s. s.entry)) c.requires.short c.loop-i.auto.i c.loop-i-test.true c.requires.fresh inv.0 inv.1 in
    (field_kept (λ s. s.entry) c.loop-i.slots _ _ _ (omega (arith, t.low, t.high, c.loop-i.auto.slots)) refl ∙ inv.0, map-set (λ s. s.value) c.loop-i.slots _ _ ∙ t.next, forced_more es c.args.trail c.loop-i.i c.loop-i-test.true (sym (ap (λ e. e.decided) t.is) ∙ c.if-entry.false) inv.2)
