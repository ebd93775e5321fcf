use Rattle.std.proofs.Common.{refl, ◌∙◌, arith}
use Rattle.trail.proofs.Memory.{opened_more, opened_all}
use Rattle.trail.proofs.Slots.{field_kept}
use Rattle.propagating.proofs.memory.open_all.Goals as goal

pub loop-slot-preserved : goal.loop-slot-preserved
loop-slot-preserved c = (
  opened_more c.loop-slot.slots c.loop-slot.slot-index _ (omega (arith, c.loop-slot.auto.slots)) refl c.loop-slot.invariant.0,
  field_kept (λ s. s.entry) c.loop-slot.slots c.loop-slot.slot-index _ _ (omega (arith, c.loop-slot.auto.slots)) refl ∙ c.loop-slot.invariant.1,
)

pub returns-clause-values : goal.returns-clause-values
returns-clause-values c = opened_all c.loop-slot.slots _ c.loop-slot.slot-index c.loop-slot.auto.slots c.loop-slot-test.false c.loop-slot.invariant.0
