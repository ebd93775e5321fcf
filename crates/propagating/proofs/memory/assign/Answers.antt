use Rattle.std.proofs.Common.{length, set, refl, ap, ◌∙◌, arith, length-set}
use Rattle.std.proofs.lemmas.List.{map-set}
use Rattle.clause.proofs.Inside.{within}
use Rattle.trail.proofs.Slots.{field_kept}
use Rattle.propagating.proofs.memory.assign.Goals as goal

pub returns-clause-values : goal.returns-clause-values
returns-clause-values c =
    field_kept (λ s. s.value) (set c.args.slots.now _ _) c.args.position _ _ (simp length-set (omega (arith, c.requires.place))) refl
    ∙ map-set (λ s. s.value) c.args.slots.now _ _

pub returns-clause-entries : goal.returns-clause-entries
returns-clause-entries c =
    let w = within (length c.args.slots.now) c.args.entry.literal.variable c.requires.inside in
    map-set (λ s. s.entry) (set c.args.slots.now _ _) c.args.position _
    ∙ ap (λ es. set es c.args.position c.args.entry) (field_kept (λ s. s.entry) c.args.slots.now _ _ _ (omega (arith, w.low, w.high)) refl)
