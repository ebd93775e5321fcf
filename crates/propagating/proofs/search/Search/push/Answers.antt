use Rattle.std.proofs.Common.{refl, ap, ◌∙◌, arith}
use Rattle.clause.specs.Logic.{outside}
use Rattle.trail.specs.Cells.{entries_of}
use Rattle.trail.proofs.Soundness.{not_full}
use Rattle.propagating.specs.Parts.{clauses_in, values_in}
use Rattle.propagating.proofs.Lent.{put}
use Rattle.propagating.proofs.Considering.{further_in}
use Rattle.propagating.proofs.search.Search.push.Goals as goal

pub assign-requires-clause-place : goal.assign-requires-clause-place
assign-requires-clause-place c =
    let s = c.args.self.now in
    omega (arith, not_full s.slots.len (clauses_in s) s.progress.trail (values_in s) (entries_of s.slots.items) c.args.entry.literal.variable s.standing c.requires.inside c.requires.opened, c.deref_mut.ensures.len)

pub assign-requires-clause-inside : goal.assign-requires-clause-inside
assign-requires-clause-inside c = ap (λ k. outside k c.args.entry.literal.variable) c.deref_mut.ensures.len ∙ c.requires.inside

pub invariant_of-self : goal.invariant_of-self
invariant_of-self c =
    let s = c.args.self.now in
    let p = put s.slots.items c.deref_mut.result.now c.assign.new.slots s.slots.len s.progress.trail c.args.entry c.deref_mut.ensures.value (c.assign.auto.slots ∙ c.deref_mut.ensures.len) c.assign.ensures.values c.assign.ensures.entries in
    record { loaded = s.loaded; standing = (further_in s c.args.entry _ c.requires p).standing }

pub returns-clause-pushes : goal.returns-clause-pushes
returns-clause-pushes c =
    let s = c.args.self.now in
    let p = put s.slots.items c.deref_mut.result.now c.assign.new.slots s.slots.len s.progress.trail c.args.entry c.deref_mut.ensures.value (c.assign.auto.slots ∙ c.deref_mut.ensures.len) c.assign.ensures.values c.assign.ensures.entries in
    record { trail = refl; values = p.values; entries = p.entries }

pub returns-clause-debt : goal.returns-clause-debt
returns-clause-debt c =
    let s = c.args.self.now in
    let p = put s.slots.items c.deref_mut.result.now c.assign.new.slots s.slots.len s.progress.trail c.args.entry c.deref_mut.ensures.value (c.assign.auto.slots ∙ c.deref_mut.ensures.len) c.assign.ensures.values c.assign.ensures.entries in
    (further_in s c.args.entry _ c.requires p).owes
