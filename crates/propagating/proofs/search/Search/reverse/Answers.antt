use Rattle.std.proofs.Common.{◌≡◌, false, length, refl, ap, ◌∙◌, subst}
use Rattle.clause.specs.Logic.{outside, negation}
use Rattle.trail.specs.Cells.{values_of, entries_of}
use Rattle.trail.specs.Standing.{AllForced}
use Rattle.trail.specs.Trail.{literal_at}
use Rattle.trail.proofs.Soundness.{reversal, unsolvable}
use Rattle.propagating.specs.Parts.{clauses_in}
use Rattle.propagating.proofs.Lent.{as_many, put, undone, decision_read, decision_inside, reversed}
use Rattle.propagating.proofs.search.Search.reverse.Goals as goal

pub returns-in_default : goal.returns-in_default
returns-in_default c =
    let s = c.args.self.now in
    let none = c.in_default.ensures.back in
    record { keeps = record { words = refl; variables = refl; room = refl }; turns = unsolvable s.slots.len (clauses_in s) s.progress.trail (values_of s.slots.items) (entries_of s.slots.items) s.standing c.requires (subst (λ x. AllForced s.progress.trail (entries_of x)) c.deref_mut.ensures.value none.0) }

pub assign-requires-clause-inside : goal.assign-requires-clause-inside
assign-requires-clause-inside c =
    let s = c.args.self.now in
    let found = c.in-Some.ensures in
    let u = undone s.slots.len s.slots.items c.deref_mut.result.now c.undo.new.slots s.slots.len s.progress.trail c.in-Some.position c.deref_mut.ensures.value c.deref_mut.ensures.len (c.undo.auto.slots ∙ c.deref_mut.ensures.len) found.entries found.back in
    let l : c.index.result.now.entry.literal ≡ literal_at (entries_of s.slots.items) c.in-Some.position =
    ap (λ x. x.entry.literal) c.index.ensures ∙ decision_read s.slots.len s.progress.trail c.in-Some.position s.slots.items _ c.index.result.now (as_many s.slots.items c.undo.new.slots s.slots.len (c.undo.auto.slots ∙ c.deref_mut.ensures.len)) s.standing.short u in
    ap (λ x. outside (length c.deref_mut-2.result.now) x.variable) (c.negation.ensures ∙ ap negation l) ∙ ap (λ k. outside k (literal_at (entries_of s.slots.items) c.in-Some.position).variable) c.deref_mut-2.ensures.len
    ∙ decision_inside s.slots.len (clauses_in s) s.progress.trail c.in-Some.position s.slots.items _ s.standing u

pub invariant_of-self-2 : goal.invariant_of-self-2
invariant_of-self-2 c =
    let s = c.args.self.now in
    let found = c.in-Some.ensures in
    let u = undone s.slots.len s.slots.items c.deref_mut.result.now c.undo.new.slots s.slots.len s.progress.trail c.in-Some.position c.deref_mut.ensures.value c.deref_mut.ensures.len (c.undo.auto.slots ∙ c.deref_mut.ensures.len) found.entries found.back in
    let l : c.index.result.now.entry.literal ≡ literal_at (entries_of s.slots.items) c.in-Some.position =
    ap (λ x. x.entry.literal) c.index.ensures ∙ decision_read s.slots.len s.progress.trail c.in-Some.position s.slots.items _ c.index.result.now (as_many s.slots.items c.undo.new.slots s.slots.len (c.undo.auto.slots ∙ c.deref_mut.ensures.len)) s.standing.short u in
    let p = put _ c.deref_mut-2.result.now c.assign.new.slots s.slots.len c.in-Some.position (record { literal = c.negation.result; decided = false }) c.deref_mut-2.ensures.value (c.assign.auto.slots ∙ c.deref_mut-2.ensures.len) c.assign.ensures.values c.assign.ensures.entries in
    let r = reversal s.slots.len (clauses_in s) s.progress.trail (values_of s.slots.items) (entries_of s.slots.items) _ _ _ s.standing c.requires (reversed s.slots.len s.progress.trail c.in-Some.position s.slots.items _ _ c.negation.result (c.negation.ensures ∙ ap negation l) u p) in
    record { loaded = s.loaded; standing = r.0 }

pub returns : goal.returns
returns c =
    let s = c.args.self.now in
    let found = c.in-Some.ensures in
    let u = undone s.slots.len s.slots.items c.deref_mut.result.now c.undo.new.slots s.slots.len s.progress.trail c.in-Some.position c.deref_mut.ensures.value c.deref_mut.ensures.len (c.undo.auto.slots ∙ c.deref_mut.ensures.len) found.entries found.back in
    let l : c.index.result.now.entry.literal ≡ literal_at (entries_of s.slots.items) c.in-Some.position =
    ap (λ x. x.entry.literal) c.index.ensures ∙ decision_read s.slots.len s.progress.trail c.in-Some.position s.slots.items _ c.index.result.now (as_many s.slots.items c.undo.new.slots s.slots.len (c.undo.auto.slots ∙ c.deref_mut.ensures.len)) s.standing.short u in
    let p = put _ c.deref_mut-2.result.now c.assign.new.slots s.slots.len c.in-Some.position (record { literal = c.negation.result; decided = false }) c.deref_mut-2.ensures.value (c.assign.auto.slots ∙ c.deref_mut-2.ensures.len) c.assign.ensures.values c.assign.ensures.entries in
    let r = reversal s.slots.len (clauses_in s) s.progress.trail (values_of s.slots.items) (entries_of s.slots.items) _ _ _ s.standing c.requires (reversed s.slots.len s.progress.trail c.in-Some.position s.slots.items _ _ c.negation.result (c.negation.ensures ∙ ap negation l) u p) in
    record { keeps = record { words = refl; variables = refl; room = refl }; turns = r.1 }
