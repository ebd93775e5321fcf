use Rattle.std.proofs.Common.{◌∙◌, rules}
use Rattle.propagating.proofs.Formula.{longer}
use Rattle.propagating.proofs.search.Search.store.Goals as goal

pub invariant_of-self : goal.invariant_of-self
invariant_of-self c =
    let s = c.args.self.now in
    (longer s c.args.clause.now c.deref_mut.result.now c.store.new.slots c.store.new.words.items c.deref_mut.ensures.value (c.store.auto.slots ∙ c.deref_mut.ensures.len) c.store.ensures.values c.store.ensures.entries c.requires.inside c.store.ensures.literals c.store.ensures.heads).kept

pub returns-clause-clauses : goal.returns-clause-clauses
returns-clause-clauses c =
    let s = c.args.self.now in
    (longer s c.args.clause.now c.deref_mut.result.now c.store.new.slots c.store.new.words.items c.deref_mut.ensures.value (c.store.auto.slots ∙ c.deref_mut.ensures.len) c.store.ensures.values c.store.ensures.entries c.requires.inside c.store.ensures.literals c.store.ensures.heads).clauses

pub returns-clause-extended : goal.returns-clause-extended
returns-clause-extended c =
    let s = c.args.self.now in
    record {
      trail = (longer s c.args.clause.now c.deref_mut.result.now c.store.new.slots c.store.new.words.items c.deref_mut.ensures.value (c.store.auto.slots ∙ c.deref_mut.ensures.len) c.store.ensures.values c.store.ensures.entries c.requires.inside c.store.ensures.literals c.store.ensures.heads).trail;
      slot_room = search rules;
      word_room = search rules;
    }
