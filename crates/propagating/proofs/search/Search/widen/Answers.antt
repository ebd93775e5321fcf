use Rattle.std.proofs.Common.{◌+◌, cond, ap, ◌∙◌, arith, rules}
use Rattle.propagating.proofs.Formula.{wider, resized}
use Rattle.propagating.proofs.search.Search.widen.Goals as goal

pub invariant_of-self : goal.invariant_of-self
invariant_of-self c =
    let s = c.args.self.now in
    let all = c.len.result + c.args.variables in
    let ok = c.resize.ensures.succeeds (omega (arith, c.requires, c.len.ensures)) in
    (wider s c.args.variables c.resize.new.self.items c.resize.new.self.len (c.resize.ensures.len ∙ ap (λ b. cond b all s.slots.len) ok ∙ omega (arith, c.len.ensures))
    (resized s.slots.items c.resize.new.self.items s.slots.len c.args.variables all c.empty.result _ ok c.empty.ensures c.resize.ensures.items (omega (arith, c.len.ensures)) s.slots.ok.0)).0

pub returns-clause-extended : goal.returns-clause-extended
returns-clause-extended c =
    let s = c.args.self.now in
    let all = c.len.result + c.args.variables in
    let ok = c.resize.ensures.succeeds (omega (arith, c.requires, c.len.ensures)) in
    record {
      trail = (wider s c.args.variables c.resize.new.self.items c.resize.new.self.len (c.resize.ensures.len ∙ ap (λ b. cond b all s.slots.len) ok ∙ omega (arith, c.len.ensures))
          (resized s.slots.items c.resize.new.self.items s.slots.len c.args.variables all c.empty.result _ ok c.empty.ensures c.resize.ensures.items (omega (arith, c.len.ensures)) s.slots.ok.0)).1;
      slot_room = search rules;
      word_room = search rules;
    }
