use Rattle.std.proofs.Common.{◌+◌, ◌-◌, ◌++◌, length, get_or, drop, replicate, refl, ap, ◌∙◌, arith, length-set}
use Rattle.clause.specs.Logic.{some_outside}
use Rattle.clause.proofs.Inside.{inside_at}
use Rattle.trail.specs.Cells.{empty_literal, empty_slot, heads_of}
use Rattle.trail.proofs.Slots.{field_kept, link_value, link_entry}
use Rattle.trail.proofs.Stores.{store_literal, store_head, store_literals, store_heads}
use Rattle.propagating.proofs.memory.store.Goals as goal

pub loop-literal-preserved : goal.loop-literal-preserved
loop-literal-preserved c =
    let inv = c.loop-literal.invariant in
    let i = c.loop-literal.literal-index in
    let a = inside_at (length c.loop-literal.slots) c.args.clause.now i c.loop-literal-test.true inv.2 in
    let pushed = c.push_reserved-in-loop-literal.ensures in
    let l = get_or c.args.clause.now i empty_literal in
    let place = l.variable - 1 in
    let slot = get_or c.loop-literal.slots place empty_slot in (
      store_literal _ c.loop-literal.words.items _ c.args.clause.now i _ pushed.items refl c.loop-literal-test.true inv.0,
      store_head _ c.loop-literal.words.items _ c.len-head.result i _ pushed.items refl inv.1,
      ap (λ n. some_outside n (drop (i + 1) c.args.clause.now)) (length-set c.loop-literal.slots place _) ∙ a.rest,
      omega (arith, pushed.len, inv.3),
      pushed.capacity ∙ inv.4,
      field_kept (λ s. s.value) c.loop-literal.slots place _ _ (omega (arith, a.here.low, a.here.high)) (link_value slot c.link-older.new.self l.negated c.len.result c.link-older.ensures.linked) ∙ inv.5,
      field_kept (λ s. s.entry) c.loop-literal.slots place _ _ (omega (arith, a.here.low, a.here.high)) (link_entry slot c.link-older.new.self l.negated c.len.result c.link-older.ensures.linked) ∙ inv.6,
    )

pub returns : goal.returns
returns c =
    let inv = c.loop-literal.invariant in
    let first = c.push_reserved.ensures in
    record {
      literals = store_literals _ _ _ _ c.args.clause.now c.loop-literal.literal-index first.items c.head.ensures c.loop-literal-test.false inv.0;
      heads = store_heads _ _ _ _ c.len-head.result c.loop-literal.literal-index (length c.args.clause.now) first.items refl (omega arith) inv.1 ∙ ap (λ u. heads_of c.args.words.now.items ++ replicate (1 + length c.args.clause.now) u) c.len-head.ensures;
      room = inv.4 ∙ first.capacity;
      values = inv.5;
      entries = inv.6;
    }
