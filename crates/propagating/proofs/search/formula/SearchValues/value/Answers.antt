use Rattle.std.proofs.Common.{ap, get_or, ◌∙◌, arith}
use Rattle.trail.specs.Cells.{empty_slot}
use Rattle.trail.proofs.Looks.{value_told}
use Rattle.propagating.proofs.search.formula.SearchValues.value.Goals as goal

pub returns-in-Some : goal.returns-in-Some
returns-in-Some c =
    let found = c.in-Some.ensures.lookup in
    value_told c.args.self.now.slots.items c.args.variable c.saturating_sub.result c.in-Some.slot.now c.unwrap_or.result c.saturating_sub.ensures
    (found.4 (omega arith) empty_slot ∙ ap (λ xs. get_or xs c.saturating_sub.result empty_slot) c.deref.ensures.value) c.unwrap_or.ensures
