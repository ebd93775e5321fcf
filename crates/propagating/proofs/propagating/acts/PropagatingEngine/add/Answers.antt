use Rattle.std.proofs.Common.{rules, sym, ◌∙◌}
use Rattle.engine.proofs.Refusals.{searching_in}
use Rattle.propagating.proofs.Formula.{sized}
use Rattle.propagating.proofs.propagating.acts.PropagatingEngine.add.Goals as goal

pub returns-in_err-may_add : goal.returns-in_err-may_add
returns-in_err-may_add c =
    let used = c.words.ensures ∙ sym (sized c.args.self.now.search) in
    let told = searching_in c.args.self.now.control.phase in
    search rules

pub returns : goal.returns
returns c =
    let used = c.words.ensures ∙ sym (sized c.args.self.now.search) in
    let told = searching_in c.args.self.now.control.phase in
    search rules
