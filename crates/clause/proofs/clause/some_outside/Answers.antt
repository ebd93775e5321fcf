use Rattle.std.proofs.Common.{◌∙◌, rules, tests}
use Rattle.std.proofs.lemmas.Iterator.{YieldsList-from_slice}
use Rattle.std.proofs.lemmas.Iterator.Search.{any_from_yields_List}
use Rattle.clause.specs.Logic.{outside}
use Rattle.clause.proofs.Chains.{any_outside}
use Rattle.clause.proofs.clause.some_outside.Goals as goal

pub returns : goal.returns
returns c =
    any_from_yields_List (λ l. outside c.args.variables l.variable) _ _ _ c.any.ensures.ran (YieldsList-from_slice c.args.clause.now cc) (λ x b q k. search (rules, tests))
    ∙ any_outside c.args.variables c.args.clause.now
