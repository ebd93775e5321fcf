use Rattle.std.proofs.Common.{◌∙◌, rules}
use Rattle.std.proofs.lemmas.Iterator.{YieldsList-from_slice}
use Rattle.std.proofs.lemmas.Iterator.Search.{any_from_yields_List}
use Rattle.clause.specs.Logic.{literal_holds}
use Rattle.clause.proofs.Chains.{any_holds}
use Rattle.clause.proofs.values.Values.clause_holds.Goals as goal

pub returns : goal.returns
returns g c =
    let row = g.Self.Values.row c.args.self.now in
    let literal = g.W.AsLiteral.literal in
    any_from_yields_List (λ w. literal_holds row (literal w)) _ _ _ c.any.ensures.ran (YieldsList-from_slice c.args.clause.now cc) (λ x b q k. search rules)
    ∙ any_holds literal row c.args.clause.now
