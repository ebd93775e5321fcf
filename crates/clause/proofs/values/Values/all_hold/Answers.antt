use Rattle.std.proofs.Common.{map, ap, ◌∙◌, rules}
use Rattle.std.proofs.lemmas.Iterator.Consumers.{YieldsList-from_first}
use Rattle.std.proofs.lemmas.Iterator.Search.{all_from_yields_List}
use Rattle.clause.specs.Logic.{clause_holds}
use Rattle.clause.specs.Memory.{clauses_of}
use Rattle.clause.proofs.Chains.{every_holds}
use Rattle.clause.proofs.values.Values.all_hold.Goals as goal

pub returns : goal.returns
returns g c =
    let row = g.Self.Values.row c.args.self.now in
    let literal = g.W.AsLiteral.literal in
    let all = clauses_of (map literal c.args.words.now) in
    all_from_yields_List (clause_holds row) c.all.new.self _ _ c.all.ensures.ran
    (YieldsList-from_first (λ clause. map literal clause.now) (λ s. clauses_of (map literal s.words.now)) all (ap (λ ws. clauses_of (map literal ws)) c.new.ensures)) (λ x b q k. search rules)
    ∙ every_holds row all
