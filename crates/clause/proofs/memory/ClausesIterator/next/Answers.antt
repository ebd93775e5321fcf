use Rattle.std.proofs.Common.{length, min, ap, ◌∙◌, rules}
use Rattle.clause.proofs.Chains.{first_held}
use Rattle.clause.proofs.memory.ClausesIterator.next.Goals as goal

pub returns-clause-steps : goal.returns-clause-steps
returns-clause-steps g c =
    first_held g.W.AsLiteral.literal c.args.self.now.words.now _ _ c.in_ok-head.ensures.cases.0 c.split_at.result.0.now c.split_at.result.1.now _
    (c.min-size.ensures ∙ ap (λ l. min l.variable (length c.in_ok-head.rest.now)) c.literal.ensures) c.split_at.ensures.front c.split_at.ensures.back

pub returns-clause-goes : goal.returns-clause-goes
returns-clause-goes g c =
    let fewer = ap length (returns-clause-steps g c) in
    record { on = search rules; keeps = search rules; rests = search rules }
