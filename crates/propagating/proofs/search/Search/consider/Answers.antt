-- The clause looked at holds wherever the formula does, so its open literal follows, and where it is false no model agrees with the trail.
use Rattle.std.proofs.Common.{refl}
use Rattle.propagating.proofs.Considering.{clause_fits, clause_inside, refuted_there, unit_there, goes_same, goes_forced, goes_then}
use Rattle.propagating.proofs.search.Search.consider.Goals as goal

pub clause_at-clause-requires : goal.clause_at-clause-requires
clause_at-clause-requires c = clause_fits c.args.self.now c.args.head c.deref.result.now c.requires c.deref.ensures.value

pub look-requires : goal.look-requires
look-requires c = clause_inside c.args.self.now c.args.head c.deref.result.now c.clause_at-clause.result.now _ c.requires c.deref.ensures.value c.clause_at-clause.ensures c.deref-2.ensures.len

pub push-requires : goal.push-requires
push-requires c =
    let m = unit_there c.args.self.now c.args.head c.deref.result.now c.clause_at-clause.result.now c.deref-2.result.now c.in-Unit.literal c.requires c.deref.ensures.value c.clause_at-clause.ensures c.deref-2.ensures.value c.in-Unit.ensures in
    record { inside = m.inside; opened = m.opened; forced = λ _. m.forces }

pub returns-in-Satisfied-clause-follows : goal.returns-in-Satisfied-clause-follows
returns-in-Satisfied-clause-follows c = record { goes = goes_same c.args.self.now _ refl refl refl; conflict = tt }

pub returns-in-Unit-clause-follows : goal.returns-in-Unit-clause-follows
returns-in-Unit-clause-follows c =
    let pushed = c.push.ensures in
    record { goes = goes_then c.args.self.now _ _ (goes_same c.args.self.now _ refl refl refl) (goes_forced _ c.push.new.self _ pushed.keeps pushed.debt pushed.pushes refl); conflict = tt }

pub returns-in-Falsified-clause-follows : goal.returns-in-Falsified-clause-follows
returns-in-Falsified-clause-follows c = record {
  goes = goes_same c.args.self.now _ refl refl refl;
  conflict = refuted_there c.args.self.now c.args.head c.deref.result.now c.clause_at-clause.result.now c.deref-2.result.now c.requires c.deref.ensures.value c.clause_at-clause.ensures c.deref-2.ensures.value c.in-Falsified.ensures;
}
