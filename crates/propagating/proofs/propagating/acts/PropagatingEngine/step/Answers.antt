use Rattle.std.proofs.Common.{sym, ap, ◌∙◌}
use Rattle.propagating.proofs.Stepping.{Comes, again_model, again_none, under_way, first, comes_as, steps_to}
use Rattle.propagating.proofs.propagating.acts.PropagatingEngine.step.Goals as goal
use Rattle.propagating.proofs.propagating.acts.PropagatingEngine.step.Goals.{in-Model, in-Unsatisfiable, in-Searching, in-Idle}

pub returns : goal.returns
returns c =
    let e = c.args.self.now in
    let s = e.search in
    let t = c.match-self.self.1.0 in
    let p = e.control.phase in
    let a = c.match-self.answer in
    let counted = c.in_ok-count_step.ensures in
    let phase = sym (ap (λ x. x.phase) counted.1) in
    let comes : Comes s p a t = elim c.match-self.branch [
      | in-Model w ↦ comes_as s s t p _ a (ap (λ x. x.1.0) w.self-is) w.answer-is (again_model s p (phase ∙ w.in-Model.is))
      | in-Unsatisfiable w ↦ comes_as s s t p _ a (ap (λ x. x.1.0) w.self-is) w.answer-is (again_none s p (phase ∙ w.in-Unsatisfiable.is))
      | in-Searching w ↦ comes_as s w.advance-answer.new.self t p w.advance-answer.result a (ap (λ x. x.1.0) w.self-is) w.answer-is
          (under_way s w.advance-answer.new.self p w.advance-answer.result (phase ∙ w.in-Searching.is) w.advance-answer.ensures.keeps w.advance-answer.ensures.turns)
      | in-Idle w ↦ comes_as s w.begin-answer.new.self t p w.begin-answer.result a (ap (λ x. x.1.0) w.self-is) w.answer-is
          (first s w.begin-answer.new.self p w.begin-answer.result (phase ∙ w.in-Idle.is) w.begin-answer.ensures.keeps w.begin-answer.ensures.turns)
    ] in
    (counted.0, steps_to e t a _ _ _ (ap (λ x. x.count) counted.1) (ap (λ x. x.places) counted.1) c.from-self.ensures comes)
