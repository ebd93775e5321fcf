use Rattle.std.proofs.Common.{refl}
use Rattle.clause.proofs.Inside.{inside_more}
use Rattle.engine.proofs.Refusals.{may_grow}
use Rattle.counting.specs.Meaning.{view_of}
use Rattle.counting.proofs.Steps.{idle_tried}
use Rattle.counting.proofs.counting.acts.CountingEngine.grow.Goals as goal

pub invariant_of-self-2 : goal.invariant_of-self-2
invariant_of-self-2 c =
    let s = c.args.self.now in
    let more = c.args.variables in
    record {
      row_room = (may_grow _ s.control.places s.variables more c.in_ok-may_grow.ensures, s.row_room.1);
      word_room = s.word_room;
      coded = s.coded;
      sized = s.sized;
      inside = inside_more s.variables more (view_of s).clauses s.inside;
      whole = λ n. absurd (n refl);
      tried = idle_tried _ _;
    }
