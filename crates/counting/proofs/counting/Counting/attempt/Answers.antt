use Rattle.std.proofs.Common.{◌≡◌, ◌∙◌, false, vec_items, sym, ap, refl, arith}
use Rattle.counting.specs.Meaning.{row_of, view_of}
use Rattle.counting.specs.Rows.{some_false}
use Rattle.counting.proofs.Steps.{as_held, counted, tried_on, seeks_more, seeks_none}
use Rattle.counting.proofs.counting.Counting.attempt.Goals as goal

pub invariant_of-self-2 : goal.invariant_of-self-2
invariant_of-self-2 c =
    let s = c.args.self.now in
    let fails = as_held (row_of s) (vec_items s.words) _ false c.deref.ensures.value c.if-all_hold.ensures in
    let after = counted (row_of s) _ c.count_up.new.row s.row.len (omega arith) c.count_up.ensures.after c.deref_mut.ensures.value in
    record {
      row_room = s.row_room;
      word_room = s.word_room;
      coded = s.coded;
      sized = s.sized;
      inside = s.inside;
      whole = s.whole;
      tried = tried_on s.control.phase (row_of s) _ (view_of s).clauses after s.tried fails;
    }

pub returns-then-count_up : goal.returns-then-count_up
returns-then-count_up c =
    let s = c.args.self.now in
    let after = counted (row_of s) _ c.count_up.new.row s.row.len (omega arith) c.count_up.ensures.after c.deref_mut.ensures.value in
    let more = c.if-count_up.ensures.answer ∙ ap some_false c.deref_mut.ensures.value in
    record {
      phase = c.requires;
      tries = record {
        variables = refl;
        clauses = refl;
        places = refl;
        count = refl;
        seeks = seeks_more s.control.phase (row_of s) _ s.variables (view_of s).clauses c.requires after more;
      };
    }

pub returns : goal.returns
returns c =
    let s = c.args.self.now in
    let fails = as_held (row_of s) (vec_items s.words) _ false c.deref.ensures.value c.if-all_hold.ensures in
    let long : s.row.len ≡ s.variables = s.whole (λ e. cc) in
    let none = c.if-count_up.ensures.answer ∙ ap some_false c.deref_mut.ensures.value in
    record {
      phase = c.requires;
      tries = record {
        variables = refl;
        clauses = refl;
        places = refl;
        count = refl;
        seeks = seeks_none s.control.phase (row_of s) s.variables (view_of s).clauses 0 c.requires (sym s.row.ok.0 ∙ long) none s.tried fails;
      };
    }
