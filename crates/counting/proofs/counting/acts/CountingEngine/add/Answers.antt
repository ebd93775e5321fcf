use Rattle.std.proofs.Common.{◌≡◌, [], ◌∷◌, ◌++◌, ◌+◌, length, vec_len, if◌then◌else◌, vec_items, sym, refl, ap, ◌∙◌, arith}
use Rattle.clause.specs.Logic.{all_inside}
use Rattle.clause.specs.Memory.{clauses_of}
use Rattle.clause.proofs.Coding.{coded_words, stored}
use Rattle.clause.proofs.Inside.{inside_push}
use Rattle.engine.proofs.Refusals.{may_add, add_passes, searching_in}
use Rattle.counting.specs.Meaning.{row_of, view_of}
use Rattle.counting.proofs.Steps.{idle_tried, put_last}
use Rattle.counting.proofs.counting.acts.CountingEngine.add.Goals as goal

pub invariant_of-self-2 : goal.invariant_of-self-2
invariant_of-self-2 c =
    let s = c.args.self.now in
    let clause = c.args.clause.now in
    let after = c.extend_from_slice.ensures in
    let words = c.extend_from_slice.new.self in
    let may = may_add _ s.control.places s.variables c.len.result clause c.in_ok-may_add.ensures in
    let fits = after.succeeds (omega (arith, c.len.ensures, c.push_reserved.ensures.len, c.push_reserved.ensures.capacity)) in
    let new = stored (vec_items s.words) (vec_items words) clause s.coded (put_last _ _ _ _ clause _ fits c.head.ensures c.push_reserved.ensures.items after.items) in
    let long : vec_len words ≡ s.words.len + 1 + length clause =
    after.len ∙ ap (λ b. if b then vec_len c.push_reserved.new.self + length clause else vec_len c.push_reserved.new.self) fits ∙ ap (λ n. n + length clause) c.push_reserved.ensures.len in
    record {
      row_room = s.row_room;
      word_room = (omega (arith, c.len.ensures), omega (arith, after.capacity, c.push_reserved.ensures.capacity));
      coded = new.coded;
      sized = coded_words (vec_items words) new.coded ∙ sym words.ok.0;
      inside = ap (all_inside s.variables) new.clauses ∙ inside_push s.variables (view_of s).clauses clause s.inside may.0;
      whole = λ n. absurd (n refl);
      tried = idle_tried _ _;
    }

pub returns : goal.returns
returns c =
    let s = c.args.self.now in
    let clause = c.args.clause.now in
    let after = c.extend_from_slice.ensures in
    let may = may_add _ s.control.places s.variables c.len.result clause c.in_ok-may_add.ensures in
    let fits = after.succeeds (omega (arith, c.len.ensures, c.push_reserved.ensures.len, c.push_reserved.ensures.capacity)) in
    let new = vec_items c.extend_from_slice.new.self in
    let clauses : clauses_of new ≡ (view_of s).clauses ++ (clause ∷ []) = (stored (vec_items s.words) new clause s.coded (put_last _ _ _ _ clause _ fits c.head.ensures c.push_reserved.ensures.items after.items)).clauses in
    let searches = searching_in s.control.phase _ (row_of s) in
    (add_passes (view_of s) clause _ _ _ searches refl (s.sized ∙ sym c.len.ensures) c.in_ok-may_add.ensures, cc)
