use Rattle.std.proofs.Common.{◌≡◌, false, replicate, vec_items, vec_len, if◌then◌else◌, ap, ◌∙◌, arith}
use Rattle.counting.specs.Meaning.{view_of}
use Rattle.counting.proofs.Steps.{none_before, made}
use Rattle.counting.proofs.counting.Counting.begin.Goals as goal

pub invariant_of-self : goal.invariant_of-self
invariant_of-self c =
    let s = c.args.self.now in
    let after = c.resize.ensures in
    let fits = after.succeeds (omega (arith, c.clear.ensures.capacity)) in
    let long : vec_len c.resize.new.self ≡ s.variables = after.len ∙ ap (λ b. if b then s.variables else vec_len c.clear.new.self) fits in
    let row : vec_items c.resize.new.self ≡ replicate s.variables false = made _ _ _ _ s.variables fits c.clear.ensures.items c.clear.ensures.len after.items in
    record {
      row_room = (s.row_room.0, omega (arith, after.capacity, c.clear.ensures.capacity));
      word_room = s.word_room;
      coded = s.coded;
      sized = s.sized;
      inside = s.inside;
      whole = λ _. long;
      tried = none_before (vec_items c.resize.new.self) s.variables (view_of s).clauses row;
    }
