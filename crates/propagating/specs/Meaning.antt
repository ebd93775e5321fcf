-- What the propagating engine means.
use Rattle.std.specs.Prelude.{vec_len}
use Rattle.engine.specs.Phases.{state_in}
use Rattle.engine.specs.View.{View}
use Rattle.trail.specs.Values.{row_of}
use Rattle.propagating.specs.Parts.{clauses_in, values_in, owes}
use Rattle.propagating.specs.declared.propagating.Propagating.{Propagating}

-- while it searches it owes what its trail says; a model's values are the slots'
abbrev pub view_of : Propagating → View
view_of e = record {
  variables = vec_len e.search.slots;
  clauses = clauses_in e.search;
  count = e.control.count;
  places = e.control.places;
  state = state_in e.control.phase (owes e.search) (row_of (values_in e.search));
}
