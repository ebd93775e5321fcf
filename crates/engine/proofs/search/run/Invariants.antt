use Rattle.std.proofs.Common.{◌+◌, ◌≤◌}
use Rattle.engine.specs.Calls.{step_limit}
use Rattle.engine.specs.Search.{Mores}
use Rattle.engine.proofs.search.run.Given as goal

abbrev pub invariant-loop-made : goal.invariant-loop-made
invariant-loop-made g l =
    ((g.E.Engine.view l.initial.engine).count + l.budget ≤ step_limit) × Mores l.made (g.E.Engine.view l.initial.engine) (g.E.Engine.view l.engine)
