use Rattle.engine.proofs.Runs.{agree}
use Rattle.engine.proofs.laws.engines_agree.Goals as goal

pub returns : goal.returns
returns c = agree
