use Rattle.value.proofs.Completions.{evaluation_right}
use Rattle.value.proofs.laws.evaluation_is_right.Goals as goal

pub returns : goal.returns
returns g c = evaluation_right _
