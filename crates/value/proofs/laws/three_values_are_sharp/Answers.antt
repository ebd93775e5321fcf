use Rattle.value.specs.Sharpness.{ternary_sharp}
use Rattle.value.proofs.laws.three_values_are_sharp.Goals as goal

pub returns : goal.returns
returns c = ternary_sharp
