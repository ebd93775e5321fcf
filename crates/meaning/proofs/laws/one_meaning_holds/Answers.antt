use Rattle.meaning.proofs.Alone.{one_meaning}
use Rattle.meaning.proofs.laws.one_meaning_holds.Goals as goal

pub returns : goal.returns
returns c = one_meaning
