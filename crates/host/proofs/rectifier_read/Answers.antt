use Rattle.host.proofs.Codes.{read_answer}
use Rattle.host.proofs.rectifier_read.Goals as goal

pub returns : goal.returns
returns c = read_answer c.args.pair.now c.load_pair.result c.read_code.result c.load_pair.ensures c.read_code.ensures
