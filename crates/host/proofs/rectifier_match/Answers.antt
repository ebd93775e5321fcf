use Rattle.host.proofs.Codes.{match_ok, match_err}
use Rattle.host.proofs.rectifier_match.Goals as goal

pub returns-in-Ok : goal.returns-in-Ok
returns-in-Ok c = match_ok c.args.pair.now c.in-Ok.pair c.args.setting c.args.word c.match_code.result c.in-Ok.ensures c.match_code.ensures

pub returns-in-Err : goal.returns-in-Err
returns-in-Err c = match_err c.args.pair.now c.in-Err.fault c.args.setting c.args.word c.number.result c.in-Err.ensures c.number.ensures
