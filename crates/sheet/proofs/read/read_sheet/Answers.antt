use Rattle.sheet.proofs.Sheets.{reads_alone}
use Rattle.sheet.proofs.read.read_sheet.Goals as goal

pub returns : goal.returns
returns c = reads_alone c.args.bytes.now c.read_part.result c.read_part.ensures
