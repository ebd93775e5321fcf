use Rattle.std.proofs.Common.{arith}
use Rattle.std.proofs.lemmas.Grind.{common_steps}
use Rattle.sheet.proofs.Loops.{rows_are}
use Rattle.sheet.proofs.read.whole_rows.Goals as goal

pub returns-in_default-empty : goal.returns-in_default-empty
returns-in_default-empty c = (
  grind (arith, common_steps),
  rows_are c.args.bytes.now _ c.as_chunks.ensures.front c.as_chunks.ensures.front_len (omega (arith, c.as_chunks.ensures.back_len)),
)
