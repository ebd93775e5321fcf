use Rattle.std.proofs.Common.{arith}
use Rattle.sheet.proofs.Told.{output_small}
use Rattle.sheet.proofs.parts.read_output.Goals as goal

pub number_in-requires : goal.number_in-requires
number_in-requires c =
    let h = rw c.shape_of_output.ensures at c.in_ok-net.ensures in
    output_small c.args.row.now c.in_ok-net.field-0 c.args.nets (omega arith) h.0 h.1 c.requires
