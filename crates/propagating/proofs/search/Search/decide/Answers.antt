use Rattle.std.proofs.Common.{◌+◌, true, refl, arith}
use borrow.Author.Tests.{both_ways}
use Rattle.clause.proofs.Inside.{not_outside}
use Rattle.propagating.specs.Parts.{values_in}
use Rattle.propagating.proofs.Lent.{open_slot}
use Rattle.propagating.proofs.search.Search.decide.Goals as goal

pub push-requires : goal.push-requires
push-requires c =
    let s = c.args.self.now in
    record {
      inside = not_outside s.slots.len (c.args.slot + 1) (omega arith) (omega (arith, c.requires.place));
      opened = open_slot (values_in s) c.args.slot c.requires.opened;
      forced = λ f. absurd (both_ways true f refl);
    }
