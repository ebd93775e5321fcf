-- While the engine searches, every row before the one tried next has failed.
use Rattle.std.specs.Prelude.{◌≡◌, ◌<◌, false, List, length}
use Rattle.clause.specs.Logic.{Row, Clause, all_hold}
use Rattle.counting.specs.Rows.{number}
use Rattle.engine.specs.declared.types.Phase.{Phase}
use Rattle.engine.specs.declared.types.Phase.TheVariants.{Searching}

-- r comes before row
pub record Before (row r : Row) : Type 0 where
  pub long : length r ≡ length row
  pub less : number r < number row

abbrev pub Tried : Phase → Row → List Clause → Type 0
Tried phase row cs = (r : Row) → (phase ≡ Searching) × Before row r → all_hold r cs ≡ false
