use Rattle.sheet_format.proofs.RoundTrips.{sheet_laws, pair_laws}
use Rattle.sheet_format.proofs.laws.round_trips_hold.Goals as goal

pub returns : goal.returns
returns c = record { sheets = sheet_laws; pairs = pair_laws }
