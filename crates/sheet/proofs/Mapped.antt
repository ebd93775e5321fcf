-- What `map_err` was asked of.
use Rattle.std.proofs.Common.{◌≡◌, false, Ok, Err, Result, refl}
use Rattle.std.specs.Result.{is_ok}

-- what is no value is an error
pub was_err : {X E : Type 0} (r : Result X E) → is_ok r ≡ false → (e : E) × (r ≡ Err e)
was_err (Ok x) h = cc
was_err (Err e) h = (e, refl)
