-- A step is counted, or refused.
use Rattle.std.specs.Prelude.{◌≡◌, ◌+◌, Some, None, Ok, Err, Result}
use Rattle.refusal.specs.declared.refusal.Refusal.{Refusal}
use Rattle.engine.specs.declared.control.Control.{Control}
use Rattle.engine.specs.Calls.{count_refusal}

abbrev pub Counted : {U : Type 0} → Control → Result U Refusal → Control → Type 0
Counted c (Ok u) c' = (count_refusal c.count ≡ None) × (c' ≡ record c { count = c.count + 1 })
Counted c (Err x) c' = (count_refusal c.count ≡ Some x) × (c' ≡ c)
