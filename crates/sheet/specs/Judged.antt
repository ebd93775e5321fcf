-- What a reader answers: what was read, where its place has no fault, and else the fault.
use Rattle.std.specs.Prelude.{◌≡◌, Some, None, Option, Result, MatchResult}
use Rattle.refusal.specs.declared.fault.Fault.{Fault}

abbrev pub Judged : {T : Type 0} → Option Fault → Result T Fault → (T → Type 0) → Type 0
Judged fault r said = MatchResult r (λ x. (fault ≡ None) × said x) (λ f. fault ≡ Some f)
