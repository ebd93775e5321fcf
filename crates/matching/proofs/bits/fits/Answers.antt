-- A number is below 2^bits exactly where nothing of it is left above its lowest bits.
use Rattle.std.proofs.Common.{◌/◌, ◌^◌, ◌≤◌, sym, ◌∙◌, inl, inr, arith}
use native.Mathlib.Nat.{div-eq_of_lt}
use Rattle.std.proofs.lemmas.Bool.{cases_lt, eq-eqb, ne_eqb, lt-ltb, le-ltb}
use Rattle.std.proofs.lemmas.Nat.{le-div, pow_pos}
use Rattle.matching.proofs.bits.fits.Goals as goal

pub returns-else-bits-ge64 : goal.returns-else-bits-ge64
returns-else-bits-ge64 c =
    let n = c.args.number in
    let p = 2 ^ c.args.bits in
    elim (cases_lt n p) [
      | inl h ↦ eq-eqb (n / p) 0 (div-eq_of_lt h) ∙ sym (lt-ltb n p h)
      | inr h ↦ let some : 1 ≤ n / p = le-div 1 n p (pow_pos c.args.bits) (omega arith) in ne_eqb (n / p) 0 (λ e. omega arith) ∙ sym (le-ltb n p h)
    ]
