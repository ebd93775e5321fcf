-- What a lane of a value says, and what a kind's operations owe of it.
use Rattle.std.specs.Prelude.{◌≡◌, ℕ, ◌<◌, Bool, true, false, not, ◌&&◌, ◌||◌}
use Rattle.circuit.specs.Kinds.{xor}
use Rattle.value.specs.Ops.{Ops}
use Rattle.value.specs.declared.ternary.Ternary.{Ternary}
use Rattle.value.specs.declared.ternary.Ternary.TheVariants.{Zero, One, Unknown}

-- the bit b is one way that a lane may turn out
abbrev pub Completes : Ternary → Bool → Type 0
Completes Zero b = b ≡ false
Completes One b = b ≡ true
Completes Unknown b = Unit {0}

-- the lane is 0 or 1
abbrev pub Known : Ternary → Type 0
Known Zero = Unit {0}
Known One = Unit {0}
Known Unknown = ⊥

-- Each operation's answer is, where known, the Boolean one for every way the operands may turn out;
-- and it is known where they all are.
pub record LaneLaws {K : Type 0} (ops : Ops K) (lanes : ℕ) (lane : K → ℕ → Ternary) : Type 0 where
  pub falsity : (j : ℕ) → j < lanes → lane ops.falsity j ≡ Zero
  pub truth : (j : ℕ) → j < lanes → lane ops.truth j ≡ One
  pub inverse : (x : K) (j : ℕ) (a : Bool) → j < lanes → Completes (lane x j) a → Completes (lane (ops.inverse x) j) (not a)
  pub both : (x y : K) (j : ℕ) (a b : Bool) → j < lanes → Completes (lane x j) a → Completes (lane y j) b → Completes (lane (ops.both x y) j) (a && b)
  pub either : (x y : K) (j : ℕ) (a b : Bool) → j < lanes → Completes (lane x j) a → Completes (lane y j) b → Completes (lane (ops.either x y) j) (a || b)
  pub differ : (x y : K) (j : ℕ) (a b : Bool) → j < lanes → Completes (lane x j) a → Completes (lane y j) b → Completes (lane (ops.differ x y) j) (xor a b)
  pub inverse_known : (x : K) (j : ℕ) → j < lanes → Known (lane x j) → Known (lane (ops.inverse x) j)
  pub both_known : (x y : K) (j : ℕ) → j < lanes → Known (lane x j) → Known (lane y j) → Known (lane (ops.both x y) j)
  pub either_known : (x y : K) (j : ℕ) → j < lanes → Known (lane x j) → Known (lane y j) → Known (lane (ops.either x y) j)
  pub differ_known : (x y : K) (j : ℕ) → j < lanes → Known (lane x j) → Known (lane y j) → Known (lane (ops.differ x y) j)

-- every way that the operands may turn out gives one answer
abbrev pub Agree1 : (Bool → Bool) → Ternary → Type 0
Agree1 f x = (a c : Bool) → Completes x a → Completes x c → f a ≡ f c

abbrev pub Agree2 : (Bool → Bool → Bool) → Ternary → Ternary → Type 0
Agree2 f x y = (a b c d : Bool) → Completes x a → Completes y b → Completes x c → Completes y d → f a b ≡ f c d

-- an answer is known exactly when all those ways agree
pub record Sharp (ops : Ops Ternary) : Type 0 where
  pub inverse : (x : Ternary) → (Known (ops.inverse x) → Agree1 not x) × (Agree1 not x → Known (ops.inverse x))
  pub both : (x y : Ternary) → (Known (ops.both x y) → Agree2 ◌&&◌ x y) × (Agree2 ◌&&◌ x y → Known (ops.both x y))
  pub either : (x y : Ternary) → (Known (ops.either x y) → Agree2 ◌||◌ x y) × (Agree2 ◌||◌ x y → Known (ops.either x y))
  pub differ : (x y : Ternary) → (Known (ops.differ x y) → Agree2 xor x y) × (Agree2 xor x y → Known (ops.differ x y))
