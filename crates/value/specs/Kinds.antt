-- The three kinds of value that have lanes.
use Rattle.std.specs.Prelude.{ℕ, ◌-◌, ◌^◌, Bool, true, false, not, ◌&&◌, ◌||◌, bit_and, bit_or, bit_xor}
use Rattle.circuit.specs.Kinds.{xor}
use Rattle.meaning.specs.Meaning.{bit}
use Rattle.value.specs.Ops.{Ops}
use Rattle.value.specs.declared.ternary.Ternary.{Ternary}
use Rattle.value.specs.declared.ternary.Ternary.TheVariants.{Zero, One, Unknown}
use Rattle.value.specs.declared.bit.Bit.{Bit}
use Rattle.value.specs.declared.word.Word.{Word}

-- a bit as what a lane says
abbrev pub known : Bool → Ternary
known false = Zero
known true = One

-- the single bit
abbrev pub the_bit : Bool → Bit
the_bit b = record { value = b }

abbrev pub bit_ops : Ops Bit
bit_ops = record {
  falsity = record { value = false };
  truth = record { value = true };
  inverse = λ x. record { value = not x.value };
  both = λ x y. record { value = x.value && y.value };
  either = λ x y. record { value = x.value || y.value };
  differ = λ x y. record { value = xor x.value y.value };
}

abbrev pub bit_lane : Bit → ℕ → Ternary
bit_lane x j = known x.value

-- the word of 64 lanes
abbrev pub word_ops : Ops Word
word_ops = record {
  falsity = record { bits = 0 };
  truth = record { bits = 2 ^ 64 - 1 };
  inverse = λ x. record { bits = bit_xor x.bits (2 ^ 64 - 1) };
  both = λ x y. record { bits = bit_and x.bits y.bits };
  either = λ x y. record { bits = bit_or x.bits y.bits };
  differ = λ x y. record { bits = bit_xor x.bits y.bits };
}

abbrev pub word_lane : Word → ℕ → Ternary
word_lane x j = known (bit x.bits j)

-- the three-valued bit
abbrev pub ternary_not : Ternary → Ternary
ternary_not Zero = One
ternary_not One = Zero
ternary_not Unknown = Unknown

abbrev pub ternary_and : Ternary → Ternary → Ternary
ternary_and Zero y = Zero
ternary_and One y = y
ternary_and Unknown Zero = Zero
ternary_and Unknown One = Unknown
ternary_and Unknown Unknown = Unknown

abbrev pub ternary_or : Ternary → Ternary → Ternary
ternary_or Zero y = y
ternary_or One y = One
ternary_or Unknown Zero = Unknown
ternary_or Unknown One = One
ternary_or Unknown Unknown = Unknown

abbrev pub ternary_xor : Ternary → Ternary → Ternary
ternary_xor Zero y = y
ternary_xor One y = ternary_not y
ternary_xor Unknown y = Unknown

abbrev pub ternary_ops : Ops Ternary
ternary_ops = record {
  falsity = Zero;
  truth = One;
  inverse = ternary_not;
  both = ternary_and;
  either = ternary_or;
  differ = ternary_xor;
}

abbrev pub ternary_lane : Ternary → ℕ → Ternary
ternary_lane x j = x
