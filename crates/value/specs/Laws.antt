-- Evaluation is right for every kind of value whose operations keep the laws of its lanes, and so for each of the three kinds.
use Rattle.std.specs.Prelude.{◌≡◌, ℕ, List, length}
use Rattle.circuit.specs.Gates.{Sheet, Lawful, total_rows}
use Rattle.value.specs.Ops.{Ops}
use Rattle.value.specs.Lanes.{LaneLaws}
use Rattle.value.specs.Kinds.{bit_ops, bit_lane, word_ops, word_lane, ternary_ops, ternary_lane}
use Rattle.value.specs.Values.{values}
use Rattle.value.specs.Outcome.{LanesRight}
use Rattle.value.specs.declared.ternary.Ternary.{Ternary}

-- the values of every lawful circuit's nets are right in each lane
abbrev pub RightOver : {K : Type 0} → Ops K → ℕ → (K → ℕ → Ternary) → Type 0
RightOver {K} ops lanes lane = (s : Sheet) → Lawful s → (rows inputs : List K)
    → length rows ≡ total_rows s.gates → length inputs ≡ s.inputs → LanesRight lanes lane s rows inputs (values ops s rows inputs)

-- for any kind K, and for the three
pub record EvaluationRight (K : Type 0) : Type 0 where
  pub any : (ops : Ops K) (lanes : ℕ) (lane : K → ℕ → Ternary) → LaneLaws ops lanes lane → RightOver ops lanes lane
  pub bit : RightOver bit_ops 1 bit_lane
  pub word : RightOver word_ops 64 word_lane
  pub ternary : RightOver ternary_ops 1 ternary_lane
