-- What the fields of each row of a sheet may hold.
use Rattle.std.specs.Prelude.{ℕ, ◌+◌, ◌-◌, [], ◌∷◌, slice_index_or}
use Rattle.circuit.specs.declared.gate.Kind.{Kind}
use Rattle.circuit.specs.Kinds.{fewest_inputs, most_inputs}
use Rattle.layout.specs.declared.shape.Bounds.{Bounds}
use Rattle.layout.specs.declared.shape.Shape.{Shape}

-- the numbers from the lowest to the highest
abbrev pub from_to : ℕ → ℕ → Bounds
from_to a b = record { low = a; high = b }

-- no number at all, for a field that is blank
abbrev pub no_number : Bounds
no_number = from_to 1 0

-- what field j, counted from 0, may hold
abbrev pub lowest : Shape → ℕ → ℕ
lowest s j = (slice_index_or s.bounds j (from_to 0 0)).low

abbrev pub highest : Shape → ℕ → ℕ
highest s j = (slice_index_or s.bounds j (from_to 0 0)).high

-- 1 to 16 inputs, 1 to 200 gates, 1 to 16 outputs
abbrev pub header_shape : Shape
header_shape = record {
  needed = 3;
  allowed = 3;
  bounds = from_to 1 16 ∷ from_to 1 200 ∷ from_to 1 16 ∷ no_number ∷ no_number ∷ no_number ∷ [];
}

-- the gate's own net, then as many input nets as its kind takes, each below its own
abbrev pub gate_shape : ℕ → Kind → Shape
gate_shape own k = record {
  needed = 1 + fewest_inputs k;
  allowed = 1 + most_inputs k;
  bounds =
      from_to own own ∷ from_to 1 (own - 1) ∷ from_to 1 (own - 1) ∷ from_to 1 (own - 1) ∷ from_to 1 (own - 1) ∷ from_to 1 (own - 1) ∷ [];
}

-- one of the nets 1 to n
abbrev pub output_shape : ℕ → Shape
output_shape n = record {
  needed = 1;
  allowed = 1;
  bounds = from_to 1 n ∷ no_number ∷ no_number ∷ no_number ∷ no_number ∷ no_number ∷ [];
}
