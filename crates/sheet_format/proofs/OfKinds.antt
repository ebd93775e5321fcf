-- The fields of a row, and what a kind of gate asks of them.
use Rattle.std.proofs.Common.{◌≡◌, ℕ, suc, ◌-◌, ◌<◌, ◌≤◌, List, get_or, refl, ap, arith}
use Rattle.std.proofs.lemmas.List.{get_or-replicate}
use Rattle.std.proofs.lemmas.List.FromFn.{get_or-map-range_with_len}
use Rattle.circuit.specs.declared.gate.Unary.{Unary}
use Rattle.circuit.specs.declared.gate.Unary.TheVariants.{Buffer, Inverter}
use Rattle.circuit.specs.declared.gate.Binary.{Binary}
use Rattle.circuit.specs.declared.gate.Binary.TheVariants.{And, Or, Xor, Nand, Nor, Xnor}
use Rattle.circuit.specs.declared.gate.Kind as kinds
use Rattle.circuit.specs.declared.gate.Kind.TheVariants.{Table}
use Rattle.circuit.specs.declared.gate.Kind.{Kind}
use Rattle.circuit.specs.Kinds.{fewest_inputs, most_inputs}
use Rattle.sheet_format.specs.Decoding.{number, numbers}
use Rattle.sheet_format.specs.Shapes.{from_to, lowest, highest, gate_shape}

-- each input has the same bounds
pub input_bounds : (own : ℕ) (k : Kind) (j : ℕ) → j < 5
    → (lowest (gate_shape own k) (suc j) ≡ 1) × (highest (gate_shape own k) (suc j) ≡ own - 1)
input_bounds own k j h =
    let e = get_or-replicate 5 j (from_to 1 (own - 1)) (from_to 0 0) h in (ap (λ b. b.low) e, ap (λ b. b.high) e)

-- the numbers as they are listed
pub numbers_at : (text : List ℕ) (j : ℕ) → j < 6 → get_or (numbers text) j 0 ≡ number j text
numbers_at text j l = get_or-map-range_with_len (λ i. number i text) 0 6 j j 0 l (omega arith)

-- how many inputs a kind takes
pub unary_takes : (u : Unary) → (fewest_inputs (kinds.TheVariants.Unary u) ≡ 1) × (most_inputs (kinds.TheVariants.Unary u) ≡ 1)
unary_takes Buffer = (refl, refl)
unary_takes Inverter = (refl, refl)

pub binary_takes : (o : Binary) → (fewest_inputs (kinds.TheVariants.Binary o) ≡ 2) × (most_inputs (kinds.TheVariants.Binary o) ≡ 2)
binary_takes And = (refl, refl)
binary_takes Or = (refl, refl)
binary_takes Xor = (refl, refl)
binary_takes Nand = (refl, refl)
binary_takes Nor = (refl, refl)
binary_takes Xnor = (refl, refl)

pub takes : (x : Kind) → (1 ≤ fewest_inputs x) × (fewest_inputs x ≤ 2) × (most_inputs x ≤ 4)
takes (kinds.TheVariants.Unary u) = let n = unary_takes u in (omega arith, omega arith, omega arith)
takes (kinds.TheVariants.Binary o) = let n = binary_takes o in (omega arith, omega arith, omega arith)
takes kinds.TheVariants.Table = (omega arith, omega arith, omega arith)
