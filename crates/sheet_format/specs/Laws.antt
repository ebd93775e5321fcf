-- What reading and writing owe each other.
use Rattle.std.specs.Prelude.{◌≡◌, ℕ, List, None}
use Rattle.circuit.specs.Gates.{Sheet, Lawful, Plain}
use Rattle.refusal.specs.declared.role.Role.TheVariants.{Alone}
use Rattle.sheet_format.specs.Rows.{rows, pair_rows}
use Rattle.sheet_format.specs.FirstFault.{sheet_fault, pair_fault}

-- the bytes are the rows of the circuit, and no other lawful circuit has those rows
pub record RowsOf (s : Sheet) (t : List ℕ) : Type 0 where
  pub lawful : Lawful s
  pub written : t ≡ rows s
  pub alone : (s' : Sheet) → Lawful s' → t ≡ rows s' → s' ≡ s

-- Bytes without a fault are the rows of exactly one lawful circuit, and a lawful circuit's rows are without a fault.
pub record SheetLaws : Type 0 where
  pub read_back : (t : List ℕ) → sheet_fault Alone t ≡ None → (s : Sheet) × RowsOf s t
  pub written_well : (s : Sheet) → Lawful s → sheet_fault Alone (rows s) ≡ None

-- the same of a pair
pub record PairOf (target specification : Sheet) (t : List ℕ) : Type 0 where
  pub target_lawful : Lawful target
  pub specification_lawful : Lawful specification
  pub specification_plain : Plain specification
  pub written : t ≡ pair_rows target specification
  pub alone : (x y : Sheet) → Lawful x → Lawful y → t ≡ pair_rows x y → (x ≡ target) × (y ≡ specification)

pub record PairLaws : Type 0 where
  pub read_back : (t : List ℕ) → pair_fault t ≡ None → (x : Sheet) × (y : Sheet) × PairOf x y t
  pub written_well : (x y : Sheet) → Lawful x → Lawful y → Plain y → pair_fault (pair_rows x y) ≡ None
