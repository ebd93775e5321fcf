-- What a kind of gate is: its name, its letter in a sheet, how many inputs it takes, and its Boolean function.
use Rattle.std.specs.Prelude.{ℕ, ◌+◌, ◌*◌, Bool, false, cond, not, ◌&&◌, ◌||◌, List, [], ◌∷◌, codes, Option, Result, ◌==◌, slice_index_or}
use Rattle.std.specs.List.{find}
use Rattle.std.specs.Option.{ok_or}
use Rattle.refusal.specs.declared.refusal.Refusal.{Refusal}
use Rattle.refusal.specs.declared.refusal.Refusal.TheVariants.{Letter}
use Rattle.circuit.specs.declared.gate.Unary.TheVariants.{Buffer, Inverter}
use Rattle.circuit.specs.declared.gate.Binary.TheVariants.{And, Or, Xor, Nand, Nor, Xnor}
use Rattle.circuit.specs.declared.gate.Kind.{Kind}
use Rattle.circuit.specs.declared.gate.Kind.TheVariants.{Unary, Binary, Table}

pub record Nature : Type 0 where
  pub name : List ℕ
  -- the letter's code
  pub letter : ℕ
  -- the least and the greatest number of inputs
  pub fewest : ℕ
  pub most : ℕ
  -- the gate's value, from the rows of its own (a table's alone) and the values of its inputs
  pub function : (ℕ → Bool) → List Bool → Bool

abbrev pub first : List Bool → Bool
first ins = slice_index_or ins 0 false

abbrev pub second : List Bool → Bool
second ins = slice_index_or ins 1 false

abbrev pub xor : Bool → Bool → Bool
xor a b = cond a (not b) b

-- the row that inputs pick, the first input the lowest bit
abbrev pub row_number : List Bool → ℕ
row_number [] = 0
row_number (b ∷ ins) = cond b 1 0 + 2 * row_number ins

abbrev pub nature : Kind → Nature
nature (Unary Buffer) = record { name = codes "buffer"; letter = 66; fewest = 1; most = 1; function = λ rows ins. first ins }
nature (Unary Inverter) = record { name = codes "inverter"; letter = 73; fewest = 1; most = 1; function = λ rows ins. not (first ins) }
nature (Binary And) = record { name = codes "and"; letter = 65; fewest = 2; most = 2; function = λ rows ins. first ins && second ins }
nature (Binary Or) = record { name = codes "or"; letter = 79; fewest = 2; most = 2; function = λ rows ins. first ins || second ins }
nature (Binary Xor) = record { name = codes "xor"; letter = 88; fewest = 2; most = 2; function = λ rows ins. xor (first ins) (second ins) }
nature (Binary Nand) = record { name = codes "nand"; letter = 68; fewest = 2; most = 2; function = λ rows ins. not (first ins && second ins) }
nature (Binary Nor) = record { name = codes "nor"; letter = 82; fewest = 2; most = 2; function = λ rows ins. not (first ins || second ins) }
nature (Binary Xnor) = record { name = codes "xnor"; letter = 69; fewest = 2; most = 2; function = λ rows ins. not (xor (first ins) (second ins)) }
nature Table = record { name = codes "table"; letter = 76; fewest = 1; most = 4; function = λ rows ins. rows (row_number ins) }

abbrev pub name_of : Kind → List ℕ
name_of k = (nature k).name

abbrev pub letter_of : Kind → ℕ
letter_of k = (nature k).letter

abbrev pub fewest_inputs : Kind → ℕ
fewest_inputs k = (nature k).fewest

abbrev pub most_inputs : Kind → ℕ
most_inputs k = (nature k).most

abbrev pub all_kinds : List Kind
all_kinds =
    Unary Buffer ∷ Unary Inverter ∷ Binary And ∷ Binary Or ∷ Binary Xor ∷ Binary Nand ∷ Binary Nor ∷ Binary Xnor ∷ Table ∷ []

-- the kind among these whose letter it is
abbrev pub kind_among : List Kind → ℕ → Option Kind
kind_among ks x = find (λ k. letter_of k == x) ks

-- the kind that a letter names
abbrev pub kind_lettered : ℕ → Result Kind Refusal
kind_lettered x = ok_or (kind_among all_kinds x) Letter
