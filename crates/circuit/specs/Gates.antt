-- What a gate reads, and what makes a circuit lawful.
use Rattle.std.specs.Prelude.{◌≡◌, ℕ, ◌+◌, ◌^◌, ◌≤◌, List, [], ◌∷◌, ◌++◌, length, take, count_by, codes, decimal, nat_eq, slice_index_or}
use Rattle.circuit.specs.Kinds.{letter_of}
use Rattle.circuit.specs.declared.gate.Inputs.{Inputs}
use Rattle.circuit.specs.declared.gate.Inputs.TheVariants.{One, Two, Three, Four}
use Rattle.circuit.specs.declared.gate.Unary.TheVariants.{Buffer}
use Rattle.circuit.specs.declared.gate.Kind as kinds
use Rattle.circuit.specs.declared.gate.Kind.{Kind}
use Rattle.circuit.specs.declared.gate.Gate.{Gate}
use Rattle.circuit.specs.declared.gate.Gate.TheVariants.{Unary, Binary, Table}

abbrev pub kind_of : Gate → Kind
kind_of (Unary u a) = kinds.TheVariants.Unary u
kind_of (Binary o a b) = kinds.TheVariants.Binary o
kind_of (Table t) = kinds.TheVariants.Table

-- the nets that a table names, the first of them first
abbrev pub named : Inputs → List ℕ
named (One a) = a ∷ []
named (Two a b) = a ∷ b ∷ []
named (Three a b c) = a ∷ b ∷ c ∷ []
named (Four a b c d) = a ∷ b ∷ c ∷ d ∷ []

-- the input nets of a gate
abbrev pub nets : Gate → List ℕ
nets (Unary u a) = a ∷ []
nets (Binary o a b) = a ∷ b ∷ []
nets (Table t) = named t

-- the setting rows that are a gate's own: one for each value of a table's inputs
abbrev pub own_rows : Gate → ℕ
own_rows (Unary u a) = 0
own_rows (Binary o a b) = 0
own_rows (Table t) = 2 ^ length (named t)

-- the setting rows of all gates
abbrev pub total_rows : List Gate → ℕ
total_rows [] = 0
total_rows (g ∷ gs) = own_rows g + total_rows gs

-- the setting row that is the first of gate i, counted from 0: the rows of the tables before it come first
abbrev pub first_row : List Gate → ℕ → ℕ
first_row gates i = total_rows (take i gates)

-- how many of the gates are of that kind
abbrev pub count_kind : Kind → List Gate → ℕ
count_kind k gates = count_by (λ g. nat_eq (letter_of (kind_of g)) (letter_of k)) gates

-- one of the nets 1 to n
abbrev pub Net : ℕ → ℕ → Type 0
Net n a = (1 ≤ a) × (a ≤ n)

-- gate i, counted from 0
abbrev pub gate_at : List Gate → ℕ → Gate
gate_at gates i = slice_index_or gates i (Unary Buffer 1)

-- input j of gate i, both counted from 0, and net 1 where there is none
abbrev pub input_net : List Gate → ℕ → ℕ → ℕ
input_net gates i j = slice_index_or (nets (gate_at gates i)) j 1

-- gate i of a circuit of n inputs drives net n + i + 1, and reads nets below that
abbrev pub Below : ℕ → List Gate → Type 0
Below n gates = (i j : ℕ) → Net (n + i) (input_net gates i j)

-- each output is one of the nets 1 to n
abbrev pub Driven : ℕ → List ℕ → Type 0
Driven n outputs = (j : ℕ) → Net n (slice_index_or outputs j 1)

-- A circuit as drawn: the number of its inputs, its gates, and its output nets.
pub record Sheet : Type 0 where
  pub inputs : ℕ
  pub gates : List Gate
  pub outputs : List ℕ

-- what makes a drawn circuit lawful
pub record Lawful (s : Sheet) : Type 0 where
  pub few : (1 ≤ s.inputs) × (s.inputs ≤ 16)
  pub sized : (1 ≤ length s.gates) × (length s.gates ≤ 200)
  pub shown : (1 ≤ length s.outputs) × (length s.outputs ≤ 16)
  pub below : Below s.inputs s.gates
  pub driven : Driven (s.inputs + length s.gates) s.outputs
  pub rows : total_rows s.gates ≤ 64

-- no gate of it is a table
abbrev pub Plain : Sheet → Type 0
Plain s = total_rows s.gates ≡ 0

-- nets as they are printed: their numbers, with a space between two
abbrev pub in_words : List ℕ → List ℕ
in_words [] = []
in_words (a ∷ []) = decimal a
in_words (a ∷ b ∷ rest) = decimal a ++ (codes " " ++ in_words (b ∷ rest))
