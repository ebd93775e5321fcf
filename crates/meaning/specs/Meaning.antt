-- What a circuit computes: the value of every net at a setting and an input word, its outputs, and when it matches.
use Rattle.std.specs.Prelude.{◌≡◌, ℕ, ◌+◌, ◌-◌, ◌/◌, ◌%◌, ◌^◌, ◌<◌, ◌≤◌, Bool, false, List, map, length, ◌==◌}
use Rattle.std.specs.List.{range_with_len}
use Rattle.circuit.specs.declared.gate.Gate.{Gate}
use Rattle.circuit.specs.Kinds.{nature}
use Rattle.circuit.specs.Gates.{Sheet, kind_of, nets, first_row, gate_at}
use Rattle.meaning.specs.Nets.{at, nets_from}

-- bit i of a number
abbrev pub bit : ℕ → ℕ → Bool
bit w i = w / 2 ^ i % 2 == 1

-- net k, where the list holds the nets' values from net 1 on
abbrev pub net : List Bool → ℕ → Bool
net values k = at false values k

-- a gate's Boolean function of its input nets; a table's rows are the setting's bits from `first` on
abbrev pub gate_means : ℕ → ℕ → (ℕ → Bool) → Gate → Bool
gate_means setting first values g = (nature (kind_of g)).function (λ r. bit setting (first + r)) (map values (nets g))

-- The list holds the values of all nets: each input net its bit of the word, and each gate's net its gate's function of its input nets.
pub record Holds (s : Sheet) (setting word : ℕ) (values : List Bool) : Type 0 where
  pub long : length values ≡ s.inputs + length s.gates
  pub input : (k : ℕ) → 1 ≤ k → k ≤ s.inputs → net values k ≡ bit word (k - 1)
  pub gate : (i : ℕ) → i < length s.gates → net values (s.inputs + i + 1) ≡ gate_means setting (first_row s.gates i) (net values) (gate_at s.gates i)

-- the lowest n bits of a number, the lowest first
abbrev pub low_bits : ℕ → ℕ → List Bool
low_bits n w = map (bit w) (range_with_len 0 n)

-- the one list that holds, gate by gate
abbrev pub the_nets : Sheet → ℕ → ℕ → List Bool
the_nets s setting word = nets_from (gate_means setting) false 0 (low_bits s.inputs word) s.gates

-- the outputs at a setting and an input word, in order
abbrev pub outputs_at : Sheet → ℕ → ℕ → List Bool
outputs_at s setting word = map (net (the_nets s setting word)) s.outputs

-- both circuits give equal outputs at the word, the target under the setting
abbrev pub Matches : Sheet → Sheet → ℕ → ℕ → Type 0
Matches t s setting word = outputs_at t setting word ≡ outputs_at s 0 word
