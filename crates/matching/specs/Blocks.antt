-- Blocks of 64 input words, one to a lane.
use Rattle.std.specs.Prelude.{◌≡◌, ℕ, ◌+◌, ◌-◌, ◌*◌, ◌/◌, ◌<◌, ◌≤◌, Bool, not, List, Decides, Option, slice_index_or}
use Rattle.std.specs.Option as options
use Rattle.circuit.specs.Gates.{Sheet}
use Rattle.meaning.specs.Nets.{at}
use Rattle.meaning.specs.Meaning.{bit, net, the_nets, Matches}
use Rattle.value.specs.Values.{net_count}
use Rattle.value.specs.declared.word.Word.{Word}

-- the input word that lane j of a block stands for
abbrev pub lane_word : ℕ → ℕ → ℕ
lane_word block j = 64 * block + j

abbrev pub no_lanes : Word
no_lanes = record { bits = 0 }

-- each lane of the values holds the circuit's net values at the lane's input word
abbrev pub HoldNets : Sheet → ℕ → ℕ → List Word → Type 0
HoldNets s setting block nets =
    (k j : ℕ) (d : Word) → 1 ≤ k → k ≤ net_count s → j < 64 → bit (slice_index_or nets (k - 1) d).bits j ≡ net (the_nets s setting (lane_word block j)) k

-- lane j of net k
abbrev pub net_bit : List Word → ℕ → ℕ → Bool
net_bit nets j k = bit (at no_lanes nets k).bits j

-- a lane is 0 exactly where both circuits give equal outputs at the lane's input word
abbrev pub Compared : Sheet → Sheet → ℕ → ℕ → ℕ → Type 0
Compared t s setting block lanes = (j : ℕ) → j < 64 → Decides (not (bit lanes j)) (Matches t s setting (lane_word block j))

-- the lowest word from `from` on, below `end`, at which the outputs differ; or none
abbrev pub LowestBelow : Sheet → Sheet → ℕ → ℕ → ℕ → Option ℕ → Type 0
LowestBelow t s setting from end o =
    options.MatchOption o ((w : ℕ) → from ≤ w → w < end → Matches t s setting w)
    (λ x. (from ≤ x) × (x < end) × (Matches t s setting x → ⊥) × ((w : ℕ) → from ≤ w → w < x → Matches t s setting w))

-- the same to the end of the block in which `from` lies
abbrev pub LowestInBlock : Sheet → Sheet → ℕ → ℕ → Option ℕ → Type 0
LowestInBlock t s setting from o = LowestBelow t s setting from (64 * (from / 64) + 64) o
