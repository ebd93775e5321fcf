-- What evaluation answers, and what is right of the lanes of its values.
use Rattle.std.specs.Prelude.{◌≡◌, ℕ, ◌-◌, ◌<◌, ◌≤◌, Bool, cond, ◌&&◌, List, ◌++◌, length, drop, is_ok, Ok, Err, Result, ◌==◌, nat_lt, slice_index_or}
use Rattle.refusal.specs.declared.refusal.Refusal.{Refusal}
use Rattle.refusal.specs.declared.refusal.Refusal.TheVariants.{TooShort, ValueCount}
use Rattle.circuit.specs.Gates.{Sheet, total_rows}
use Rattle.meaning.specs.Meaning.{bit, net, the_nets}
use Rattle.value.specs.Ops.{Ops}
use Rattle.value.specs.Lanes.{Completes, Known}
use Rattle.value.specs.Values.{values, net_count}
use Rattle.value.specs.declared.ternary.Ternary.{Ternary}

-- there are as many row values and input values as the circuit has setting rows and inputs
abbrev pub counts_right : {K : Type 0} → Sheet → List K → List K → Bool
counts_right s rows inputs = length rows == total_rows s.gates && length inputs == s.inputs

-- The destination is too short, or else the numbers of values are not the circuit's, and it stays as before; or it begins
-- with the values of all nets, in order, and stays as before from there on.
pub record Evaluated {K : Type 0} (ops : Ops K) (s : Sheet) (rows inputs before after : List K) (r : Result (Unit {0}) Refusal) : Type 0 where
  pub answer : r ≡ cond (nat_lt (length before) (net_count s)) (Err TooShort) (cond (counts_right s rows inputs) (Ok tt) (Err ValueCount))
  pub filled : after ≡ cond (is_ok r) (values ops s rows inputs ++ drop (net_count s) before) before

-- the bits of the number w are one way that lane j of each of the values may turn out
abbrev pub Completion : {K : Type 0} → (K → ℕ → Ternary) → ℕ → List K → ℕ → Type 0
Completion {K} lane j xs w = (i : ℕ) (d : K) → i < length xs → Completes (lane (slice_index_or xs i d) j) (bit w i)

-- lane j of each of the values is known
abbrev pub AllKnown : {K : Type 0} → (K → ℕ → Ternary) → ℕ → List K → Type 0
AllKnown {K} lane j xs = (i : ℕ) (d : K) → i < length xs → Known (lane (slice_index_or xs i d) j)

-- A known lane of a net is the bit that every completion gives; and where every given lane is known, so is the net's.
pub record LanesRight {K : Type 0} (lanes : ℕ) (lane : K → ℕ → Ternary) (s : Sheet) (rows inputs nets : List K) : Type 0 where
  pub completed : (j : ℕ) → j < lanes → (setting word : ℕ) → Completion lane j rows setting → Completion lane j inputs word
      → (k : ℕ) (d : K) → 1 ≤ k → k ≤ net_count s → Completes (lane (slice_index_or nets (k - 1) d) j) (net (the_nets s setting word) k)
  pub known : (j : ℕ) → j < lanes → AllKnown lane j rows → AllKnown lane j inputs
      → (k : ℕ) (d : K) → 1 ≤ k → k ≤ net_count s → Known (lane (slice_index_or nets (k - 1) d) j)
