-- What stands for the nets of a circuit, for any kind of value.
use Rattle.std.specs.Prelude.{ℕ, ◌+◌, ◌-◌, List, [], ◌∷◌, ◌++◌, slice_index_or}
use Rattle.circuit.specs.declared.gate.Gate.{Gate}
use Rattle.circuit.specs.Gates.{own_rows}

-- what stands for net a, where vs stands for the nets from 1 on; and d where there is none
abbrev pub at : {K : Type 0} → K → List K → ℕ → K
at d vs a = slice_index_or vs (a - 1) d

-- All nets in order: vs, and then for each gate what `value` makes of its first setting row and of the nets before it.
abbrev pub nets_from : {K : Type 0} → (ℕ → (ℕ → K) → Gate → K) → K → ℕ → List K → List Gate → List K
nets_from value d first vs [] = vs
nets_from value d first vs (g ∷ gs) = nets_from value d (first + own_rows g) (vs ++ value first (at d vs) g ∷ []) gs
