-- What is said of a pair is said of what its two circuits compute.
use Rattle.circuit.specs.Gates.{Sheet}
use Rattle.circuit.specs.View.{drawn}
use Rattle.circuit.specs.declared.pair.Pair.{Pair}

-- a relation of target and specification, of a pair
abbrev pub of_pair : {A : Type 1} → (Sheet → Sheet → A) → Pair → A
of_pair relation pair = relation (drawn pair.target) (drawn pair.specification)
