-- The drawing that a circuit in memory is.
use Rattle.std.specs.Prelude.{vec_items}
use Rattle.circuit.specs.Gates.{Sheet}
use Rattle.circuit.specs.declared.circuit.Circuit.{Circuit}

abbrev pub drawn : Circuit → Sheet
drawn c = record { inputs = c.inputs; gates = vec_items c.gates; outputs = vec_items c.outputs }
