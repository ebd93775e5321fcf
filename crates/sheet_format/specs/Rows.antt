-- The rows of a circuit: what stands in each column.
use Rattle.std.specs.Prelude.{ℕ, ◌+◌, ◌*◌, List, [], ◌∷◌, ◌++◌, length}
use Rattle.circuit.specs.declared.gate.Gate.{Gate}
use Rattle.circuit.specs.Kinds.{letter_of}
use Rattle.circuit.specs.Gates.{Sheet, kind_of, nets}
use Rattle.layout.specs.Text.{row_text}

-- 'H', then the numbers of inputs, gates and outputs
abbrev pub header_text : Sheet → List ℕ
header_text s = row_text 72 (s.inputs ∷ length s.gates ∷ length s.outputs ∷ [])

-- the letter of the gate's kind, then its own net and its input nets
abbrev pub gate_text : ℕ → Gate → List ℕ
gate_text own g = row_text (letter_of (kind_of g)) (own ∷ nets g)

-- 'Q', then the output's net
abbrev pub output_text : ℕ → List ℕ
output_text net = row_text 81 (net ∷ [])

-- the rows of gates that drive the nets from `own` on
abbrev pub gate_texts : ℕ → List Gate → List ℕ
gate_texts own [] = []
gate_texts own (g ∷ gs) = gate_text own g ++ gate_texts (own + 1) gs

abbrev pub output_texts : List ℕ → List ℕ
output_texts [] = []
output_texts (net ∷ rest) = output_text net ++ output_texts rest

-- the rows of a circuit: the header, a row for each gate, a row for each output
unfoldable pub rows : Sheet → List ℕ
rows s = header_text s ++ (gate_texts (s.inputs + 1) s.gates ++ output_texts s.outputs)

-- the rows of a pair: those of the target, then those of the specification
abbrev pub pair_rows : Sheet → Sheet → List ℕ
pair_rows target specification = rows target ++ rows specification

-- how many bytes the rows of a circuit of g gates and q outputs take
abbrev pub size : ℕ → ℕ → ℕ
size g q = 32 * (1 + g + q)
