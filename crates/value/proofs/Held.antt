-- The values made gate by gate are the promised ones: a gate's value rests on its input nets' values alone, and those come before it.
use Rattle.std.proofs.Common.{◌≡◌, ℕ, ◌+◌, ◌-◌, ◌<◌, List, length, get_or, drop, sym, ap, ◌∙◌, arith}
use Rattle.std.proofs.lemmas.List.{get_or_append_left, length-append}
use Rattle.circuit.specs.Gates.{Sheet, Below, kind_of, nets, first_row, gate_at}
use Rattle.meaning.specs.Nets.{at}
use Rattle.meaning.proofs.Places.{Local, map_agree, length_nets_from, nets_keep, nets_gate}
use Rattle.value.specs.Ops.{Ops}
use Rattle.value.specs.Values.{kind_value, rows_from, gate_value, values, net_count, NetsHold}
use Rattle.value.proofs.Outcomes.{Done}

pub value_local : {K : Type 0} (ops : Ops K) (rows : List K) → Local (gate_value ops rows)
value_local ops rows first f h g same = ap (kind_value ops (kind_of g) (rows_from ops rows first)) same

pub nets_hold : {K : Type 0} (ops : Ops K) (s : Sheet) (rows inputs before after : List K)
    → Below s.inputs s.gates → Done ops s rows inputs before after → NetsHold ops s rows inputs after
nets_hold {K} ops s rows inputs before after below d =
    let z = ops.falsity in
    let value = gate_value ops rows in
    let vs = values ops s rows inputs in
    let all = d.inputs_are in
    let long : length vs ≡ net_count s = omega (arith, length_nets_from value z 0 inputs s.gates) in
    let place : (k : ℕ) (e : K) → k < net_count s → get_or after k e ≡ get_or vs k e = λ k e l.
    let m : k < length vs = omega arith in
    ap (λ xs. get_or xs k e) d.filled ∙ get_or_append_left vs (drop (net_count s) before) e k m in
    record {
      long = omega (arith, ap length d.filled, length-append vs (drop (net_count s) before));
      input = λ k e l. place k e (omega arith) ∙ nets_keep value z 0 inputs s.gates k e (omega arith);
      gate = λ i e l.
          let g = gate_at s.gates i in
          let same = map_agree (at z vs) (at z after) (s.inputs + i) (nets g) (below i) (λ a lo hi. sym (place (a - 1) z (omega arith))) in
          place (s.inputs + i) e (omega arith)
          ∙ nets_gate value (value_local ops rows) z inputs s.gates s.inputs i e all below l
          ∙ value_local ops rows (first_row s.gates i) (at z vs) (at z after) g same;
    }
