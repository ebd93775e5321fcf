use Rattle.std.proofs.Common.{◌≡◌, ℕ, List, length, min, rules, tests, take, sum_by, vec_items, sym, ap, ◌∙◌, arith}
use Rattle.std.proofs.lemmas.List.{take_min}
use Rattle.std.proofs.lemmas.Iterator.{YieldsList-from_slice, YieldsList-from_take, YieldsList-from_map}
use Rattle.std.proofs.lemmas.Iterator.Consumers.{YieldsList-at, sum_by_from_yields_List}
use Rattle.circuit.specs.declared.gate.Gate.{Gate}
use Rattle.circuit.specs.Gates.{own_rows, total_rows}
use Rattle.circuit.proofs.Rows.{rows_sum}
use Rattle.circuit.proofs.circuit.Circuit.first_row.Goals as goal

-- the rows of the first n gates, where past the last gate any number is as good as another
rows_before : (gates : List Gate) (n i k : ℕ) → k ≡ sum_by own_rows (take n gates) → min n (length gates) ≡ min i (length gates) → k ≡ total_rows (take i gates)
rows_before gates n i k e m = e ∙ rows_sum (take n gates) ∙ ap total_rows (sym (take_min n gates) ∙ ap (λ j. take j gates) m ∙ take_min i gates)

pub returns : goal.returns
returns c =
    let gates = vec_items c.args.self.now.gates in
    let long = c.args.self.now.gates.ok.0 in
    rows_before gates _ c.args.i c.sum.result
    (sum_by_from_yields_List own_rows _ c.map.result c.sum.result c.sum.ensures.ran
    (YieldsList-from_map _ own_rows
    (YieldsList-at c.map.ensures.source (YieldsList-from_take _ (YieldsList-at c.take.ensures.source (YieldsList-from_slice gates (cc))) c.take.ensures.count))
    c.map.ensures.closure (λ x r q k. search (rules, tests))))
    (omega arith)
