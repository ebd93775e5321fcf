-- Setting rows over gates.
use Rattle.std.proofs.Common.{◌≡◌, ℕ, ◌+◌, ◌<◌, ◌≤◌, List, [], ◌∷◌, ◌++◌, length, get_or, take, drop, sum_by, refl, ap, ◌∙◌, arith}
use Rattle.std.proofs.lemmas.List.{drop_more}
use Rattle.std.proofs.lemmas.List.Sums.{sum_by-cons, sum_by-take-le}
use Rattle.circuit.specs.declared.gate.Gate.{Gate}
use Rattle.circuit.specs.Gates.{own_rows, total_rows}

-- they are a sum
pub rows_sum : (gates : List Gate) → sum_by own_rows gates ≡ total_rows gates
rows_sum [] = refl
rows_sum (g ∷ gates) = sum_by-cons own_rows g gates ∙ ap (λ k. own_rows g + k) (rows_sum gates)

-- and that of the first gates is no more
pub sum_front : (gates : List Gate) (i : ℕ) → sum_by own_rows (take i gates) ≤ total_rows gates
sum_front gates i = omega (arith, rows_sum gates, sum_by-take-le own_rows gates i)

pub rows_front : (gates : List Gate) (i : ℕ) → total_rows (take i gates) ≤ total_rows gates
rows_front gates i = omega (arith, rows_sum (take i gates), sum_front gates i)

-- one gate more from the front
pub rows_more : (gates : List Gate) (i r : ℕ) (d : Gate) → i < length gates → r ≡ own_rows (get_or gates i d) →
    r + total_rows (drop (i + 1) gates) ≡ total_rows (drop i gates)
rows_more gates i r d h e = omega (arith, ap total_rows (drop_more gates i d h))

-- one gate more at the end
pub rows_push : (gates : List Gate) (g : Gate) → total_rows (gates ++ g ∷ []) ≡ total_rows gates + own_rows g
rows_push [] g = omega arith
rows_push (x ∷ gates) g = omega (arith, rows_push gates g)
