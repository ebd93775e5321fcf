-- Rows of values in counting order, the first value lowest.
use Rattle.std.specs.Prelude.{ℕ, ◌+◌, ◌*◌, Bool, true, false, cond, [], ◌∷◌}
use Rattle.clause.specs.Logic.{Row}

-- the rows before this one
abbrev pub number : Row → ℕ
number [] = 0
number (b ∷ row) = cond b 1 0 + 2 * number row

-- whether a row comes after this one
abbrev pub some_false : Row → Bool
some_false [] = false
some_false (b ∷ row) = cond b (some_false row) true

-- the row after this one, and after the last the first
abbrev pub next : Row → Row
next [] = []
next (true ∷ row) = false ∷ next row
next (false ∷ row) = true ∷ row
