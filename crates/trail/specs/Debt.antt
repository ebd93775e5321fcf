-- The steps that a search still owes, read off its trail.
use Rattle.std.specs.Prelude.{ℕ, ◌+◌, ◌-◌, ◌^◌, cond, [], ◌∷◌}
use Rattle.trail.specs.Trail.{Trail}

-- the nodes of a full binary tree over k open variables
abbrev pub nodes : ℕ → ℕ
nodes k = 2 ^ (k + 1) - 1

-- where k variables are open before these positions: the tree below the trail's end, and for each open decision
-- the tree of its other value
abbrev pub debt : ℕ → Trail → ℕ
debt k [] = nodes k
debt k (e ∷ t) = cond e.decided (nodes (k - 1)) 0 + debt (k - 1) t
