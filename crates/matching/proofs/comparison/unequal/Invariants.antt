use Rattle.std.proofs.Common.{◌≡◌, ℕ, not, map, length, take, Decides}
use Rattle.meaning.specs.Meaning.{bit}
use Rattle.matching.specs.Blocks.{net_bit}
use Rattle.matching.proofs.comparison.unequal.Given as goal

-- the outputs so far, compared
abbrev pub invariant-loop-a : goal.invariant-loop-a
invariant-loop-a l =
    let i = length l.yielded in
    (j : ℕ) → Decides (not (bit l.lanes j)) (map (net_bit l.t j) (take i l.a) ≡ map (net_bit l.s j) (take i l.b))
