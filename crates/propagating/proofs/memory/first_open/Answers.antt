use Rattle.std.proofs.Common.{◌≡◌, ℕ, ◌<◌, ◌≤◌, get_or, Some, None, Option, MatchOption, arith, rules}
use borrow.Author.Tests.{tests}
use Rattle.std.proofs.lemmas.Iterator.{first_from_Range, serves_from_Range}
use Rattle.trail.specs.Cells.{values_of}
use Rattle.trail.specs.Values.{Values}
use Rattle.trail.proofs.Memory.{none_of, value_any}
use Rattle.propagating.proofs.memory.first_open.Goals as goal

pub find-requires : goal.find-requires
find-requires c = record { can = tt; finite = tt; callable = serves_from_Range (λ x q k. search (rules, tests)) (λ x low high. search rules) }

abbrev Open : Values → ℕ → Type 0
Open vs i = get_or vs i None ≡ None

-- that none before it is open is not asked
found : (vs : Values) (from to : ℕ) (o : Option ℕ) → MatchOption o ((j : ℕ) → from ≤ j → j < to → Open vs j → ⊥) (λ i. (from ≤ i) × (i < to) × Open vs i × ((j : ℕ) → from ≤ j → j < i → Open vs j → ⊥))
    → MatchOption o ((j : ℕ) → from ≤ j → j < to → Open vs j → ⊥) (λ i. (i < to) × Open vs i)
found vs from to None h = h
found vs from to (Some i) h = (h.1, h.2)

pub returns : goal.returns
returns c =
    let vs = values_of c.args.slots.now in
    found vs c.args.from c.args.to c.find.result
    (first_from_Range _ _ _ _ (Open vs) (λ i. Open vs i → ⊥) c.find.ensures.ran (λ x q k. grind (arith, tests, none_of, value_any)) (λ x q k. (search rules, grind (arith, tests, none_of, value_any))))
