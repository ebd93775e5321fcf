-- What was found before the middle, in terms of all slots, where none was found after it.
use Rattle.std.proofs.Common.{◌≡◌, ℕ, ◌<◌, ◌≤◌, ◌⊎◌, length, get_or, Some, None, Option, sym, inl, inr, MatchOption, arith}
use lib.ListN.{length-map}
use Rattle.std.proofs.lemmas.Bool.{cases_lt}
use Rattle.trail.specs.Cells.{values_of}
use Rattle.trail.specs.Values.{Values}
use Rattle.propagating.proofs.memory.choose.Goals as goal

chosen : (vs : Values) (n middle : ℕ) (o : Option ℕ) → n ≡ length vs → middle ≤ n → ((j : ℕ) → middle ≤ j → j < n → get_or vs j None ≡ None → ⊥)
    → MatchOption o ((j : ℕ) → 0 ≤ j → j < middle → get_or vs j None ≡ None → ⊥) (λ i. (i < middle) × (get_or vs i None ≡ None))
    → MatchOption o ((j : ℕ) → j < length vs → get_or vs j None ≡ None → ⊥) (λ i. (i < n) × (get_or vs i None ≡ None))
chosen vs n middle (Some i) l m later now = (omega (arith, now.0), now.1)
chosen vs n middle None l m later now = λ j h e. go j h e (cases_lt j middle)
  where
    go : (j : ℕ) → j < length vs → get_or vs j None ≡ None → (j < middle) ⊎ (middle ≤ j) → ⊥
    go j h e (inl lt) = now j (omega arith) lt e
    go j h e (inr ge) = later j ge (omega arith) e

pub returns-in-None : goal.returns-in-None
returns-in-None c =
    let ss = c.args.slots.now in
    chosen (values_of ss) (length ss) c.min-middle.result c.first_open-in-None.result (sym (length-map ss (λ s. s.value))) (omega (arith, c.min-middle.ensures)) c.in-None.ensures c.first_open-in-None.ensures
