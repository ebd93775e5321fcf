-- A circuit has exactly one list of net values at each setting and input word.
use Rattle.std.specs.Prelude.{◌≡◌, ℕ, Bool, List}
use Rattle.circuit.specs.Gates.{Sheet, Lawful}
use Rattle.meaning.specs.Meaning.{Holds, the_nets}

pub record OneMeaning : Type 0 where
  pub holds : (s : Sheet) → Lawful s → (setting word : ℕ) → Holds s setting word (the_nets s setting word)
  pub alone : (s : Sheet) → Lawful s → (setting word : ℕ) (values : List Bool) → Holds s setting word values → values ≡ the_nets s setting word
