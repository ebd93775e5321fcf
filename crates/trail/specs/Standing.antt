-- What holds of a search between its parts, and what each part does to it.
use Rattle.std.specs.Prelude.{◌≡◌, ℕ, ◌+◌, ◌<◌, ◌≤◌, true, false, List, length, take, slice_index, slice_set}
use Rattle.clause.specs.Logic.{Clause, all_inside, negation}
use Rattle.clause.specs.Memory.{encode, is_head}
use Rattle.trail.specs.Cells.{literals_of, heads_of, formula}
use Rattle.trail.specs.declared.cells.Word.{Word}
use Rattle.trail.specs.Values.{Values, assign}
use Rattle.trail.specs.Trail.{Trail, written, Fresh, Sound, entry_at, literal_at}

-- values and positions of v variables, n of which are on the trail
pub record Standing (v : ℕ) (cs : List Clause) (n : ℕ) (vs : Values) (es : Trail) : Type 0 where
  pub values_long : length vs ≡ v
  pub entries_long : length es ≡ v
  pub short : n ≤ v
  pub written : vs ≡ written v (take n es)
  pub fresh : Fresh v (take n es)
  pub sound : Sound v cs (take n es)

-- words of memory that hold a clause list over v variables, each word with its clause's head
pub record Loaded (v : ℕ) (words : List Word) : Type 0 where
  pub coded : encode (formula words) ≡ literals_of words
  pub inside : all_inside v (formula words) ≡ true
  pub headed : (w : ℕ) → w < length words → is_head (formula words) (slice_index (heads_of words) w) ≡ true

-- the trail was taken back to its last open decision, at position p, which was taken off too
pub record BackTo (v n p : ℕ) (es : Trail) (vs' : Values) : Type 0 where
  pub below : p < n
  pub decided : (entry_at es p).decided ≡ true
  pub forced : (i : ℕ) → p < i → i < n → (entry_at es i).decided ≡ false
  pub written : vs' ≡ written v (take p es)

-- the last open decision, at position p, is reversed: its negation stands there, forced, and ends the trail
pub record Reversed (v n : ℕ) (es : Trail) (n' : ℕ) (vs' : Values) (es' : Trail) : Type 0 where
  pub p : ℕ
  pub back : BackTo v n p es (written v (take p es))
  pub trail : n' ≡ p + 1
  pub values : vs' ≡ assign (written v (take p es)) (negation (literal_at es p))
  pub entries : es' ≡ slice_set es p (record { literal = negation (literal_at es p); decided = false })

-- no decision is open
abbrev pub AllForced : ℕ → Trail → Type 0
AllForced n es = (i : ℕ) → i < n → (entry_at es i).decided ≡ false
