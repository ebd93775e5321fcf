-- A clause in memory read word by word, under the values so far.
use Rattle.std.proofs.Common.{◌≡◌, ℕ, ◌+◌, ◌-◌, ◌<◌, ◌≤◌, Bool, true, false, cond, List, ◌∷◌, length, get_or, take, drop, is_some, Some, None, Option, unwrap_or, sym, refl, ap, ◌∙◌, arith}
use borrow.Author.Tests.{both_ways}
use lib.ListN.{length-map}
use Rattle.std.proofs.lemmas.List.{drop_more, drop_all, take-map, drop-map}
use Rattle.clause.specs.Logic.{Row, Clause, some_outside, all_inside, clause_holds, all_hold, value}
use Rattle.clause.specs.Memory.{Begins, encode, is_head}
use Rattle.clause.proofs.Coding.{front, begins_at}
use Rattle.clause.specs.declared.literal.Literal.{Literal}
use Rattle.clause.proofs.Inside.{inside_at, all_true, both_true}
use Rattle.trail.specs.Cells.{values_of, literals_of, heads_of, empty_literal, formula, size_at, clause_at, empty_slot, empty_word}
use Rattle.trail.specs.Values.{Values, either, truth, status_from, row_of}
use Rattle.trail.specs.Standing.{Loaded}
use Rattle.trail.specs.declared.cells.Slot.{Slot}
use Rattle.trail.specs.declared.cells.Word.{Word}
use Rattle.trail.specs.declared.status.Status.{Status}
use Rattle.trail.specs.declared.status.Status.TheVariants.{Satisfied, Unresolved, Unit, Falsified}
use Rattle.trail.proofs.Slots.{field_at}
use Rattle.trail.proofs.Memory.{value_any}
use Rattle.trail.proofs.Verdicts.{Entailed, row_value}

pub word_read : (ws : List Word) (i : ℕ) → i < length ws → (get_or ws i empty_word).literal ≡ get_or (literals_of ws) i empty_literal
word_read ws i h = field_at (λ w. w.literal) ws i empty_word empty_literal h

pub literals_long : (ws : List Word) → length (literals_of ws) ≡ length ws
literals_long ws = length-map ws (λ w. w.literal)

-- the rest of a clause from a place on
pub rest_at : (ws : List Word) (i : ℕ) → i < length ws → drop i (literals_of ws) ≡ (get_or ws i empty_word).literal ∷ drop (i + 1) (literals_of ws)
rest_at ws i h = drop_more (literals_of ws) i empty_literal (omega (arith, literals_long ws)) ∙ ap (λ x. x ∷ drop (i + 1) (literals_of ws)) (sym (word_read ws i h))

pub record WordAt (v : ℕ) (ws : List Word) (i : ℕ) : Type 0 where
  pub low : 1 ≤ (get_or ws i empty_word).literal.variable
  pub high : (get_or ws i empty_word).literal.variable ≤ v
  pub rest : some_outside v (drop (i + 1) (literals_of ws)) ≡ false

pub word_at : (v : ℕ) (ws : List Word) (i : ℕ) → i < length ws → some_outside v (drop i (literals_of ws)) ≡ false → WordAt v ws i
word_at v ws i h o =
    let a = inside_at v (literals_of ws) i (omega (arith, literals_long ws)) o in
    let same : (get_or ws i empty_word).literal.variable ≡ (get_or (literals_of ws) i empty_literal).variable = ap (λ l. l.variable) (word_read ws i h) in
    record { low = omega (arith, a.here.low); high = omega (arith, a.here.high); rest = a.rest }

-- the status of what is left, in terms of the truth of its first literal
pub status_at : (vs : Values) (p : Option Literal) (ws : List Word) (i : ℕ) (o : Option Bool) → i < length ws → o ≡ truth vs (get_or ws i empty_word).literal
    → status_from vs p (drop i (literals_of ws))
    ≡ either o (either p (status_from vs (Some (get_or ws i empty_word).literal) (drop (i + 1) (literals_of ws))) (λ _. Unresolved)) (λ holds. cond holds Satisfied (status_from vs p (drop (i + 1) (literals_of ws))))
status_at vs p ws i o h e =
    ap (status_from vs p) (rest_at ws i h)
    ∙ ap (λ x. either x (either p (status_from vs (Some (get_or ws i empty_word).literal) (drop (i + 1) (literals_of ws))) (λ _. Unresolved)) (λ holds. cond holds Satisfied (status_from vs p (drop (i + 1) (literals_of ws))))) (sym e)

pub two_open : (p : Option Literal) (s : Status) → true ≡ is_some p → either p s (λ _. Unresolved) ≡ Unresolved
two_open None s e = absurd (both_ways false refl (sym e))
two_open (Some l) s e = refl

pub one_open : (p : Option Literal) (s : Status) → false ≡ is_some p → either p s (λ _. Unresolved) ≡ s
one_open None s e = refl
one_open (Some l) s e = absurd (both_ways false refl e)

pub status_end : (vs : Values) (p : Option Literal) (ws : List Word) (i : ℕ) → length ws ≤ i → status_from vs p (drop i (literals_of ws)) ≡ either p Falsified Unit
status_end vs p ws i h = ap (status_from vs p) (drop_all i (literals_of ws) (omega (arith, literals_long ws)))

-- The clause at the front of a rest of the list.
pub record NextClause (v : ℕ) (ws : List Word) (head : ℕ) (rest : List Clause) : Type 0 where
  pub below : head < length ws
  pub within : head + 1 + size_at ws head ≤ length ws
  pub inside : some_outside v (literals_of (clause_at ws head)) ≡ false
  pub long : length (clause_at ws head) ≡ size_at ws head
  pub later : List Clause
  pub is : rest ≡ literals_of (clause_at ws head) ∷ later
  pub goes_on : drop (head + 1 + size_at ws head) (literals_of ws) ≡ encode later
  pub later_inside : all_inside v later ≡ true

pub next_clause : (v : ℕ) (ws : List Word) (head : ℕ) (rest : List Clause) → head < length ws → drop head (literals_of ws) ≡ encode rest → all_inside v rest ≡ true → NextClause v ws head rest
next_clause v ws head rest below here inside =
    let f = front (literals_of ws) head rest (omega (arith, literals_long ws)) here in
    let size : size_at ws head ≡ length f.clause = ap (λ l. l.variable) (word_read ws head below) ∙ f.size in
    let part : literals_of (clause_at ws head) ≡ f.clause =
    sym (take-map (λ w. w.literal) (size_at ws head) (drop (head + 1) ws)) ∙ ap (take (size_at ws head)) (sym (drop-map (λ w. w.literal) (head + 1) ws))
    ∙ ap (λ k. take k (drop (head + 1) (literals_of ws))) size ∙ f.reads in
    let both = both_true (some_outside v f.clause) (all_inside v f.later) (sym (ap (all_inside v) f.is) ∙ inside) in
    record {
      below = below;
      within = omega (arith, f.fits, literals_long ws, size);
      inside = ap (some_outside v) part ∙ both.0;
      long = sym (literals_long (clause_at ws head)) ∙ ap length part ∙ sym size;
      later = f.later;
      is = f.is ∙ ap (λ x. x ∷ f.later) (sym part);
      goes_on = ap (λ k. drop (head + 1 + k) (literals_of ws)) size ∙ f.goes_on;
      later_inside = both.1;
    }

-- The clause whose head is there holds wherever the formula does, and so does what comes after it.
pub record There (v : ℕ) (ws : List Word) (head : ℕ) : Type 0 where
  pub rest : List Clause
  pub clause : NextClause v ws head rest
  pub later : (row : Row) → all_hold row (formula ws) ≡ true → all_hold row clause.later ≡ true
  pub entailed : Entailed (formula ws) (literals_of (clause_at ws head))

pub there : (v : ℕ) (ws : List Word) (head : ℕ) → Begins v (literals_of ws) (formula ws) head → There v ws head
there v ws head b =
    let n = next_clause v ws head b.rest (omega (arith, b.below, literals_long ws)) b.here b.inside in
    let split : (row : Row) → all_hold row (formula ws) ≡ true → (clause_holds row (literals_of (clause_at ws head)) ≡ true) × (all_hold row n.later ≡ true) =
    λ row m. all_true (clause_holds row (literals_of (clause_at ws head))) (all_hold row n.later) (sym (ap (all_hold row) n.is) ∙ b.entailed row m) in
    record { rest = b.rest; clause = n; later = λ row m. (split row m).1; entailed = λ row m. (split row m).0 }

-- the rest of the list, from a place on, is where its next clause begins
pub begins_here : (v : ℕ) (ws : List Word) (at : ℕ) (rest : List Clause) → at < length ws → drop at (literals_of ws) ≡ encode rest → all_inside v rest ≡ true
    → ((row : Row) → all_hold row (formula ws) ≡ true → all_hold row rest ≡ true) → Begins v (literals_of ws) (formula ws) at
begins_here v ws at rest h e i m = record { rest = rest; here = e; below = omega (arith, literals_long ws); inside = i; entailed = m }

-- every word's head is one
pub begins_of : (v : ℕ) (ws : List Word) (i : ℕ) (w : Word) → Loaded v ws → i < length ws → w ≡ get_or ws i w → Begins v (literals_of ws) (formula ws) w.head
begins_of v ws i w l h e =
    let same : w.head ≡ get_or (heads_of ws) i 0 = ap (λ x. x.head) e ∙ field_at (λ x. x.head) ws i w 0 h in
    begins_at v (literals_of ws) (formula ws) w.head (sym l.coded) l.inside (ap (is_head (formula ws)) same ∙ l.headed i h)

-- Whether a clause holds, read word by word.
pub value_told : (ss : List Slot) (x i : ℕ) (s : Slot) (b : Bool) → i ≡ x - 1 → s ≡ get_or ss i empty_slot → b ≡ unwrap_or s.value false → b ≡ value (row_of (values_of ss)) x
value_told ss x i s b p h e =
    e ∙ ap (λ y. unwrap_or y.value false) h ∙ ap (λ y. unwrap_or y false) (value_any ss i) ∙ sym (row_value (values_of ss) i) ∙ ap (λ k. get_or (row_of (values_of ss)) k false) p
