-- A clause of a search that was looked at: what its status says, and where its literal goes.
use Rattle.std.proofs.Common.{◌≡◌, ℕ, ◌+◌, ◌<◌, ◌≤◌, true, false, List, [], ◌∷◌, ◌++◌, length, get_or, take, drop, vec_items, vec_capacity, refl, sym, ap, ◌∙◌, subst, append_assoc, arith}
use Rattle.std.proofs.lemmas.List.{append-nil, take_more_set}
use Rattle.std.proofs.lemmas.List.Elements.{All-nil, All-cons, All-append}
use Rattle.clause.specs.Logic.{Row, Clause, some_outside, all_hold, all_inside, negation}
use Rattle.clause.specs.Memory.{Begins, encode}
use Rattle.clause.proofs.Inside.{Within, within}
use Rattle.clause.specs.declared.literal.Literal.{Literal}
use Rattle.trail.specs.Cells.{values_of, entries_of, literals_of, formula, size_at, clause_at, empty_word, empty_entry}
use Rattle.trail.specs.Values.{status}
use Rattle.trail.specs.declared.cells.Entry.{Entry}
use Rattle.trail.specs.declared.cells.Slot.{Slot}
use Rattle.trail.specs.declared.cells.Word.{Word}
use Rattle.trail.specs.declared.status.Status.TheVariants.{Unit, Falsified}
use Rattle.trail.proofs.Looks.{there, begins_here}
use Rattle.trail.proofs.Slots.{field_at}
use Rattle.trail.proofs.Soundness.{fresh_at, pushed}
use Rattle.trail.specs.Debt.{debt}
use Rattle.trail.specs.Trail.{Trail, literal_at}
use Rattle.trail.proofs.Verdicts.{MayPut, may_put, conflict}
use Rattle.propagating.specs.declared.search.Search.{Search}
use Rattle.propagating.specs.Parts.{clauses_in, values_in, trail_in, owes, MayPush, Pushes, Refutes, Keeps, GoesOn, Goes}
use Rattle.propagating.proofs.Lent.{Put, Further, further}

abbrev BeginsIn : Search → ℕ → Type 0
BeginsIn s head = Begins s.slots.len (literals_of s.words.items) (clauses_in s) head

-- a literal that may be put on the trail
abbrev pub MayPutIn : Search → Literal → Type 0
MayPutIn s l = MayPut s.slots.len (clauses_in s) s.progress.trail (values_in s) (entries_of s.slots.items) l

-- The clause lies in the words, lent as a slice, and is over the variables, whose slots are lent.
pub clause_fits : (s : Search) (head : ℕ) (words : List Word) → BeginsIn s head → words ≡ s.words.items → (head < length words) × (head + 1 + size_at words head ≤ length words)
clause_fits s head words b w =
    let t = there s.slots.len s.words.items head b in
    subst (λ ws. (head < length ws) × (head + 1 + size_at ws head ≤ length ws)) (sym w) (t.clause.below, t.clause.within)

same_clause : (s : Search) (head : ℕ) (words clause : List Word) → words ≡ s.words.items → clause ≡ clause_at words head → literals_of clause ≡ literals_of (clause_at s.words.items head)
same_clause s head words clause w e = ap literals_of (e ∙ ap (λ ws. clause_at ws head) w)

pub clause_inside : (s : Search) (head : ℕ) (words clause : List Word) (v : ℕ) → BeginsIn s head → words ≡ s.words.items → clause ≡ clause_at words head → v ≡ s.slots.len
    → some_outside v (literals_of clause) ≡ false
clause_inside s head words clause v b w e l =
    let t = there s.slots.len s.words.items head b in
    ap (λ k. some_outside k (literals_of clause)) l ∙ ap (some_outside s.slots.len) (same_clause s head words clause w e) ∙ t.clause.inside

-- A clause that is false refutes the trail, and one with a single open literal forces that.
pub refuted_there : (s : Search) (head : ℕ) (words clause : List Word) (slots : List Slot) → BeginsIn s head → words ≡ s.words.items → clause ≡ clause_at words head → slots ≡ s.slots.items
    → Falsified ≡ status (values_of slots) (literals_of clause) → Refutes s
refuted_there s head words clause slots b w e k u =
    let t = there s.slots.len s.words.items head b in
    conflict s.slots.len (clauses_in s) s.progress.trail (values_in s) (entries_of s.slots.items) (literals_of (clause_at s.words.items head)) s.standing t.entailed
    (sym (u ∙ ap (λ x. status (values_of x) (literals_of clause)) k ∙ ap (status (values_in s)) (same_clause s head words clause w e)))

pub unit_there : (s : Search) (head : ℕ) (words clause : List Word) (slots : List Slot) (l : Literal) → BeginsIn s head → words ≡ s.words.items → clause ≡ clause_at words head → slots ≡ s.slots.items
    → Unit l ≡ status (values_of slots) (literals_of clause) → MayPutIn s l
unit_there s head words clause slots l b w e k u =
    let t = there s.slots.len s.words.items head b in
    may_put s.slots.len (clauses_in s) s.progress.trail (values_in s) (entries_of s.slots.items) (literals_of (clause_at s.words.items head)) l s.standing t.entailed t.clause.inside
    (sym (u ∙ ap (λ x. status (values_of x) (literals_of clause)) k ∙ ap (status (values_in s)) (same_clause s head words clause w e)))

-- The literal is put last.
pub further_in : (s : Search) (e : Entry) (ss : List Slot) → MayPush s e → Put s.progress.trail e s.slots.items ss → Further s.slots.len (clauses_in s) s.progress.trail s.slots.items (s.progress.trail + 1) ss
further_in s e ss m p =
    further s.slots.len (clauses_in s) s.progress.trail e s.slots.items ss p (pushed s.slots.len (clauses_in s) s.progress.trail (values_in s) (entries_of s.slots.items) e s.standing m.inside m.opened m.forced)

-- From a place on the words hold a rest of the clause list, which holds wherever the list does.
pub record Rest (s : Search) (head : ℕ) : Type 0 where
  pub rest : List Clause
  pub here : drop head (literals_of s.words.items) ≡ encode rest
  pub inside : all_inside s.slots.len rest ≡ true
  pub entailed : (row : Row) → all_hold row (clauses_in s) ≡ true → all_hold row rest ≡ true

pub all_rest : (s : Search) → Rest s 0
all_rest s = record { rest = clauses_in s; here = sym s.loaded.coded; inside = s.loaded.inside; entailed = λ row m. m }

pub rest_begins : (s : Search) (head : ℕ) → Rest s head → head < length s.words.items → BeginsIn s head
rest_begins s head r h = begins_here s.slots.len s.words.items head r.rest h r.here r.inside r.entailed

-- the number of literals as the code reads it
size_read : (ws : List Word) (head : ℕ) (w : Word) → head < length ws → w ≡ get_or ws head w → w.literal.variable ≡ size_at ws head
size_read ws head w h e = ap (λ x. x.literal.variable) e ∙ field_at (λ x. x.literal.variable) ws head w 0 h ∙ sym (field_at (λ x. x.literal.variable) ws head empty_word 0 h)

-- past the next clause, after it was looked at
pub record Next (s t : Search) (head : ℕ) (w : Word) : Type 0 where
  pub fits : head + 1 + w.literal.variable ≤ t.words.len
  pub rest : Rest t (head + 1 + w.literal.variable)

pub next_rest : (s t : Search) (head : ℕ) (w : Word) → Rest s head → head < length s.words.items → Keeps s t → w ≡ get_or t.words.items head w → Next s t head w
next_rest s t head w r h k e =
    let b = there s.slots.len s.words.items head (rest_begins s head r h) in
    let words = ap vec_items k.words in
    let size : w.literal.variable ≡ size_at s.words.items head = size_read t.words.items head w (omega (arith, ap length words)) e ∙ ap (λ ws. size_at ws head) words in
    record {
      fits = omega (arith, b.clause.within, size, ap length words, t.words.ok.0);
      rest = record {
        rest = b.clause.later;
        here = ap (λ ws. drop (head + 1 + w.literal.variable) (literals_of ws)) words ∙ ap (λ n. drop (head + 1 + n) (literals_of s.words.items)) size ∙ b.clause.goes_on;
        inside = ap (λ n. all_inside n b.clause.later) k.variables ∙ b.clause.later_inside;
        entailed = λ row m. b.later row (sym (ap (λ ws. all_hold row (formula ws)) words) ∙ m);
      };
    }

-- a literal of the trail
pub trailed : (s : Search) (k : ℕ) (x : Slot) (l : Literal) → k < s.progress.trail → x ≡ get_or s.slots.items k x → l ≡ negation x.entry.literal → Within s.slots.len l.variable
trailed s k x l h e n =
    let es = entries_of s.slots.items in
    let fr = fresh_at s.slots.len es s.progress.trail k (omega (arith, s.standing.short, s.standing.entries_long)) h s.standing.fresh in
    let w = within s.slots.len (literal_at es k).variable fr.0 in
    let same : x.entry.literal ≡ literal_at es k = ap (λ y. y.entry.literal) e ∙ ap (λ y. y.literal) (field_at (λ y. y.entry) s.slots.items k x empty_entry (omega (arith, s.standing.short, s.slots.ok.0))) in
    let number : l.variable ≡ (literal_at es k).variable = ap (λ y. y.variable) n ∙ ap (λ y. y.variable) same in
    record { low = omega (arith, w.low); high = omega (arith, w.high) }

-- A trail that goes on by no literal, by one, and by one part after another.
abbrev IsForced : Entry → Type 0
IsForced e = e.decided ≡ false

on_none : (t u : Trail) → u ≡ t → GoesOn t u
on_none t u e = record { more = []; trail = e ∙ sym (append-nil t); forced = All-nil IsForced }

on_one : (t u : Trail) (e : Entry) → u ≡ t ++ (e ∷ []) → e.decided ≡ false → GoesOn t u
on_one t u e p f = record { more = e ∷ []; trail = p; forced = All-cons IsForced e [] f (All-nil IsForced) }

on_then : (t u w : Trail) → GoesOn t u → GoesOn u w → GoesOn t w
on_then t u w p q =
    record {
      more = p.more ++ q.more;
      trail = q.trail ∙ ap (λ x. x ++ q.more) p.trail ∙ append_assoc t p.more q.more;
      forced = All-append IsForced p.more q.more p.forced q.forced;
    }

-- the trail with a literal put last
pushed_trail : (s t : Search) (e : Entry) → Keeps s t → Pushes s e t → trail_in t ≡ trail_in s ++ (e ∷ [])
pushed_trail s t e k p =
    let lt : s.progress.trail < length (entries_of s.slots.items) = omega (arith, s.standing.entries_long, t.standing.short, p.trail, k.variables) in
    ap (λ n. take n (entries_of t.slots.items)) p.trail ∙ ap (take (s.progress.trail + 1)) p.entries ∙ take_more_set (entries_of s.slots.items) s.progress.trail e lt

-- The formula and the trail left as they were, a forced literal put on the trail, and one part after another.
pub goes_same : (s t : Search) → t.words ≡ s.words → t.slots ≡ s.slots → t.progress.trail ≡ s.progress.trail → Goes s t
goes_same s t w l n =
    let same : trail_in t ≡ trail_in s = ap (λ ss. take t.progress.trail (entries_of ss.items)) l ∙ ap (λ k. take k (entries_of s.slots.items)) n in
    let owed : owes t ≡ owes s = ap (λ ss. debt ss.len (trail_in t)) l ∙ ap (debt s.slots.len) same in
    record { keeps = record { words = w; variables = ap (λ ss. ss.len) l; room = ap vec_capacity l }; debt = omega (arith, owed); onward = on_none _ _ same }

pub goes_none : (s : Search) → Goes s s
goes_none s = goes_same s s refl refl refl

pub goes_forced : (s t : Search) (e : Entry) → Keeps s t → owes t + 1 ≤ owes s → Pushes s e t → e.decided ≡ false → Goes s t
goes_forced s t e k d p f = record { keeps = k; debt = omega (arith, d); onward = on_one _ _ e (pushed_trail s t e k p) f }

pub goes_then : (s t u : Search) → Goes s t → Goes t u → Goes s u
goes_then s t u p q =
    record { keeps = record { words = q.keeps.words ∙ p.keeps.words; variables = q.keeps.variables ∙ p.keeps.variables; room = q.keeps.room ∙ p.keeps.room }; debt = omega (arith, p.debt, q.debt); onward = on_then _ _ _ p.onward q.onward }
