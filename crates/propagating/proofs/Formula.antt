-- What always holds of a search, where its formula changes and its trail stays.
use Rattle.std.proofs.Common.{◌≡◌, ℕ, zero, suc, ◌+◌, ◌-◌, Bool, true, false, cond, List, [], ◌∷◌, ◌++◌, length, take, drop, replicate, None, refl, sym, ap, ◌∙◌, subst, arith, take_at}
use lib.ListN.{length-map, length-replicate}
use Rattle.std.proofs.lemmas.List.{map-append, take-append-le, take_all}
use Rattle.clause.specs.Logic.{Clause, words, some_outside, all_inside}
use Rattle.clause.specs.Memory.{head}
use Rattle.clause.proofs.Inside.{inside_more}
use Rattle.clause.proofs.Coding.{coded_words}
use borrow.Author.Tests.{both_ways}
use Rattle.trail.specs.Cells.{values_of, entries_of, literals_of, heads_of, formula, empty_slot}
use Rattle.trail.specs.Standing.{Standing, Loaded}
use Rattle.trail.specs.Trail.{Trail}
use Rattle.trail.specs.Values.{Values}
use Rattle.trail.specs.declared.cells.Slot.{Slot}
use Rattle.trail.specs.declared.cells.Word.{Word}
use Rattle.trail.proofs.Growing.{standing_longer, standing_wider}
use Rattle.trail.proofs.Stores.{loaded_more}
use Rattle.propagating.specs.declared.search.Search.{Search}
use Rattle.propagating.specs.Parts.{clauses_in, values_in, trail_in}

-- the invariants, as an answer gives them
abbrev pub Kept : ℕ → List Word → ℕ → List Slot → Type 0
Kept v ws n ss = record { loaded : Loaded v ws; standing : Standing v (formula ws) n (values_of ss) (entries_of ss) }

values_empty : (k : ℕ) → values_of (replicate k empty_slot) ≡ replicate k None
values_empty zero = refl
values_empty (suc k) = ap (λ vs. None ∷ vs) (values_empty k)

values_wider : (k : ℕ) (ss : List Slot) → values_of (ss ++ replicate k empty_slot) ≡ values_of ss ++ replicate k None
values_wider k ss = map-append (λ s. s.value) ss (replicate k empty_slot) ∙ ap (λ x. values_of ss ++ x) (values_empty k)

-- slots that were made more by so many
pub resized : (ss new : List Slot) (len k m : ℕ) (x : Slot) (ok : Bool) → ok ≡ true → x ≡ empty_slot → new ≡ cond ok (take m ss ++ replicate (m - len) x) ss → m ≡ len + k → len ≡ length ss
    → new ≡ ss ++ replicate k empty_slot
resized ss new len k m x false o d e n l = absurd (both_ways false refl o)
resized ss new len k m x true o d e n l =
    let more : m - len ≡ k = omega arith in
    e ∙ ap (λ y. y ++ replicate (m - len) x) (take_all m ss (omega arith)) ∙ ap (λ j. ss ++ replicate j x) more ∙ ap (λ y. ss ++ replicate k y) d

-- the words that the clauses take
pub sized : (s : Search) → words (clauses_in s) ≡ s.words.len
sized s = coded_words (literals_of s.words.items) s.loaded.coded ∙ length-map s.words.items (λ w. w.literal) ∙ sym s.words.ok.0

-- what stands over some clauses, values and positions stands over equal ones
standing_as : (v w : ℕ) (cs ds : List Clause) (n : ℕ) (vs ws : Values) (es fs : Trail) → w ≡ v → ds ≡ cs → ws ≡ vs → fs ≡ es → Standing v cs n vs es → Standing w ds n ws fs
standing_as v w cs ds n vs ws es fs a b c d s =
    subst (λ x. Standing w ds n ws x) (sym d) (subst (λ x. Standing w ds n x es) (sym c) (subst (λ x. Standing w x n vs es) (sym b) (subst (λ x. Standing x cs n vs es) (sym a) s)))

-- more variables, all open
pub wider : (s : Search) (k : ℕ) (ss : List Slot) (v : ℕ) → v ≡ s.slots.len + k → ss ≡ s.slots.items ++ replicate k empty_slot
    → Kept v s.words.items s.progress.trail ss × (take s.progress.trail (entries_of ss) ≡ trail_in s)
wider s k ss v l e =
    let es : Trail = entries_of s.slots.items in
    let more : Trail = entries_of (replicate k empty_slot) in
    let entries : entries_of ss ≡ es ++ more = ap entries_of e ∙ map-append (λ x. x.entry) s.slots.items (replicate k empty_slot) in
    let long : length more ≡ k = length-map (replicate k empty_slot) (λ x. x.entry) ∙ length-replicate k empty_slot in (
      record {
        loaded = record { coded = s.loaded.coded; inside = ap (λ n. all_inside n (clauses_in s)) l ∙ inside_more s.slots.len k (clauses_in s) s.loaded.inside; headed = s.loaded.headed };
        standing = standing_as (s.slots.len + k) v (clauses_in s) (clauses_in s) s.progress.trail (values_in s ++ replicate k None) (values_of ss) (es ++ more) (entries_of ss) l refl (ap values_of e ∙ values_wider k s.slots.items) entries
            (standing_wider s.slots.len k (clauses_in s) s.progress.trail (values_in s) es more s.loaded.inside long s.standing);
      },
      ap (take s.progress.trail) entries ∙ take-append-le s.progress.trail es more (omega (arith, s.standing.short, s.standing.entries_long)),
    )

-- one clause more, where the slots were lent
pub record Longer (s : Search) (c : Clause) (ss : List Slot) (ws : List Word) : Type 0 where
  pub kept : Kept s.slots.len ws s.progress.trail ss
  pub clauses : formula ws ≡ clauses_in s ++ (c ∷ [])
  pub trail : take s.progress.trail (entries_of ss) ≡ trail_in s

pub longer : (s : Search) (c : Clause) (lent new : List Slot) (ws : List Word) → lent ≡ s.slots.items → length new ≡ s.slots.len → values_of new ≡ values_of lent → entries_of new ≡ entries_of lent → some_outside s.slots.len c ≡ false
    → literals_of ws ≡ literals_of s.words.items ++ (head (length c) ∷ c) → heads_of ws ≡ heads_of s.words.items ++ replicate (1 + length c) s.words.len
    → Longer s c (take s.slots.len (new ++ drop (length new) s.slots.items)) ws
longer s c lent new ws t l e f o a b =
    let m = loaded_more s.slots.len s.words.items ws c s.loaded o a (b ∙ ap (λ k. heads_of s.words.items ++ replicate (1 + length c) k) s.words.ok.0) in
    let back = take_at new (drop (length new) s.slots.items) s.slots.len l in
    let entries = ap entries_of back ∙ f ∙ ap entries_of t in
    record {
      kept = record {
        loaded = m.0;
        standing = standing_as s.slots.len s.slots.len (clauses_in s ++ (c ∷ [])) (formula ws) s.progress.trail (values_in s) _ (entries_of s.slots.items) _ refl m.1 (ap values_of back ∙ e ∙ ap values_of t) entries
            (standing_longer s.slots.len (clauses_in s) c s.progress.trail (values_in s) (entries_of s.slots.items) s.standing);
      };
      clauses = m.1;
      trail = ap (take s.progress.trail) entries;
    }
