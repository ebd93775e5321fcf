-- A search stands as well over one clause more, and over more variables, which are open.
use Rattle.std.proofs.Common.{◌≡◌, ℕ, suc, ◌+◌, ◌-◌, ◌<◌, Bool, true, false, cond, not, List, [], ◌∷◌, ◌++◌, length, get_or, take, replicate, None, Option, refl, sym, ap, ◌∙◌, subst, arith, length-append, length-set, length-take}
use lib.ListN.{length-replicate}
use Rattle.std.proofs.lemmas.List.{take-append-le, get_or-take, get_or_append_left, set-append_left, replicate-append-replicate}
use Rattle.clause.specs.Logic.{Row, Clause, literal_holds, clause_holds, all_hold, outside, some_outside, all_inside}
use Rattle.clause.specs.declared.literal.Literal.{Literal}
use Rattle.clause.proofs.Inside.{within, not_outside, either_false, both_true, all_true}
use Rattle.trail.specs.Cells.{empty_entry}
use Rattle.trail.specs.Values.{Values, assign, value_so_far}
use Rattle.trail.specs.Trail.{Trail, after, written, Fresh, Sound, agrees, literal_at}
use Rattle.trail.specs.Standing.{Standing}
use Rattle.trail.proofs.Counting.{length_written}

-- One clause more leaves fewer models.
holds_push : (row : Row) (cs : List Clause) (c : Clause) → all_hold row (cs ++ (c ∷ [])) ≡ true → all_hold row cs ≡ true
holds_push row [] c h = refl
holds_push row (d ∷ cs) c h =
    let both = all_true (clause_holds row d) (all_hold row (cs ++ (c ∷ []))) h in
    let first = both.0 in
    rw first (holds_push row cs c both.1)

pub standing_longer : (v : ℕ) (cs : List Clause) (c : Clause) (n : ℕ) (vs : Values) (es : Trail) → Standing v cs n vs es → Standing v (cs ++ (c ∷ [])) n vs es
standing_longer v cs c n vs es s =
    record {
      values_long = s.values_long;
      entries_long = s.entries_long;
      short = s.short;
      written = s.written;
      fresh = s.fresh;
      sound = λ row i r. s.sound row i (record { solves = record { long = r.solves.long; holds = holds_push row cs c r.solves.holds }; within = r.within; forced = r.forced; agrees = r.agrees });
    }

-- Literals of the variables 1 to v hold by a row's first v values.
literal_front : (v : ℕ) (row : Row) (l : Literal) → outside v l.variable ≡ false → literal_holds (take v row) l ≡ literal_holds row l
literal_front v row l o =
    let w = within v l.variable o in
    let same : get_or (take v row) (l.variable - 1) false ≡ get_or row (l.variable - 1) false = get_or-take v row (l.variable - 1) false (omega (arith, w.low, w.high)) in
    ap (λ b. cond l.negated (not b) b) same

clause_front : (v : ℕ) (row : Row) (c : Clause) → some_outside v c ≡ false → clause_holds (take v row) c ≡ clause_holds row c
clause_front v row [] o = refl
clause_front v row (l ∷ c) o =
    let parts = either_false (outside v l.variable) (some_outside v c) o in
    ap (λ b. cond b true (clause_holds (take v row) c)) (literal_front v row l parts.0) ∙ ap (λ b. cond (literal_holds row l) true b) (clause_front v row c parts.1)

all_front : (v : ℕ) (row : Row) (cs : List Clause) → all_inside v cs ≡ true → all_hold (take v row) cs ≡ all_hold row cs
all_front v row [] o = refl
all_front v row (c ∷ cs) o =
    let both = both_true (some_outside v c) (all_inside v cs) o in
    ap (λ b. cond b (all_hold (take v row) cs) false) (clause_front v row c both.0) ∙ ap (λ b. cond (clause_holds row c) b false) (all_front v row cs both.1)

-- each position's variable is one of 1 to v
abbrev Inside : ℕ → Trail → Type 0
Inside v t = (i : ℕ) → i < length t → outside v (literal_at t i).variable ≡ false

inside_take : (v : ℕ) (t : Trail) (k : ℕ) → Inside v t → Inside v (take k t)
inside_take v t k f i h =
    let long = length-take k t in
    ap (λ e. outside v e.literal.variable) (get_or-take k t i empty_entry (omega arith)) ∙ f i (omega arith)

agrees_front : (v : ℕ) (row : Row) (t : Trail) → Inside v t → agrees (take v row) t ≡ agrees row t
agrees_front v row [] f = refl
agrees_front v row (e ∷ t) f =
    ap (λ b. cond b (agrees (take v row) t) false) (literal_front v row e.literal (f 0 (omega arith)))
    ∙ ap (λ b. cond (literal_holds row e.literal) b false) (agrees_front v row t (λ i h. f (suc i) (omega arith)))

-- What the trail writes into the first v values, it writes there with more after them.
after_front : (vs more : Values) (t : Trail) → ((i : ℕ) → i < length t → (literal_at t i).variable - 1 < length vs) → after (vs ++ more) t ≡ after vs t ++ more
after_front vs more [] f = refl
after_front vs more (e ∷ t) f =
    ap (λ x. after x t) (set-append_left vs more (e.literal.variable - 1) _ (f 0 (omega arith)))
    ∙ after_front (assign vs e.literal) more t (λ i h. let long : length (assign vs e.literal) ≡ length vs = length-set vs (e.literal.variable - 1) _ in omega (arith, f (suc i) (omega arith)))

written_wider : (v k : ℕ) (t : Trail) → Inside v t → written (v + k) t ≡ written v t ++ replicate k None
written_wider v k t f =
    ap (λ x. after x t) (sym (replicate-append-replicate v k None))
    ∙ after_front (replicate v None) (replicate k None) t (λ i h. let w = within v (literal_at t i).variable (f i h) in omega (arith, w.low, w.high, length-replicate {A = Option Bool} v None))

fresh_wider : (v k : ℕ) (t : Trail) → Fresh v t → Fresh (v + k) t
fresh_wider v k t f i h =
    let fr = f i h in
    let w = within v (literal_at t i).variable fr.0 in (
      not_outside (v + k) (literal_at t i).variable w.low (omega (arith, w.high)),
      ap (λ x. value_so_far x (literal_at t i).variable) (written_wider v k (take i t) (inside_take v t i (λ j l. (f j l).0)))
          ∙ get_or_append_left (written v (take i t)) (replicate k None) None ((literal_at t i).variable - 1) (omega (arith, w.low, w.high, length_written v (take i t)))
          ∙ fr.1,
    )

sound_wider : (v k : ℕ) (cs : List Clause) (t : Trail) → all_inside v cs ≡ true → Inside v t → Sound v cs t → Sound (v + k) cs t
sound_wider v k cs t o f s row i r =
    sym (literal_front v row (literal_at t i) (f i r.within))
    ∙ s (take v row) i (record {
      solves = record { long = omega (arith, length-take v row, r.solves.long); holds = all_front v row cs o ∙ r.solves.holds };
      within = r.within;
      forced = r.forced;
      agrees = agrees_front v row (take i t) (inside_take v t i f) ∙ r.agrees;
    })

pub standing_wider : (v k : ℕ) (cs : List Clause) (n : ℕ) (vs : Values) (es more : Trail) → all_inside v cs ≡ true → length more ≡ k → Standing v cs n vs es
    → Standing (v + k) cs n (vs ++ replicate k None) (es ++ more)
standing_wider v k cs n vs es more o l s =
    let front : take n (es ++ more) ≡ take n es = take-append-le n es more (omega (arith, s.short, s.entries_long)) in
    record {
      values_long = omega (arith, length-append vs (replicate k None), length-replicate {A = Option Bool} k None, s.values_long);
      entries_long = omega (arith, length-append es more, s.entries_long);
      short = omega (arith, s.short);
      written = ap (λ x. x ++ replicate k None) s.written ∙ sym (written_wider v k (take n es) (λ i h. (s.fresh i h).0)) ∙ ap (written (v + k)) (sym front);
      fresh = subst (Fresh (v + k)) (sym front) (fresh_wider v k (take n es) s.fresh);
      sound = subst (Sound (v + k) cs) (sym front) (sound_wider v k cs (take n es) o (λ i h. (s.fresh i h).0) s.sound);
    }
