-- What keeps a search standing: a literal put on the trail, a conflict, and the return to the last open decision.
use Rattle.std.proofs.Common.{◌≡◌, ℕ, zero, suc, ◌+◌, ◌-◌, ◌<◌, ◌≤◌, Bool, true, false, cond, not, ◌⊎◌, List, [], ◌∷◌, ◌++◌, length, get_or, take, set, None, sym, refl, ap, ◌∙◌, subst, inl, inr, arith, length-set, length-take}
use Rattle.std.proofs.lemmas.List.{take_more, take_more_set, take-take, take_at, take-append-le, get_or-take, get_or_append_left, get_or_push, set-set, set-get_or, length_push}
use Rattle.std.proofs.lemmas.Bool.{cases_lt}
use Rattle.clause.specs.Logic.{Row, Clause, Solves, literal_holds, outside, negation}
use Rattle.clause.specs.declared.literal.Literal.{Literal}
use Rattle.trail.specs.Cells.{empty_entry}
use Rattle.trail.specs.Values.{Values, value_so_far, assign}
use Rattle.trail.specs.Trail.{Trail, written, Fresh, entry_at, literal_at, agrees, Sound, Forces, Refuted}
use Rattle.trail.specs.Debt.{debt}
use Rattle.trail.specs.Standing.{Standing, BackTo, Reversed, AllForced}
use Rattle.trail.specs.declared.cells.Entry.{Entry}
use Rattle.trail.proofs.Fitting.{written_push, agrees_push}
use Rattle.trail.proofs.Counting.{room, written_more, length_written}
use Rattle.trail.proofs.Debts.{debt_push, debt_back}

-- the last position of a longer trail, or one of those before it
pub data LastOr (n i : ℕ) : Type 0 where
  before : i < n → LastOr n i
  last : i ≡ n → LastOr n i

last_or : (n i : ℕ) → i < n + 1 → LastOr n i
last_or n i h = go (cases_lt i n)
  where
    go : (i < n) ⊎ (n ≤ i) → LastOr n i
    go (inl l) = before l
    go (inr l) = last (omega arith)

-- One position more.
sound_push : (v : ℕ) (cs : List Clause) (t : Trail) (e : Entry) → Sound v cs t → (e.decided ≡ false → Forces v cs t e.literal) → Sound v cs (t ++ (e ∷ []))
sound_push v cs t e s f row i r = go (last_or (length t) i (omega (arith, r.within, length_push t e)))
  where
    go : LastOr (length t) i → literal_holds row (literal_at (t ++ (e ∷ [])) i) ≡ true
    go (before h) =
        let same : entry_at (t ++ (e ∷ [])) i ≡ entry_at t i = get_or_append_left t (e ∷ []) empty_entry i h in
        let front : take i (t ++ (e ∷ [])) ≡ take i t = take-append-le i t (e ∷ []) (omega arith) in
        ap (λ x. literal_holds row x.literal) same
        ∙ s row i (record { solves = r.solves; within = h; forced = sym (ap (λ x. x.decided) same) ∙ r.forced; agrees = sym (ap (agrees row) front) ∙ r.agrees })
    go (last h) =
        let same : entry_at (t ++ (e ∷ [])) i ≡ e = get_or_push t e empty_entry i (sym h) in
        let front : take i (t ++ (e ∷ [])) ≡ t = take_at t (e ∷ []) i (sym h) in
        ap (λ x. literal_holds row x.literal) same
        ∙ f (sym (ap (λ x. x.decided) same) ∙ r.forced) row r.solves (sym (ap (agrees row) front) ∙ r.agrees)

fresh_push : (v : ℕ) (t : Trail) (e : Entry) → Fresh v t → outside v e.literal.variable ≡ false → value_so_far (written v t) e.literal.variable ≡ None → Fresh v (t ++ (e ∷ []))
fresh_push v t e f o n i h = go (last_or (length t) i (omega (arith, length_push t e)))
  where
    go : LastOr (length t) i → (outside v (literal_at (t ++ (e ∷ [])) i).variable ≡ false) × (value_so_far (written v (take i (t ++ (e ∷ [])))) (literal_at (t ++ (e ∷ [])) i).variable ≡ None)
    go (before l) =
        let same : entry_at (t ++ (e ∷ [])) i ≡ entry_at t i = get_or_append_left t (e ∷ []) empty_entry i l in
        let front : take i (t ++ (e ∷ [])) ≡ take i t = take-append-le i t (e ∷ []) (omega arith) in
        let fr = f i l in (
          ap (λ x. outside v x.literal.variable) same ∙ fr.0,
          ap (λ x. value_so_far (written v (take i (t ++ (e ∷ [])))) x.literal.variable) same ∙ ap (λ x. value_so_far (written v x) (literal_at t i).variable) front ∙ fr.1,
        )
    go (last l) =
        let same : entry_at (t ++ (e ∷ [])) i ≡ e = get_or_push t e empty_entry i (sym l) in
        let front : take i (t ++ (e ∷ [])) ≡ t = take_at t (e ∷ []) i (sym l) in (
          ap (λ x. outside v x.literal.variable) same ∙ o,
          ap (λ x. value_so_far (written v (take i (t ++ (e ∷ [])))) x.literal.variable) same ∙ ap (λ x. value_so_far (written v x) e.literal.variable) front ∙ n,
        )

-- A part of the trail from its beginning.
sound_take : (v : ℕ) (cs : List Clause) (es : Trail) (n p : ℕ) → p ≤ n → n ≤ length es → Sound v cs (take n es) → Sound v cs (take p es)
sound_take v cs es n p h l s row i r =
    let lt : i < p = omega (arith, r.within, length-take p es) in
    let lt' : i < n = omega arith in
    let a : entry_at (take p es) i ≡ entry_at es i = get_or-take p es i empty_entry lt in
    let b : entry_at (take n es) i ≡ entry_at es i = get_or-take n es i empty_entry lt' in
    let c : take i (take p es) ≡ take i es = take-take i p es (omega arith) in
    let d : take i (take n es) ≡ take i es = take-take i n es (omega arith) in
    ap (λ x. literal_holds row x.literal) (a ∙ sym b)
    ∙ s row i (record { solves = r.solves; within = omega (arith, length-take n es); forced = ap (λ x. x.decided) (b ∙ sym a) ∙ r.forced; agrees = ap (agrees row) (d ∙ sym c) ∙ r.agrees })

-- the same in terms of the positions
pub fresh_at : (v : ℕ) (es : Trail) (n k : ℕ) → n ≤ length es → k < n → Fresh v (take n es)
    → (outside v (literal_at es k).variable ≡ false) × (value_so_far (written v (take k es)) (literal_at es k).variable ≡ None)
fresh_at v es n k l h f =
    let fr = f k (omega (arith, length-take n es)) in
    let b : entry_at (take n es) k ≡ entry_at es k = get_or-take n es k empty_entry h in
    let d : take k (take n es) ≡ take k es = take-take k n es (omega arith) in (
      sym (ap (λ x. outside v x.literal.variable) b) ∙ fr.0,
      sym (ap (λ x. value_so_far (written v (take k (take n es))) x.literal.variable) b ∙ ap (λ x. value_so_far (written v x) (literal_at es k).variable) d) ∙ fr.1,
    )

fresh_take : (v : ℕ) (es : Trail) (n p : ℕ) → p ≤ n → n ≤ length es → Fresh v (take n es) → Fresh v (take p es)
fresh_take v es n p h l f i k =
    let lt : i < p = omega (arith, length-take p es) in
    let fr = fresh_at v es n i l (omega arith) f in
    let a : entry_at (take p es) i ≡ entry_at es i = get_or-take p es i empty_entry lt in
    let c : take i (take p es) ≡ take i es = take-take i p es (omega arith) in (
      ap (λ x. outside v x.literal.variable) a ∙ fr.0,
      ap (λ x. value_so_far (written v (take i (take p es))) x.literal.variable) a ∙ ap (λ x. value_so_far (written v x) (literal_at es i).variable) c ∙ fr.1,
    )

-- Taking the last position off again leaves the values before it.
pub unwritten : (v : ℕ) (es : Trail) (n k : ℕ) → n ≤ length es → k < n → Fresh v (take n es)
    → set (written v (take (k + 1) es)) ((literal_at es k).variable - 1) None ≡ written v (take k es)
unwritten v es n k l h f =
    let fr = fresh_at v es n k l h f in
    let x : ℕ = (literal_at es k).variable - 1 in
    let w : Values = written v (take k es) in
    ap (λ y. set y x None) (written_more v es k (omega arith)) ∙ set-set w x _ None ∙ ap (set w x) (sym fr.1) ∙ set-get_or w x None

-- A literal put on the trail.
pub record Pushed (v : ℕ) (cs : List Clause) (n : ℕ) (es : Trail) (vs' : Values) (es' : Trail) : Type 0 where
  pub standing : Standing v cs (n + 1) vs' es'
  pub owes : debt v (take (n + 1) es') + 1 ≤ debt v (take n es)

pub trail_long : (n : ℕ) (es : Trail) → n ≤ length es → length (take n es) ≡ n
trail_long n es h = omega (arith, length-take n es)

pub not_full : (v : ℕ) (cs : List Clause) (n : ℕ) (vs : Values) (es : Trail) (x : ℕ) → Standing v cs n vs es → outside v x ≡ false → value_so_far vs x ≡ None → n < v
not_full v cs n vs es x s o e =
    let lt = room v (take n es) x s.fresh o (sym (ap (λ y. value_so_far y x) s.written) ∙ e) in
    omega (arith, trail_long n es (omega (arith, s.short, s.entries_long)))

pub pushed : (v : ℕ) (cs : List Clause) (n : ℕ) (vs : Values) (es : Trail) (e : Entry) → Standing v cs n vs es → outside v e.literal.variable ≡ false
    → value_so_far vs e.literal.variable ≡ None → (e.decided ≡ false → Forces v cs (take n es) e.literal) → Pushed v cs n es (assign vs e.literal) (set es n e)
pushed v cs n vs es e s o w f =
    let lt = not_full v cs n vs es e.literal.variable s o w in
    let front : take (n + 1) (set es n e) ≡ take n es ++ (e ∷ []) = take_more_set es n e (omega (arith, s.entries_long)) in
    let open_there : value_so_far (written v (take n es)) e.literal.variable ≡ None = sym (ap (λ y. value_so_far y e.literal.variable) s.written) ∙ w in
    record {
      standing = record {
        values_long = length-set vs (e.literal.variable - 1) _ ∙ s.values_long;
        entries_long = length-set es n e ∙ s.entries_long;
        short = omega arith;
        written = ap (λ y. assign y e.literal) s.written ∙ sym (written_push v (take n es) e) ∙ sym (ap (written v) front);
        fresh = subst (Fresh v) (sym front) (fresh_push v (take n es) e s.fresh o open_there);
        sound = subst (Sound v cs) (sym front) (sound_push v cs (take n es) e s.sound f);
      };
      owes =
          let d = debt_push v (take n es) e (omega (arith, trail_long n es (omega (arith, s.short, s.entries_long)))) in
          let same : debt v (take (n + 1) (set es n e)) ≡ debt v (take n es ++ (e ∷ [])) = ap (debt v) front in
          omega arith;
    }

-- A model that agreed with the trail would agree with its next forced literal, so a refutation goes back over it.
refuted_forced : (v : ℕ) (cs : List Clause) (es : Trail) (n k : ℕ) → n ≤ length es → k < n → Sound v cs (take n es) → (entry_at es k).decided ≡ false → Refuted v cs (take (k + 1) es) → Refuted v cs (take k es)
refuted_forced v cs es n k l h s d r row m a =
    let b : entry_at (take n es) k ≡ entry_at es k = get_or-take n es k empty_entry h in
    let c : take k (take n es) ≡ take k es = take-take k n es (omega arith) in
    let holds = sym (ap (λ x. literal_holds row x.literal) b) ∙ s row k (record { solves = m; within = omega (arith, length-take n es); forced = ap (λ x. x.decided) b ∙ d; agrees = ap (agrees row) c ∙ a }) in
    r row m (ap (agrees row) (take_more es k empty_entry (omega arith)) ∙ agrees_push row (take k es) (entry_at es k) a holds)

-- back from position n to p, over forced literals
refuted_back : (v : ℕ) (cs : List Clause) (es : Trail) (n p k : ℕ) → n ≤ length es → p + k ≡ n → Sound v cs (take n es) → ((i : ℕ) → p ≤ i → i < n → (entry_at es i).decided ≡ false) → (j : ℕ) → j ≤ k → Refuted v cs (take (p + j) es) → Refuted v cs (take p es)
refuted_back v cs es n p k l e s f zero h r = subst (λ y. Refuted v cs (take y es)) (let z : p + 0 ≡ p = omega arith in z) r
refuted_back v cs es n p k l e s f (suc j) h r =
    let place : p + suc j ≡ p + j + 1 = omega arith in
    refuted_back v cs es n p k l e s f j (omega arith) (refuted_forced v cs es n (p + j) l (omega arith) s (f (p + j) (omega arith) (omega arith)) (subst (λ y. Refuted v cs (take y es)) place r))

pub refuted_to : (v : ℕ) (cs : List Clause) (es : Trail) (n p : ℕ) → n ≤ length es → p ≤ n → Sound v cs (take n es) → ((i : ℕ) → p ≤ i → i < n → (entry_at es i).decided ≡ false) → Refuted v cs (take n es) → Refuted v cs (take p es)
refuted_to v cs es n p l h s f r =
    let place : p + (n - p) ≡ n = omega arith in
    refuted_back v cs es n p (n - p) l place s f (n - p) (omega arith) (subst (λ y. Refuted v cs (take y es)) (sym place) r)

-- what does not hold, its negation does
negation_holds : (row : Row) (l : Literal) → (literal_holds row l ≡ true → ⊥) → literal_holds row (negation l) ≡ true
negation_holds row l h = go l.negated (get_or row (l.variable - 1) false) h
  where
    go : (n b : Bool) → (cond n (not b) b ≡ true → ⊥) → cond (not n) (not b) b ≡ true
    go true true h = refl
    go true false h = absurd (h refl)
    go false true h = absurd (h refl)
    go false false h = refl

-- The last open decision reversed: its negation is forced.
pub reversed : (v : ℕ) (cs : List Clause) (n p : ℕ) (vs vs' : Values) (es : Trail) → Standing v cs n vs es → Refuted v cs (take n es) → BackTo v n p es vs'
    → Standing v cs p vs' es × Forces v cs (take p es) (negation (literal_at es p))
reversed v cs n p vs vs' es s r b =
    let l : n ≤ length es = omega (arith, s.short, s.entries_long) in
    let h = b.below in
    let back : Refuted v cs (take (p + 1) es) = refuted_to v cs es n (p + 1) l (omega arith) s.sound (λ i lo hi. b.forced i (omega arith) hi) r in (
      record {
        values_long = ap length b.written ∙ length_written v (take p es);
        entries_long = s.entries_long;
        short = omega (arith, s.short);
        written = b.written;
        fresh = fresh_take v es n p (omega arith) l s.fresh;
        sound = sound_take v cs es n p (omega arith) l s.sound;
      },
      λ row m a. negation_holds row (literal_at es p) (λ k. back row m (ap (agrees row) (take_more es p empty_entry (omega arith)) ∙ agrees_push row (take p es) (entry_at es p) a k)),
    )

-- No decision is open: a refuted trail refutes the formula.
pub unsolvable : (v : ℕ) (cs : List Clause) (n : ℕ) (vs : Values) (es : Trail) → Standing v cs n vs es → Refuted v cs (take n es) → AllForced n es → (row : Row) → Solves v cs row → ⊥
unsolvable v cs n vs es s r f row m =
    refuted_to v cs es n 0 (omega (arith, s.short, s.entries_long)) (omega arith) s.sound (λ i lo hi. f i hi) r row m refl

-- the debt after the reversal
pub reversal_owes : (v n p : ℕ) (es : Trail) (vs' : Values) (e : Entry) → n ≤ length es → BackTo v n p es vs' → e.decided ≡ false → debt v (take (p + 1) (set es p e)) + 1 ≤ debt v (take n es)
reversal_owes v n p es vs' e l b f =
    let h = b.below in
    let front : take (p + 1) (set es p e) ≡ take p es ++ (e ∷ []) = take_more_set es p e (omega arith) in
    let inner : take p (take n es) ≡ take p es = take-take p n es (omega arith) in
    let at : entry_at (take n es) p ≡ entry_at es p = get_or-take n es p empty_entry h in
    let d = debt_back v (take n es) p e (omega (arith, trail_long n es l)) (ap (λ x. x.decided) at ∙ b.decided) f in
    let same : debt v (take (p + 1) (set es p e)) ≡ debt v (take p (take n es) ++ (e ∷ [])) = ap (debt v) (front ∙ ap (λ x. x ++ (e ∷ [])) (sym inner)) in
    omega arith

-- The reversal keeps the search standing and lowers the debt.
pub reversal : (v : ℕ) (cs : List Clause) (n : ℕ) (vs : Values) (es : Trail) (n' : ℕ) (vs' : Values) (es' : Trail) → Standing v cs n vs es → Refuted v cs (take n es) → Reversed v n es n' vs' es'
    → Standing v cs n' vs' es' × (debt v (take n' es') + 1 ≤ debt v (take n es))
reversal v cs n vs es n' vs' es' s r t =
    let p : ℕ = t.p in
    let l : n ≤ length es = omega (arith, s.short, s.entries_long) in
    let w : Values = written v (take p es) in
    let e : Entry = record { literal = negation (literal_at es p); decided = false } in
    let fr = fresh_at v es n p l t.back.below s.fresh in
    let before = reversed v cs n p vs w es s r t.back in
    let q = pushed v cs p w es e before.0 fr.0 fr.1 (λ _. before.1) in (
      subst (λ k. Standing v cs k vs' es') (sym t.trail) (subst (λ x. Standing v cs (p + 1) vs' x) (sym t.entries) (subst (λ x. Standing v cs (p + 1) x (set es p e)) (sym t.values) q.standing)),
      let same : debt v (take n' es') ≡ debt v (take (p + 1) (set es p e)) = ap (λ k. debt v (take k es')) t.trail ∙ ap (λ x. debt v (take (p + 1) x)) t.entries in
          omega (arith, reversal_owes v n p es w e l t.back refl),
    )

-- A search begins with every variable open.
pub begun : (v : ℕ) (cs : List Clause) (vs : Values) (es : Trail) → length es ≡ v → vs ≡ written v (take 0 es) → Standing v cs 0 vs es
begun v cs vs es l w =
    record {
      values_long = ap length w ∙ length_written v (take 0 es);
      entries_long = l;
      short = omega arith;
      written = w;
      fresh = λ i h. absurd (omega arith);
      sound = λ row i r. absurd (omega (arith, r.within));
    }
