-- Block by block, up to the first in which a word differs: before it there is none, and in it the lowest is found.
use Rattle.std.proofs.Common.{◌≡◌, ℕ, ◌+◌, ◌-◌, ◌*◌, ◌/◌, ◌<◌, ◌≤◌, max, true, false, Bool, subst, inl, inr, arith}
use Rattle.std.specs.Prelude.{Option, Some, None, nat_lt}
use Rattle.std.specs.Option.{MatchOption, IfSome, IsSomeAnd, option_map}
use Rattle.std.specs.Int.{div_ceil}
use Rattle.std.specs.Bool.{then_some}
use denote.Param.Members.{Mut, Called}
use Rattle.std.specs.Iterator.Runs.{Run, CallKeepsClosure, AllItemsGive, IsFirstToGive}
use Rattle.std.proofs.iter.Yields.{nat_range_steps}
use Rattle.std.proofs.iter.runs.Sources.{range_runs}
use Rattle.std.proofs.lemmas.Bool.{cases_lt, ltb-true, ltb-false}

here_if : (o : Option ℕ) (P : ℕ → Type 0) (v : ℕ) → option_map (λ y. y) o ≡ Some v → IfSome o P → P v
here_if None P v e h = absurd cc
here_if (Some x) P v e h = let at : x ≡ v = cc in subst P at h

here_and : (o : Option ℕ) (P : ℕ → Type 0) (v : ℕ) → option_map (λ y. y) o ≡ Some v → IsSomeAnd o P → P v
here_and None P v e h = absurd cc
here_and (Some x) P v e h = let at : x ≡ v = cc in subst P at h

module _ (M : ℕ → Type 0) (from : ℕ) where
  -- what the search of a block tells
  abbrev pub Told : ℕ → Option ℕ → Type 0
  Told k r =
      let low = max from (64 * k) in
      MatchOption r ((w : ℕ) → low ≤ w → w < 64 * (low / 64) + 64 → M w)
      (λ x. (low ≤ x) × (x < 64 * (low / 64) + 64) × (M x → ⊥) × ((w : ℕ) → low ≤ w → w < x → M w))

  none_told : (w : ℕ) → from ≤ w → Told (w / 64) None → M w
  none_told w low h = h w (omega arith) (omega arith)

  module _ (end b : ℕ) (p : Run nat_range_steps) (starts : p.from.start ≡ from / 64) (ends : p.from.end ≡ b) (round : b ≡ div_ceil end 64) where
    all_told : p.whole ≡ true → ((k : ℕ) → IfSome (p.at k) (λ x. Told x None)) → (w : ℕ) → from ≤ w → w < end → M w
    all_told whole h w low high =
        let up = range_runs p p.seen in
        let long : p.len ≡ p.from.end - p.from.start = up.1 whole in
        let i = w / 64 - from / 64 in
        let place : p.from.start + i ≡ w / 64 = omega arith in
        none_told w low (subst (λ k. Told k None) place (here_if (p.at i) (λ x. Told x None) (p.from.start + i) (up.3 i (omega arith)) (h i)))

    before_told : (i : ℕ) → i < p.len → ((k : ℕ) → k < i → IsSomeAnd (p.at k) (λ x. Told x None)) → (w : ℕ) → from ≤ w → w / 64 < from / 64 + i → M w
    before_told i within h w low high =
        let up = range_runs p p.seen in
        let j = w / 64 - from / 64 in
        let place : p.from.start + j ≡ w / 64 = omega arith in
        none_told w low (subst (λ k. Told k None) place (here_and (p.at j) (λ x. Told x None) (p.from.start + j) (up.3 j (omega arith)) (h j (omega arith))))

    first_told : (y i : ℕ) → i < p.len → IsSomeAnd (p.at i) (λ x. Told x (Some y)) → ((k : ℕ) → k < i → IsSomeAnd (p.at k) (λ x. Told x None))
        → (from ≤ y) × (M y → ⊥) × ((w : ℕ) → from ≤ w → w < y → M w)
    first_told y i within here before =
        let up = range_runs p p.seen in
        let place : p.from.start + i ≡ from / 64 + i = omega arith in
        let told = subst (λ k. Told k (Some y)) place (here_and (p.at i) (λ x. Told x (Some y)) (p.from.start + i) (up.3 i within) here) in (
          omega (arith, told.0),
          told.2,
          λ w low high. elim (cases_lt (w / 64) (from / 64 + i)) [
            | inl h ↦ before_told i within before w low h
            | inr h ↦ told.3 w (omega arith) high
          ],
        )

    -- the word that is kept where it is one of the circuit's
    kept : (y : ℕ) (q : Option ℕ) (b : Bool) → nat_lt y end ≡ b → q ≡ then_some b y → (from ≤ y) × (M y → ⊥) × ((w : ℕ) → from ≤ w → w < y → M w)
        → MatchOption q ((w : ℕ) → from ≤ w → w < end → M w) (λ x. (from ≤ x) × (x < end) × (M x → ⊥) × ((w : ℕ) → from ≤ w → w < x → M w))
    kept y q true t e h = rw e (h.0, ltb-true y end t, h.1, h.2)
    kept y q false t e h = let past = ltb-false y end t in rw e (λ w low high. h.2 w low (omega arith))

    -- what a closure that tells of each block finds
    pub found_by : {F : Type 0} {g : Mut F (ℕ × Unit {0}) (Option ℕ)} {f : F} (o q : Option ℕ)
        → MatchOption o ((p.whole ≡ true) × AllItemsGive p g f None) (λ y. (i : ℕ) × (i < p.len) × (p.len ≡ i + 1) × IsFirstToGive p g f (Some y) None i)
        → MatchOption o (q ≡ None) (λ x. q ≡ then_some (nat_lt x end) x)
        → CallKeepsClosure g f → ((x : ℕ) (r : Option ℕ) → Called g f (x, tt) r f → Told x r)
        → MatchOption q ((w : ℕ) → from ≤ w → w < end → M w) (λ x. (from ≤ x) × (x < end) × (M x → ⊥) × ((w : ℕ) → from ≤ w → w < x → M w))
    found_by {F} {g} {f} None q h e keeps tells = rw e (all_told h.0 (λ k. if_told (p.at k) (h.1 keeps k)))
      where
        if_told : (a : Option ℕ) → IfSome a (λ x. Called g f (x, tt) None f) → IfSome a (λ x. Told x None)
        if_told None h = tt
        if_told (Some x) h = tells x None h
    found_by {F} {g} {f} (Some y) q h e keeps tells =
        let first = h.3 keeps in
        kept y q (nat_lt y end) (λ i. nat_lt y end) e (first_told y h.0 h.1 (and_told (p.at h.0) (Some y) first.0) (λ k low. and_told (p.at k) None (first.1 k low)))
      where
        and_told : (a : Option ℕ) (r : Option ℕ) → IsSomeAnd a (λ x. Called g f (x, tt) r f) → IsSomeAnd a (λ x. Told x r)
        and_told None r h = h
        and_told (Some x) r h = tells x r h
