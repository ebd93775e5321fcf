-- Reading and writing slots, in terms of the values and the positions that they hold.
use Rattle.std.proofs.Common.{◌≡◌, ℕ, ◌+◌, ◌-◌, ◌<◌, ◌≤◌, Bool, true, false, cond, ◌⊎◌, List, [], ◌∷◌, map, length, get_or, take, drop, set, replicate, is_some, Some, None, Option, unwrap_or, sym, refl, ap, ◌∙◌, subst, inl, inr, arith, get_or-set_other, get_or-set_same, MatchOption, length-take, length-drop}
use borrow.Author.Tests.{both_ways}
use lib.ListN.{length-map, length-replicate}
use Rattle.std.proofs.lemmas.List.{map-set, ext_get_or, get_or_past, get_or-replicate, get_or-take, get_or-drop, take-map, drop-map}
use Rattle.std.proofs.lemmas.Bool.{cases_lt, cases_eq}
use Rattle.std.specs.List.{AllWithin, HoldsAt}
use Rattle.clause.proofs.Inside.{within}
use Rattle.trail.specs.Cells.{values_of, entries_of, empty_entry, empty_slot}
use Rattle.trail.specs.Values.{Values, told_of}
use Rattle.trail.specs.Trail.{Trail, written, Fresh, entry_at, literal_at}
use Rattle.trail.specs.declared.cells.Slot.{Slot}
use Rattle.trail.specs.declared.cells.Entry.{Entry}
use Rattle.trail.proofs.Slots.{field_at}
use Rattle.trail.proofs.Soundness.{fresh_at, unwritten}

pub value_read : (ss : List Slot) (i : ℕ) → i < length ss → (get_or ss i empty_slot).value ≡ get_or (values_of ss) i None
value_read ss i h = field_at (λ s. s.value) ss i empty_slot None h

-- past the end too
pub value_any : (ss : List Slot) (i : ℕ) → (get_or ss i empty_slot).value ≡ get_or (values_of ss) i None
value_any ss i = go (cases_lt i (length ss))
  where
    go : (i < length ss) ⊎ (length ss ≤ i) → (get_or ss i empty_slot).value ≡ get_or (values_of ss) i None
    go (inl h) = value_read ss i h
    go (inr h) = ap (λ s. s.value) (get_or_past ss i empty_slot h) ∙ sym (get_or_past (values_of ss) i None (omega (arith, length-map ss (λ s. s.value))))

pub entry_read : (ss : List Slot) (i : ℕ) → i < length ss → (get_or ss i empty_slot).entry ≡ entry_at (entries_of ss) i
entry_read ss i h = field_at (λ s. s.entry) ss i empty_slot empty_entry h

pub none_of : {A : Type 0} (o : Option A) → is_some o ≡ false → o ≡ None
none_of None h = refl
none_of (Some x) h = absurd (both_ways true h refl)

-- The first slot whose variable is open.
abbrev pub Opened : Slot → Type 0
Opened s = s.value ≡ None

abbrev pub Shut : Slot → Type 0
Shut s = s.value ≡ None → ⊥

pub opened_first : (ss : List Slot) (o : Option ℕ) → MatchOption o (AllWithin Shut ss 0 (length ss)) (λ i. (i < length ss) × HoldsAt Opened ss i × AllWithin Shut ss 0 i)
    → MatchOption o ((j : ℕ) → j < length ss → get_or (values_of ss) j None ≡ None → ⊥) (λ i. (i < length ss) × (get_or (values_of ss) i None ≡ None))
opened_first ss None h = λ j k e. h j empty_slot (omega arith) k (value_read ss j k ∙ e)
opened_first ss (Some i) h = (h.0, sym (value_read ss i h.0) ∙ h.1 empty_slot)

-- looked for from the middle on and then before it
pub chosen_after : (ss : List Slot) (middle i : ℕ) → middle ≤ length ss → i < length (drop middle ss) → get_or (values_of (drop middle ss)) i None ≡ None
    → (middle + i < length ss) × (get_or (values_of ss) (middle + i) None ≡ None)
chosen_after ss middle i m h e =
    (omega (arith, length-drop middle ss), sym (get_or-drop middle (values_of ss) i None) ∙ ap (λ xs. get_or xs i None) (drop-map (λ s. s.value) middle ss) ∙ e)

pub chosen_before : (ss : List Slot) (middle : ℕ) (o : Option ℕ) → middle ≤ length ss → ((j : ℕ) → j < length (drop middle ss) → get_or (values_of (drop middle ss)) j None ≡ None → ⊥)
    → MatchOption o ((j : ℕ) → j < length (take middle ss) → get_or (values_of (take middle ss)) j None ≡ None → ⊥) (λ i. (i < length (take middle ss)) × (get_or (values_of (take middle ss)) i None ≡ None))
    → MatchOption o ((j : ℕ) → j < length (values_of ss) → get_or (values_of ss) j None ≡ None → ⊥) (λ i. (i < length ss) × (get_or (values_of ss) i None ≡ None))
chosen_before ss middle (Some i) m later now =
    let lt : i < middle = omega (arith, now.0, length-take middle ss) in
    (omega arith, sym (get_or-take middle (values_of ss) i None lt) ∙ ap (λ xs. get_or xs i None) (take-map (λ s. s.value) middle ss) ∙ now.1)
chosen_before ss middle None m later now = λ j h e. go j h e (cases_lt j middle)
  where
    go : (j : ℕ) → j < length (values_of ss) → get_or (values_of ss) j None ≡ None → (j < middle) ⊎ (middle ≤ j) → ⊥
    go j h e (inl lt) =
        now j (omega (arith, length-take middle ss)) (ap (λ xs. get_or xs j None) (sym (take-map (λ s. s.value) middle ss)) ∙ get_or-take middle (values_of ss) j None lt ∙ e)
    go j h e (inr ge) =
        let place : middle + (j - middle) ≡ j = omega arith in
        later (j - middle) (omega (arith, length-drop middle ss, length-map ss (λ s. s.value)))
        (ap (λ xs. get_or xs (j - middle) None) (sym (drop-map (λ s. s.value) middle ss)) ∙ get_or-drop middle (values_of ss) (j - middle) None ∙ ap (λ k. get_or (values_of ss) k None) place ∙ e)

-- Opening one variable after another.
pub opened_more : (ss : List Slot) (i : ℕ) (s : Slot) → i < length ss → s.value ≡ None → ((j : ℕ) → j < i → get_or (values_of ss) j None ≡ None)
    → (j : ℕ) → j < i + 1 → get_or (values_of (set ss i s)) j None ≡ None
opened_more ss i s h n before j lt = ap (λ vs. get_or vs j None) (map-set (λ s. s.value) ss i s) ∙ go (cases_eq j i)
  where
    go : (j ≡ i) ⊎ (j ≡ i → ⊥) → get_or (set (values_of ss) i s.value) j None ≡ None
    go (inl e) = ap (λ k. get_or (set (values_of ss) i s.value) k None) e ∙ get_or-set_same (values_of ss) i s.value None (omega (arith, length-map ss (λ s. s.value))) ∙ n
    go (inr e) = get_or-set_other (values_of ss) i j s.value None e ∙ before j (omega arith)

pub opened_all : (ss : List Slot) (n i : ℕ) → length ss ≡ n → n ≤ i → ((j : ℕ) → j < i → get_or (values_of ss) j None ≡ None) → values_of ss ≡ replicate n None
opened_all ss n i l h all =
    ext_get_or None (values_of ss) (replicate n None) (length-map ss (λ s. s.value) ∙ l ∙ sym (length-replicate n None))
    (λ j k. all j (omega (arith, length-map ss (λ s. s.value))) ∙ sym (get_or-replicate n j None None (omega (arith, length-map ss (λ s. s.value)))))

-- Position k is taken off.
pub record TakenOff (v : ℕ) (ss : List Slot) (es : Trail) (k : ℕ) (e : Entry) : Type 0 where
  pub is : e ≡ entry_at es k
  pub low : 1 ≤ e.literal.variable
  pub high : e.literal.variable ≤ v
  pub next : set (values_of ss) (e.literal.variable - 1) None ≡ written v (take k es)

pub taken_off : (v n i : ℕ) (ss : List Slot) (es : Trail) → length ss ≡ v → length es ≡ v → n ≤ v → i ≤ n → 0 < i → Fresh v (take n es) → entries_of ss ≡ es → values_of ss ≡ written v (take i es)
    → TakenOff v ss es (i - 1) (get_or ss (i - 1) empty_slot).entry
taken_off v n i ss es l m h k p f same w =
    let is : (get_or ss (i - 1) empty_slot).entry ≡ entry_at es (i - 1) = entry_read ss (i - 1) (omega arith) ∙ ap (λ x. entry_at x (i - 1)) same in
    let fr = fresh_at v es n (i - 1) (omega arith) (omega arith) f in
    let there = within v (literal_at es (i - 1)).variable fr.0 in
    let number : (get_or ss (i - 1) empty_slot).entry.literal.variable ≡ (literal_at es (i - 1)).variable = ap (λ x. x.literal.variable) is in
    let back : i - 1 + 1 ≡ i = omega arith in
    record {
      is = is;
      low = omega (arith, there.low);
      high = omega (arith, there.high);
      next =
          ap (λ x. set x ((get_or ss (i - 1) empty_slot).entry.literal.variable - 1) None) (w ∙ ap (λ y. written v (take y es)) (sym back))
          ∙ ap (λ x. set (written v (take (i - 1 + 1) es)) (x - 1) None) number
          ∙ unwritten v es n (i - 1) (omega arith) (omega arith) f;
    }

pub forced_more : (es : Trail) (n i : ℕ) → 0 < i → (entry_at es (i - 1)).decided ≡ false → ((j : ℕ) → i ≤ j → j < n → (entry_at es j).decided ≡ false)
    → (j : ℕ) → i - 1 ≤ j → j < n → (entry_at es j).decided ≡ false
forced_more es n i p here later j lo hi = go (cases_lt j i)
  where
    go : (j < i) ⊎ (i ≤ j) → (entry_at es j).decided ≡ false
    go (inl h) = subst (λ k. (entry_at es k).decided ≡ false) (let z : i - 1 ≡ j = omega arith in z) here
    go (inr h) = later j h hi

-- Values are equal where what they tell is.
abbrev back : Bool × Bool → Option Bool
back p = cond p.0 (Some p.1) None

back_value : (o : Option Bool) → back (is_some o, unwrap_or o false) ≡ o
back_value None = refl
back_value (Some b) = refl

from_told : (vs : Values) → map back (told_of vs) ≡ vs
from_told [] = refl
from_told (o ∷ vs) = ap (λ x. x ∷ map back (told_of vs)) (back_value o) ∙ ap (λ x. o ∷ x) (from_told vs)

pub same_values : (vs ws : Values) → told_of vs ≡ told_of ws → vs ≡ ws
same_values vs ws e = sym (from_told vs) ∙ ap (map back) e ∙ from_told ws
