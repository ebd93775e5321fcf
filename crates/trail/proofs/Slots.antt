-- Lists of one field of a list's elements, where an element changes in that field or in another.
use Rattle.std.proofs.Common.{◌≡◌, ℕ, ◌<◌, Bool, true, false, cond, Some, List, map, length, get_or, set, sym, ap, ◌∙◌}
use Rattle.trail.specs.declared.cells.Slot.{Slot}
use Rattle.std.proofs.lemmas.List.{map-set, set-get_or, get_or-map}

-- an element that keeps the field
pub field_kept : {X Y : Type 0} (f : X → Y) (xs : List X) (i : ℕ) (x d : X) → i < length xs → f x ≡ f (get_or xs i d) → map f (set xs i x) ≡ map f xs
field_kept f xs i x d h e = map-set f xs i x ∙ ap (set (map f xs) i) (e ∙ sym (get_or-map f xs i d (f d) h)) ∙ set-get_or (map f xs) i (f d)

-- a field read at a place
pub field_at : {X Y : Type 0} (f : X → Y) (xs : List X) (i : ℕ) (d : X) (e : Y) → i < length xs → f (get_or xs i d) ≡ get_or (map f xs) i e
field_at f xs i d e h = sym (get_or-map f xs i d e h)

-- a link keeps the value and the position
pub link_value : (s t : Slot) (b : Bool) (w : ℕ) → t ≡ cond b (record s { negative = Some w }) (record s { positive = Some w }) → t.value ≡ s.value
link_value s t true w e = ap (λ x. x.value) e
link_value s t false w e = ap (λ x. x.value) e

pub link_entry : (s t : Slot) (b : Bool) (w : ℕ) → t ≡ cond b (record s { negative = Some w }) (record s { positive = Some w }) → t.entry ≡ s.entry
link_entry s t true w e = ap (λ x. x.entry) e
link_entry s t false w e = ap (λ x. x.entry) e
