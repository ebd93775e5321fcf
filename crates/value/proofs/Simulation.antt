-- Evaluation over a kind follows the Boolean meaning, for each relation of values and bits that the operations keep:
-- gate by gate, the value and the bit stay related.
use Rattle.std.proofs.Common.{◌≡◌, ℕ, zero, suc, ◌+◌, ◌-◌, ◌/◌, ◌%◌, ◌^◌, ◌<◌, ◌≤◌, Bool, true, false, cond, not, ◌&&◌, ◌||◌, eqb, List, [], ◌∷◌, ◌++◌, map, length, get_or, sym, ap, ◌∙◌, subst, add-zero, zero-add, arith}
use Rattle.std.specs.List.{range_with_len}
use Rattle.std.proofs.lemmas.List.{length-map}
use Rattle.circuit.specs.declared.gate.Unary.TheVariants.{Buffer, Inverter}
use Rattle.circuit.specs.declared.gate.Binary.TheVariants.{And, Or, Xor, Nand, Nor, Xnor}
use Rattle.circuit.specs.declared.gate.Gate as gates
use Rattle.circuit.specs.declared.gate.Gate.{Gate}
use Rattle.circuit.specs.Kinds.{xor, row_number}
use Rattle.circuit.specs.Gates.{named, own_rows, total_rows}
use Rattle.meaning.specs.Nets.{at, nets_from}
use Rattle.meaning.specs.Meaning.{bit, gate_means, low_bits}
use Rattle.value.specs.Ops.{Ops}
use Rattle.value.specs.Values.{taken, and_inputs, or_below, table_value, rows_from, gate_value}
use Rattle.value.proofs.Tables.{bools, table_bits}

-- a relation of a kind's values and bits that the operations keep
pub record Kept {K : Type 0} (ops : Ops K) (R : K → Bool → Type 0) : Type 0 where
  pub falsity : R ops.falsity false
  pub inverse : (x : K) (a : Bool) → R x a → R (ops.inverse x) (not a)
  pub both : (x y : K) (a b : Bool) → R x a → R y b → R (ops.both x y) (a && b)
  pub either : (x y : K) (a b : Bool) → R x a → R y b → R (ops.either x y) (a || b)
  pub differ : (x y : K) (a b : Bool) → R x a → R y b → R (ops.differ x y) (xor a b)

-- one for one
abbrev pub Follows : {K L : Type 0} → (K → L → Type 0) → List K → List L → Type 0
Follows R [] [] = Unit {0}
Follows R [] (b ∷ bs) = ⊥
Follows R (x ∷ xs) [] = ⊥
Follows R (x ∷ xs) (b ∷ bs) = R x b × Follows R xs bs

module _ {K L : Type 0} (R : K → L → Type 0) where
  pub follows_at : (d : K) (e : L) → R d e → (vs : List K) (bs : List L) (i : ℕ) → Follows R vs bs → R (get_or vs i d) (get_or bs i e)
  follows_at d e z [] [] i f = z
  follows_at d e z [] (b ∷ bs) i f = absurd f
  follows_at d e z (x ∷ xs) [] i f = absurd f
  follows_at d e z (x ∷ xs) (b ∷ bs) zero f = f.0
  follows_at d e z (x ∷ xs) (b ∷ bs) (suc i) f = follows_at d e z xs bs i f.1

  follows_push : (vs : List K) (bs : List L) (x : K) (b : L) → Follows R vs bs → R x b → Follows R (vs ++ x ∷ []) (bs ++ b ∷ [])
  follows_push [] [] x b f h = (h, tt)
  follows_push [] (c ∷ bs) x b f h = absurd f
  follows_push (y ∷ ys) [] x b f h = absurd f
  follows_push (y ∷ ys) (c ∷ bs) x b f h = (f.0, follows_push ys bs x b f.1 h)

  follows_map : (f : ℕ → K) (h : ℕ → L) → ((a : ℕ) → R (f a) (h a)) → (ins : List ℕ) → Follows R (map f ins) (map h ins)
  follows_map f h s [] = tt
  follows_map f h s (a ∷ ins) = (s a, follows_map f h s ins)

  -- two ways to make the nets follow one another where each gate's step does
  follows_nets : (value : ℕ → (ℕ → K) → Gate → K) (other : ℕ → (ℕ → L) → Gate → L) (d : K) (e : L) → R d e → (m : ℕ)
      → ((first : ℕ) (f : ℕ → K) (h : ℕ → L) (g : Gate) → ((a : ℕ) → R (f a) (h a)) → first + own_rows g ≤ m → R (value first f g) (other first h g))
      → (first : ℕ) (vs : List K) (bs : List L) (gs : List Gate) → Follows R vs bs → first + total_rows gs ≤ m
      → Follows R (nets_from value d first vs gs) (nets_from other e first bs gs)
  follows_nets value other d e z m step first vs bs [] f l = f
  follows_nets value other d e z m step first vs bs (g ∷ gs) f l =
      follows_nets value other d e z m step (first + own_rows g) (vs ++ value first (at d vs) g ∷ []) (bs ++ other first (at e bs) g ∷ []) gs
      (follows_push vs bs (value first (at d vs) g) (other first (at e bs) g) f
      (step first (at d vs) (at e bs) g (λ a. follows_at d e z vs bs (a - 1) f) (omega arith)))
      (omega arith)

-- the inputs
follows_counting : {K : Type 0} (R : K → Bool → Type 0) (d : K) (xs : List K) (w a : ℕ) → ((i : ℕ) → i < length xs → R (get_or xs i d) (bit w (a + i))) → Follows R xs (map (bit w) (range_with_len a (length xs)))
follows_counting R d [] w a h = tt
follows_counting R d (x ∷ xs) w a h =
    (rw add-zero at (h 0 (omega arith)), follows_counting R d xs w (a + 1) (λ i l. let e : a + suc i ≡ a + 1 + i = omega arith in rw e at (h (suc i) (omega arith))))

pub follows_inputs : {K : Type 0} (R : K → Bool → Type 0) (d : K) (xs : List K) (w : ℕ) → ((i : ℕ) → i < length xs → R (get_or xs i d) (bit w i)) → Follows R xs (low_bits (length xs) w)
follows_inputs R d xs w h = follows_counting R d xs w 0 (λ i l. rw zero-add (h i l))

module _ {K : Type 0} (ops : Ops K) (R : K → Bool → Type 0) (kept : Kept ops R) where
  follows_taken : (t : Bool) (x : K) (a : Bool) → R x a → R (cond t (ops.inverse x) x) (cond t (not a) a)
  follows_taken true x a h = kept.inverse x a h
  follows_taken false x a h = h

  follows_and : (x : K) (b : Bool) (r : ℕ) (ins : List K) (bs : List Bool) → R x b → Follows R ins bs → R (and_inputs ops x r ins) (and_inputs bools b r bs)
  follows_and x b r [] [] k f = k
  follows_and x b r [] (c ∷ bs) k f = absurd f
  follows_and x b r (y ∷ ins) [] k f = absurd f
  follows_and x b r (y ∷ ins) (c ∷ bs) k f =
      follows_and (ops.both x (taken ops (r % 2) y)) (b && taken bools (r % 2) c) (r / 2) ins bs
      (kept.both x (taken ops (r % 2) y) b (taken bools (r % 2) c) k (follows_taken (eqb (r % 2) 0) y c f.0)) f.1

  follows_or : (f : ℕ → K) (g : ℕ → Bool) (n : ℕ) → ((r : ℕ) → r < n → R (f r) (g r)) → R (or_below ops f n) (or_below bools g n)
  follows_or f g zero h = kept.falsity
  follows_or f g (suc n) h = kept.either (or_below ops f n) (f n) (or_below bools g n) (g n) (follows_or f g n (λ r l. h r (omega arith))) (h n (omega arith))

  follows_table : (rows : ℕ → K) (bits : ℕ → Bool) (ins : List K) (bs : List Bool) → length ins ≡ length bs → ((r : ℕ) → r < 2 ^ length ins → R (rows r) (bits r)) → Follows R ins bs
      → R (table_value ops rows ins) (bits (row_number bs))
  follows_table rows bits ins bs long right f =
      let each = follows_or (λ r. and_inputs ops (rows r) r ins) (λ r. and_inputs bools (bits r) r bs) (2 ^ length ins) (λ r l. follows_and (rows r) (bits r) r ins bs (right r l) f) in
      subst (R (table_value ops rows ins)) (ap (λ n. or_below bools (λ r. and_inputs bools (bits r) r bs) (2 ^ n)) long ∙ table_bits bits bs) each

  -- the setting's rows
  module _ (rows : List K) (setting : ℕ) (right : (i : ℕ) → i < length rows → R (get_or rows i ops.falsity) (bit setting i)) where
    follows_gate : (first : ℕ) (f : ℕ → K) (h : ℕ → Bool) (g : Gate) → ((a : ℕ) → R (f a) (h a)) → first + own_rows g ≤ length rows → R (gate_value ops rows first f g) (gate_means setting first h g)
    follows_gate first f h (gates.TheVariants.Unary Buffer a) s l = s a
    follows_gate first f h (gates.TheVariants.Unary Inverter a) s l = kept.inverse _ _ (s a)
    follows_gate first f h (gates.TheVariants.Binary And a b) s l = kept.both _ _ _ _ (s a) (s b)
    follows_gate first f h (gates.TheVariants.Binary Or a b) s l = kept.either _ _ _ _ (s a) (s b)
    follows_gate first f h (gates.TheVariants.Binary Xor a b) s l = kept.differ _ _ _ _ (s a) (s b)
    follows_gate first f h (gates.TheVariants.Binary Nand a b) s l = kept.inverse _ _ (kept.both _ _ _ _ (s a) (s b))
    follows_gate first f h (gates.TheVariants.Binary Nor a b) s l = kept.inverse _ _ (kept.either _ _ _ _ (s a) (s b))
    follows_gate first f h (gates.TheVariants.Binary Xnor a b) s l = kept.inverse _ _ (kept.differ _ _ _ _ (s a) (s b))
    follows_gate first f h (gates.TheVariants.Table t) s l =
        let ins = named t in
        let long = length-map ins f in
        follows_table (rows_from ops rows first) (λ r. bit setting (first + r)) (map f ins) (map h ins) (long ∙ sym (length-map ins h))
        (λ r k. right (first + r) (let m : r < 2 ^ length ins = rw long at k in omega arith)) (follows_map R f h s ins)

    pub follows_bits : (first : ℕ) (vs : List K) (bs : List Bool) (gs : List Gate) → Follows R vs bs → first + total_rows gs ≤ length rows
        → Follows R (nets_from (gate_value ops rows) ops.falsity first vs gs) (nets_from (gate_means setting) false first bs gs)
    follows_bits = follows_nets R (gate_value ops rows) (gate_means setting) ops.falsity false kept.falsity (length rows) follows_gate
