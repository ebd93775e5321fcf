-- What nets_from puts at each place: what was there stays, and each gate's place is made of the nets that the gate reads,
-- which all come before it and so are already final when it is made.
use Rattle.std.proofs.Common.{◌≡◌, ℕ, zero, suc, ◌+◌, ◌-◌, ◌<◌, ◌≤◌, List, [], ◌∷◌, ◌++◌, map, length, get_or, sym, refl, ap, ◌∙◌, add-zero, arith}
use Rattle.std.proofs.lemmas.List.{get_or_append_left, get_or_at, length_push}
use Rattle.circuit.specs.declared.gate.Gate.{Gate}
use Rattle.circuit.specs.Gates.{nets, own_rows, first_row, gate_at, Net, Below}
use Rattle.meaning.specs.Nets.{at, nets_from}

-- a gate's value rests on the values of its input nets, in their order, and on no other net
abbrev pub Local : {K : Type 0} → (ℕ → (ℕ → K) → Gate → K) → Type 0
Local {K} value = (first : ℕ) (f h : ℕ → K) (g : Gate) → map f (nets g) ≡ map h (nets g) → value first f g ≡ value first h g

-- what agrees on the nets 1 to n agrees on a list of such nets
pub map_agree : {K : Type 0} (f h : ℕ → K) (n : ℕ) (ins : List ℕ) → ((j : ℕ) → Net n (get_or ins j 1)) → ((a : ℕ) → 1 ≤ a → a ≤ n → f a ≡ h a) → map f ins ≡ map h ins
map_agree f h n [] within same = refl
map_agree f h n (a ∷ ins) within same =
    let one = same a (within 0).0 (within 0).1 in
    let rest = map_agree f h n ins (λ j. within (suc j)) same in
    cc

pub length_nets_from : {K : Type 0} (value : ℕ → (ℕ → K) → Gate → K) (d : K) (first : ℕ) (vs : List K) (gs : List Gate)
    → length (nets_from value d first vs gs) ≡ length vs + length gs
length_nets_from value d first vs [] = omega arith
length_nets_from value d first vs (g ∷ gs) =
    omega (arith, length_nets_from value d (first + own_rows g) (vs ++ value first (at d vs) g ∷ []) gs, length_push vs (value first (at d vs) g))

-- the nets that were there stay
pub nets_keep : {K : Type 0} (value : ℕ → (ℕ → K) → Gate → K) (d : K) (first : ℕ) (vs : List K) (gs : List Gate) (k : ℕ) (e : K)
    → k < length vs → get_or (nets_from value d first vs gs) k e ≡ get_or vs k e
nets_keep value d first vs [] k e l = refl
nets_keep value d first vs (g ∷ gs) k e l =
    let x = value first (at d vs) g in
    let more : k < length (vs ++ x ∷ []) = omega (arith, length_push vs x) in
    nets_keep value d (first + own_rows g) (vs ++ x ∷ []) gs k e more ∙ get_or_append_left vs (x ∷ []) e k l

zero_first : (n : ℕ) → 0 + n ≡ n
zero_first n = omega arith

module _ {K : Type 0} (value : ℕ → (ℕ → K) → Gate → K) (local : Local value) (d : K) where
  -- each gate's net, from any start
  gate_from : (first : ℕ) (vs : List K) (gs : List Gate) (n i : ℕ) (e : K) → length vs ≡ n → Below n gs → i < length gs
      → get_or (nets_from value d first vs gs) (n + i) e ≡ value (first + first_row gs i) (at d (nets_from value d first vs gs)) (gate_at gs i)
  gate_from first vs [] n i e z h l = absurd (omega arith)
  gate_from first vs (g ∷ gs) n zero e z h l =
      let x = value first (at d vs) g in
      let all = nets_from value d first vs (g ∷ gs) in
      let here : n < length (vs ++ x ∷ []) = omega (arith, length_push vs x) in
      let same = map_agree (at d vs) (at d all) n (nets g) (λ j. rw add-zero at (h 0 j)) (λ a low high. sym (nets_keep value d first vs (g ∷ gs) (a - 1) d (omega arith))) in
      ap (λ m. get_or all m e) (add-zero n) ∙ nets_keep value d (first + own_rows g) (vs ++ x ∷ []) gs n e here ∙ get_or_at vs x [] e n z ∙ local first (at d vs) (at d all) g same
      ∙ ap (λ m. value m (at d all) g) (sym (add-zero first))
  gate_from first vs (g ∷ gs) n (suc i) e z h l =
      let x = value first (at d vs) g in
      let all = nets_from value d first vs (g ∷ gs) in
      let place : n + suc i ≡ suc n + i = omega arith in
      let rows : first + own_rows g + first_row gs i ≡ first + first_row (g ∷ gs) (suc i) = omega arith in
      let long : length (vs ++ x ∷ []) ≡ suc n = omega (arith, length_push vs x) in
      ap (λ m. get_or all m e) place
      ∙ gate_from (first + own_rows g) (vs ++ x ∷ []) gs (suc n) i e long (λ j k. let q : n + suc j ≡ suc n + j = omega arith in rw q at (h (suc j) k)) (omega arith)
      ∙ ap (λ m. value m (at d all) (gate_at gs i)) rows

  -- each gate's net is what `value` makes of the nets
  pub nets_gate : (vs : List K) (gs : List Gate) (n i : ℕ) (e : K) → length vs ≡ n → Below n gs → i < length gs
      → get_or (nets_from value d 0 vs gs) (n + i) e ≡ value (first_row gs i) (at d (nets_from value d 0 vs gs)) (gate_at gs i)
  nets_gate vs gs n i e z h l =
      gate_from 0 vs gs n i e z h l ∙ ap (λ m. value m (at d (nets_from value d 0 vs gs)) (gate_at gs i)) (zero_first (first_row gs i))
