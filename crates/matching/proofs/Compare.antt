-- Lanes of the outputs: compared, where both circuits' are listed, and gathered to one number.
use Rattle.std.proofs.Common.{◌≡◌, ℕ, suc, ◌+◌, ◌*◌, ◌^◌, ◌<◌, ◌≤◌, Bool, true, false, cond, not, ◌&&◌, ◌||◌, List, [], ◌∷◌, ◌++◌, map, length, get_or, take, Decides, sym, refl, ap, ◌∙◌, pow-suc, pow_mono, ◌%◌, subst, ltb, arith}
use lib.Bits.{bit_or, bit_xor}
use Rattle.std.proofs.lemmas.List.{same_from_push, map_more, length_push, length-map, length-take-le}
use Rattle.std.proofs.lemmas.Bool.Decides.{Decides-like, Decides-and, Decides-at}
use Rattle.circuit.specs.Kinds.{xor}
use Rattle.circuit.specs.Gates.{Sheet, Driven}
use Rattle.meaning.specs.Nets.{at}
use Rattle.meaning.specs.Meaning.{bit, outputs_at}
use Rattle.meaning.proofs.Places.{map_agree}
use Rattle.value.specs.Values.{net_count}
use Rattle.value.specs.declared.word.Word.{Word}
use Rattle.value.specs.Words.{bit_of_or, bit_of_xor}
use Rattle.matching.specs.Answers.{as_number}
use Rattle.matching.specs.Blocks.{HoldNets, net_bit, lane_word, no_lanes, Compared}
use Rattle.matching.proofs.Masks.{same, decides_same}

not_or : (l d : Bool) → not (l || d) ≡ (not l && not d)
not_or true d = refl
not_or false d = refl

-- one more output compared
compared_more : (l x y : Bool) (us vs : List Bool) → Decides (not l) (us ≡ vs) → Decides (not (l || xor x y)) (us ++ x ∷ [] ≡ vs ++ y ∷ [])
compared_more l x y us vs h =
    Decides-like (not (l || xor x y))
    (λ p. ap (λ xs. xs ++ x ∷ []) p.0 ∙ ap (λ b. vs ++ b ∷ []) p.1)
    (same_from_push us vs x y)
    (Decides-at (not (l || xor x y)) (not l && same x y) (not_or l (xor x y)) (Decides-and (not l) (same x y) h (decides_same x y)))

-- the lanes that differ so far, or differ at the outputs that come next, are those that differ in the outputs up to them
pub unequal_more : {P : Type 0} (t s : List Word) (a b : List ℕ) (ps : List P) (p : P) (lanes x y : ℕ) → length ps < length a → length ps < length b
    → x ≡ (at no_lanes t (get_or a (length ps) 0)).bits → y ≡ (at no_lanes s (get_or b (length ps) 0)).bits
    → (j : ℕ) → Decides (not (bit lanes j)) (map (net_bit t j) (take (length ps) a) ≡ map (net_bit s j) (take (length ps) b))
    → Decides (not (bit (bit_or lanes (bit_xor x y)) j)) (map (net_bit t j) (take (length (ps ++ p ∷ [])) a) ≡ map (net_bit s j) (take (length (ps ++ p ∷ [])) b))
unequal_more t s a b ps p lanes x y la lb ex ey j h =
    let i = length ps in
    let u = net_bit t j (get_or a i 0) in
    let v = net_bit s j (get_or b i 0) in
    let long : length (ps ++ p ∷ []) ≡ i + 1 = omega (arith, length_push ps p) in
    let left = ap (λ n. map (net_bit t j) (take n a)) long ∙ map_more (net_bit t j) a i 0 la in
    let right = ap (λ n. map (net_bit s j) (take n b)) long ∙ map_more (net_bit s j) b i 0 lb in
    let digit : bit (bit_or lanes (bit_xor x y)) j ≡ (bit lanes j || xor u v) =
    bit_of_or lanes (bit_xor x y) j ∙ ap (λ z. bit lanes j || z) (bit_of_xor x y j ∙ ap (λ z. xor (bit z j) (bit y j)) ex ∙ ap (λ z. xor u (bit z j)) ey) in
    Decides-like _ (λ e. left ∙ e ∙ sym right) (λ e. sym left ∙ e ∙ right) (Decides-at _ _ (ap not digit) (compared_more (bit lanes j) u v _ _ h))

-- lane j of the output nets holds the outputs at the lane's input word
pub outputs_held : (s : Sheet) (setting block : ℕ) (nets : List Word) → Driven (net_count s) s.outputs → HoldNets s setting block nets
    → (j : ℕ) → j < 64 → map (net_bit nets j) s.outputs ≡ outputs_at s setting (lane_word block j)
outputs_held s setting block nets driven held j small =
    map_agree _ _ (net_count s) s.outputs driven (λ a low high. held a j no_lanes low high small)

-- so lanes that compare the output nets compare the outputs
pub lanes_compared : (t s : Sheet) (setting block lanes : ℕ) (nt ns : List Word) (a b : List ℕ) → Driven (net_count t) t.outputs → Driven (net_count s) s.outputs
    → HoldNets t setting block nt → HoldNets s 0 block ns → a ≡ t.outputs → b ≡ s.outputs
    → ((j : ℕ) → Decides (not (bit lanes j)) (map (net_bit nt j) a ≡ map (net_bit ns j) b)) → Compared t s setting block lanes
lanes_compared t s setting block lanes nt ns a b dt ds ht hs ea eb all j small =
    let e = ap (map (net_bit nt j)) ea ∙ outputs_held t setting block nt dt ht j small in
    let f = ap (map (net_bit ns j)) eb ∙ outputs_held s 0 block ns ds hs j small in
    Decides-like (not (bit lanes j)) (λ p. sym e ∙ p ∙ f) (λ p. e ∙ p ∙ sym f) (all j)

as_number_push : (bs : List Bool) (b : Bool) → as_number (bs ++ b ∷ []) ≡ as_number bs + cond b 1 0 * 2 ^ length bs
as_number_push [] b = omega arith
as_number_push (x ∷ bs) b = omega (arith, as_number_push bs b, ap (λ p. cond b 1 0 * p) (pow-suc 2 (length bs)))

-- a bit moved up to place i
digit_up : (b : Bool) (v i : ℕ) → v ≡ cond b 1 0 → i < 16 → (v * 2 ^ i % 2 ^ 64 ≡ cond b 1 0 * 2 ^ i) × (cond b 1 0 * 2 ^ i ≤ 2 ^ i)
digit_up true v i e small =
    let within : i ≤ 16 = omega arith in
    let low : 2 ^ i ≤ 2 ^ 16 = pow_mono within in
    rw e (omega arith, omega arith)
digit_up false v i e small = rw e (omega arith, omega arith)

one_more : (i : ℕ) → i + 1 ≡ suc i
one_more i = omega arith

-- one more output gathered: the number of the outputs up to place i
pub number_more : (f : ℕ → Bool) (xs : List ℕ) (i n v : ℕ) (b : Bool) → i < length xs → i < 16 → n ≡ as_number (map f (take i xs)) → n < 2 ^ i
    → b ≡ f (get_or xs i 0) → v ≡ cond b 1 0 → (n + v * 2 ^ i % 2 ^ 64 ≡ as_number (map f (take (i + 1) xs))) × (n + v * 2 ^ i % 2 ^ 64 < 2 ^ (i + 1))
number_more f xs i n v b within few e small here bit_is =
    let up = digit_up b v i bit_is few in
    let long : length (map f (take i xs)) ≡ i = omega (arith, length-map (take i xs) f, length-take-le i xs) in
    let more : as_number (map f (take (i + 1) xs)) ≡ as_number (map f (take i xs)) + cond b 1 0 * 2 ^ i =
    ap as_number (map_more f xs i 0 within) ∙ ap (λ c. as_number (map f (take i xs) ++ c ∷ [])) (sym here) ∙ as_number_push (map f (take i xs)) b
    ∙ ap (λ m. as_number (map f (take i xs)) + cond b 1 0 * 2 ^ m) long in
    (omega arith, omega (arith, ap (λ m. 2 ^ m) (one_more i), pow-suc 2 i))

-- what holds of a comparison holds of the pair and the setting that it was made of
pub of_made : {A : Type 0} (P : A → ℕ → Type 0) (p q : A) (m n : ℕ) → p ≡ q → m ≡ n → P p m → P q n
of_made P p q m n e f h = subst (P q) f (subst (λ x. P x m) e h)

-- a number of no more than m bits has no more than as many as m is
pub in_range : (n m k : ℕ) → m ≡ k → ltb n (2 ^ m) ≡ true → ltb n (2 ^ k) ≡ true
in_range n m k e h = subst (λ i. ltb n (2 ^ i) ≡ true) e h
