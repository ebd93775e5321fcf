-- Where every lane is known, the lanes are the circuit's bits: for the single bit, and for each of a word's 64 lanes.
use Rattle.std.proofs.Common.{◌≡◌, ℕ, ◌-◌, ◌<◌, ◌≤◌, Bool, List, length, get_or, take, sym, refl, ◌∙◌, subst, arith}
use Rattle.std.proofs.lemmas.List.{length-take-le, get_or-take}
use Rattle.circuit.specs.Gates.{Sheet}
use Rattle.meaning.specs.Meaning.{bit, net, the_nets}
use Rattle.value.specs.Lanes.{Completes}
use Rattle.value.specs.Kinds.{the_bit, bit_lane, word_lane}
use Rattle.value.specs.Values.{net_count}
use Rattle.value.specs.Outcome.{LanesRight}
use Rattle.value.specs.declared.bit.Bit.{Bit}
use Rattle.value.specs.declared.word.Word.{Word}
use Rattle.value.specs.Words.{completes_known, known_completes}

-- the values are the bits of a number, the lowest first
abbrev pub AreBits : List Bit → ℕ → Type 0
AreBits xs w = (i : ℕ) (d : Bit) → i < length xs → get_or xs i d ≡ the_bit (bit w i)

-- lane j of the values holds the bits of the number w j, the lowest first
abbrev pub AreLanes : List Word → (ℕ → ℕ) → Type 0
AreLanes xs w = (i j : ℕ) (d : Word) → i < length xs → j < 64 → bit (get_or xs i d).bits j ≡ bit (w j) i

pub front_bits : (xs : List Bit) (m w : ℕ) → AreBits xs w → m ≤ length xs → AreBits (take m xs) w
front_bits xs m w h l i d k =
    let within : i < m = omega (arith, length-take-le m xs l) in
    get_or-take m xs i d within ∙ h i d (omega arith)

pub front_lanes : (xs : List Word) (m : ℕ) (w : ℕ → ℕ) → AreLanes xs w → m ≤ length xs → AreLanes (take m xs) w
front_lanes xs m w h l i j d k small =
    let within : i < m = omega (arith, length-take-le m xs l) in
    let same = get_or-take m xs i d within in
    subst (λ x. bit x.bits j ≡ bit (w j) i) (sym same) (h i j d (omega arith) small)

completes_bit : (x : Bit) (b : Bool) → x ≡ the_bit b → Completes (bit_lane x 0) b
completes_bit x b e = subst (λ y. Completes (bit_lane y 0) b) (sym e) (completes_known b b refl)

pub bits_right : (s : Sheet) (rows inputs nets : List Bit) → LanesRight 1 bit_lane s rows inputs nets → (setting word : ℕ) → AreBits rows setting → AreBits inputs word
    → (k : ℕ) (d : Bit) → 1 ≤ k → k ≤ net_count s → (get_or nets (k - 1) d).value ≡ net (the_nets s setting word) k
bits_right s rows inputs nets right setting word hr hi k d low high =
    known_completes (get_or nets (k - 1) d).value (net (the_nets s setting word) k)
    (right.completed 0 (omega arith) setting word (λ i e l. completes_bit (get_or rows i e) (bit setting i) (hr i e l)) (λ i e l. completes_bit (get_or inputs i e) (bit word i) (hi i e l)) k d low high)

pub words_right : (s : Sheet) (rows inputs nets : List Word) → LanesRight 64 word_lane s rows inputs nets → (setting word : ℕ → ℕ) → AreLanes rows setting → AreLanes inputs word
    → (k j : ℕ) (d : Word) → 1 ≤ k → k ≤ net_count s → j < 64 → bit (get_or nets (k - 1) d).bits j ≡ net (the_nets s (setting j) (word j)) k
words_right s rows inputs nets right setting word hr hi k j d low high small =
    known_completes (bit (get_or nets (k - 1) d).bits j) (net (the_nets s (setting j) (word j)) k)
    (right.completed j small (setting j) (word j)
    (λ i e l. completes_known (bit (get_or rows i e).bits j) (bit (setting j) i) (hr i j e l small))
    (λ i e l. completes_known (bit (get_or inputs i e).bits j) (bit (word j) i) (hi i j e l small)) k d low high)
