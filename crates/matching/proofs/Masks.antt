-- Bit i of the input word 64 * block + j: below 6 it is bit i of j, which the six masks list, and from 6 on it is bit i - 6 of the block.
use Rattle.std.proofs.Common.{◌≡◌, ℕ, zero, suc, ◌+◌, ◌-◌, ◌*◌, ◌^◌, ◌<◌, ◌≤◌, Bool, true, false, not, ◌&&◌, eqb, List, [], ◌∷◌, get_or, Decides, sym, refl, ap, ◌∙◌, arith}
use Rattle.std.proofs.lemmas.Nat.Bits.{bit_at_cat_low, bit_at_cat_high}
use Rattle.std.proofs.lemmas.Bool.{false≢true}
use Rattle.std.proofs.lemmas.Bool.Decides.{Decides-below_and}
use Rattle.circuit.specs.Kinds.{xor}
use Rattle.meaning.specs.Meaning.{bit}
use Rattle.matching.specs.Blocks.{lane_word}

-- two bits are equal
abbrev pub same : Bool → Bool → Bool
same x y = not (xor x y)

pub decides_same : (x y : Bool) → Decides (same x y) (x ≡ y)
decides_same true true = (λ e. refl, λ e. refl)
decides_same true false = (λ e. absurd (false≢true e), λ e. sym e)
decides_same false true = (λ e. absurd (false≢true e), λ e. e)
decides_same false false = (λ e. refl, λ e. refl)

abbrev every_below : (ℕ → Bool) → ℕ → Bool
every_below f zero = true
every_below f (suc n) = f n && every_below f n

abbrev masks : List ℕ
masks = 0xAAAA_AAAA_AAAA_AAAA ∷ 0xCCCC_CCCC_CCCC_CCCC ∷ 0xF0F0_F0F0_F0F0_F0F0 ∷ 0xFF00_FF00_FF00_FF00 ∷ 0xFFFF_0000_FFFF_0000 ∷ 0xFFFF_FFFF_0000_0000 ∷ []

-- mask i has the rule in lane j
abbrev right : ℕ → ℕ → Bool
right i j = same (bit (get_or masks i 0) j) (bit j i)

decides_right : (i : ℕ) → Decides (every_below (right i) 64) ((j : ℕ) → j < 64 → bit (get_or masks i 0) j ≡ bit j i)
decides_right i =
    Decides-below_and (right i) (λ j. bit (get_or masks i 0) j ≡ bit j i) (every_below (right i)) (λ j. decides_same (bit (get_or masks i 0) j) (bit j i)) refl (λ _. refl) 64

pub masks_count : (i : ℕ) → i < 6 → (j : ℕ) → j < 64 → bit (get_or masks i 0) j ≡ bit j i
masks_count =
    let lane = λ (i : ℕ). every_below (right i) 64 in
    (Decides-below_and lane (λ i. (j : ℕ) → j < 64 → bit (get_or masks i 0) j ≡ bit j i) (every_below lane) decides_right refl (λ _. refl) 6).0 refl

pub low_input : (block j i : ℕ) → j < 64 → i < 6 → bit (lane_word block j) i ≡ bit j i
low_input block j i small low =
    let place : 64 * block + j ≡ block * 2 ^ 6 + j = omega arith in
    ap (λ n. bit n i) place ∙ ap (λ x. eqb x 1) (bit_at_cat_low block 6 j i low)

pub high_input : (block j i : ℕ) → j < 64 → 6 ≤ i → bit (lane_word block j) i ≡ bit block (i - 6)
high_input block j i small high =
    let place : 64 * block + j ≡ block * 2 ^ 6 + j = omega arith in
    ap (λ n. bit n i) place ∙ ap (λ x. eqb x 1) (bit_at_cat_high block 6 j i small high)
