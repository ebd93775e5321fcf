-- Values that are written one after another, each with its bit of every lane's number, hold the numbers' bits.
use Rattle.std.proofs.Common.{◌≡◌, ℕ, ◌+◌, ◌<◌, ◌≢◌, List, length, get_or, set, ap, ◌∙◌, arith, below_more}
use Rattle.std.proofs.lemmas.List.{get_or-set_same, get_or-set_other}
use Rattle.meaning.specs.Meaning.{bit}
use Rattle.value.specs.declared.word.Word.{Word}

-- the values before place i hold the bits of the numbers w
abbrev pub Front : List Word → ℕ → (ℕ → ℕ) → Type 0
Front xs i w = (k j : ℕ) (d : Word) → k < i → j < 64 → bit (get_or xs k d).bits j ≡ bit (w j) k

pub front_more : (xs : List Word) (i : ℕ) (v : Word) (w : ℕ → ℕ) → i < length xs → Front xs i w → ((j : ℕ) → j < 64 → bit v.bits j ≡ bit (w j) i) → Front (set xs i v) (i + 1) w
front_more xs i v w within front here k j d below small =
    below_more (λ k. bit (get_or (set xs i v) k d).bits j ≡ bit (w j) k) i
    (λ k h. let ne : k ≢ i = omega arith in ap (λ x. bit x.bits j) (get_or-set_other xs i k v d ne) ∙ front k j d h small)
    (ap (λ x. bit x.bits j) (get_or-set_same xs i v d within) ∙ here j small)
    k below
