-- What the calls that compare target and specification answer.
use Rattle.std.specs.Prelude.{◌≡◌, ℕ, ◌+◌, ◌*◌, ◌^◌, ◌<◌, ◌≤◌, Bool, cond, ◌&&◌, List, [], ◌∷◌, length, Some, None, Decides, Option, Result, MatchResult, ◌==◌, nat_lt}
use Rattle.std.specs.Option as options
use Rattle.refusal.specs.declared.refusal.Refusal.{Refusal}
use Rattle.refusal.specs.declared.refusal.Refusal.TheVariants.{Unlike, WordRange, SettingRange}
use Rattle.circuit.specs.Gates.{Sheet, total_rows}
use Rattle.meaning.specs.Meaning.{Matches, outputs_at}

-- as many inputs and outputs
abbrev pub alike : Sheet → Sheet → Bool
alike t s = t.inputs == s.inputs && length t.outputs == length s.outputs

-- why matching at a word is refused, the lowest number first
abbrev pub match_refusal : Sheet → Sheet → ℕ → ℕ → Option Refusal
match_refusal t s setting word =
    cond (alike t s) (cond (nat_lt word (2 ^ t.inputs)) (cond (nat_lt setting (2 ^ total_rows t.gates)) None (Some SettingRange)) (Some WordRange)) (Some Unlike)

-- yes exactly where both give equal outputs at the word
abbrev pub Matched : Sheet → Sheet → ℕ → ℕ → Result Bool Refusal → Type 0
Matched t s setting word r =
    MatchResult r (λ yes. (match_refusal t s setting word ≡ None) × Decides yes (Matches t s setting word)) (λ e. match_refusal t s setting word ≡ Some e)

-- why trying every word is refused, the lowest number first
abbrev pub try_refusal : Sheet → Sheet → ℕ → Option Refusal
try_refusal t s setting = cond (alike t s) (cond (nat_lt setting (2 ^ total_rows t.gates)) None (Some SettingRange)) (Some Unlike)

-- the lowest word from `from` on, below 2^n, at which the outputs differ; or none
abbrev pub Lowest : Sheet → Sheet → ℕ → ℕ → Option ℕ → Type 0
Lowest t s setting from o =
    options.MatchOption o ((w : ℕ) → from ≤ w → w < 2 ^ t.inputs → Matches t s setting w)
    (λ x. (from ≤ x) × (x < 2 ^ t.inputs) × (Matches t s setting x → ⊥) × ((w : ℕ) → from ≤ w → w < x → Matches t s setting w))

abbrev pub Tried : Sheet → Sheet → ℕ → ℕ → Result (Option ℕ) Refusal → Type 0
Tried t s setting from r = MatchResult r (λ o. (try_refusal t s setting ≡ None) × Lowest t s setting from o) (λ e. try_refusal t s setting ≡ Some e)

-- a list of bits as a number, the first the lowest bit
abbrev pub as_number : List Bool → ℕ
as_number [] = 0
as_number (b ∷ bs) = cond b 1 0 + 2 * as_number bs

-- why a circuit's outputs are refused
abbrev pub outputs_refusal : Sheet → ℕ → ℕ → Option Refusal
outputs_refusal s setting word = cond (nat_lt word (2 ^ s.inputs)) (cond (nat_lt setting (2 ^ total_rows s.gates)) None (Some SettingRange)) (Some WordRange)

-- the outputs as one number
abbrev pub Numbered : Sheet → ℕ → ℕ → Result ℕ Refusal → Type 0
Numbered s setting word r =
    MatchResult r (λ v. (outputs_refusal s setting word ≡ None) × (v ≡ as_number (outputs_at s setting word))) (λ e. outputs_refusal s setting word ≡ Some e)
