-- What writing leaves in a buffer.
use Rattle.std.specs.Prelude.{◌≡◌, ℕ, ◌+◌, ◌<◌, ◌≤◌, List, [], ◌∷◌, ◌++◌, length, take, drop, Result, MatchResult}
use Rattle.refusal.specs.declared.refusal.Refusal.{Refusal}
use Rattle.refusal.specs.declared.refusal.Refusal.TheVariants.{TooShort}

-- a buffer with a text laid over it from that place on
abbrev pub laid : List ℕ → ℕ → List ℕ → List ℕ
laid before at text = take at before ++ (text ++ drop (at + length text) before)

-- The buffer begins with the text, whose length is answered, and is as before after it; or it is too short, and as before.
abbrev pub Written : List ℕ → List ℕ → List ℕ → Result ℕ Refusal → Type 0
Written text before after r =
    MatchResult r (λ n. (n ≡ length text) × (n ≤ length before) × (after ≡ text ++ drop n before))
    (λ e. (e ≡ TooShort) × (length before < length text) × (after ≡ before))

-- the texts of some items one after another, each with its number, the first of them number k
abbrev pub texts : {X : Type 0} → (ℕ → X → List ℕ) → ℕ → List X → List ℕ
texts text k [] = []
texts text k (x ∷ xs) = text k x ++ texts text (k + 1) xs
