-- A text that was written in pieces.
use Rattle.std.proofs.Common.{◌≡◌, ℕ, List, [], ◌∷◌, ◌++◌, append-nil, append_assoc, sym, ap, ◌∙◌, subst}
use Rattle.std.specs.List.{FoldsTo, concat}
use Rattle.std.specs.Fmt.{WritesInCalls}
use Rattle.std.specs.Fmt.InlineText.{inline_text, IsIntact, AppendsIfIntact}
use Rattle.std.specs.declared.fmt.InlineText.{InlineText}

module _ {n : ℕ} where
  joined : (s : InlineText n) (pieces : List (List ℕ)) (t : InlineText n) → FoldsTo AppendsIfIntact s pieces t → AppendsIfIntact s (concat pieces) t
  joined s [] t same intact = (subst IsIntact same intact, ap inline_text (sym same) ∙ sym (append-nil (inline_text s)))
  joined s (x ∷ pieces) t calls intact =
      let first = calls.1 intact in
      let rest = joined calls.0 pieces t calls.2 first.0 in
      (rest.0, rest.1 ∙ ap (λ l. l ++ concat pieces) first.1 ∙ append_assoc (inline_text s) x (concat pieces))

  -- what was empty holds what was written
  pub written : (s : InlineText n) (bs : List ℕ) (t : InlineText n) → IsIntact s → inline_text s ≡ [] → WritesInCalls AppendsIfIntact s bs t → inline_text t ≡ bs
  written s bs t intact empty calls = (joined s calls.parts t calls.calls intact).1 ∙ ap (λ l. l ++ concat calls.parts) empty ∙ calls.whole
