use Rattle.std.proofs.Common.{◌≡◌, ℕ, ◌*◌, ◌<◌, List, length, take, Bor}
use Rattle.sheet.specs.Written.{laid, texts}
use Rattle.sheet.proofs.write.put_rows.Given as goal

-- the rows so far are laid over what was there
abbrev pub invariant-loop-i : goal.invariant-loop-i
invariant-loop-i g l =
    ((text : ℕ → _ → List ℕ) → ((i : ℕ) (x : Bor _) (r : _) → i < length l.items → goal.F-post g l.row_of i x r → r ≡ text i x.now)
    → (l.into ≡ laid l.initial.into 0 (texts text 0 (take l.i l.items))) × (length (texts text 0 (take l.i l.items)) ≡ 32 * l.i))
    × (length l.into ≡ length l.initial.into)
