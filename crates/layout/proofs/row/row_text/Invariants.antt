use Rattle.std.proofs.Common.{◌≡◌, take}
use Rattle.layout.specs.Text.{row_text}
use Rattle.layout.proofs.row.row_text.Given as goal

-- the fields so far hold their numbers, and the others are blank
abbrev pub invariant-loop-j : goal.invariant-loop-j
invariant-loop-j l = l.row ≡ row_text l.letter (take l.j l.numbers)
