-- How much of an input is read.
use Rattle.std.specs.Prelude.{ℕ}

-- one row of 32 bytes more than the longest pair has
abbrev pub longest : ℕ
longest = 13920
