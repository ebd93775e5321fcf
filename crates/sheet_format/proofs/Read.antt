-- What the absence of a fault says of the bytes, and what a circuit's rows owe the reader, for each role of a sheet.
use Rattle.std.proofs.Common.{◌≡◌, ℕ, ◌%◌, List, [], ◌++◌, length, None}
use Rattle.circuit.specs.Gates.{Sheet, Lawful, Plain}
use Rattle.refusal.specs.declared.role.Role.{Role}
use Rattle.refusal.specs.declared.role.Role.TheVariants.{Alone, Target, Specification}
use Rattle.sheet_format.specs.Rows.{rows}
use Rattle.sheet_format.specs.Decoding.{sheet_in}
use Rattle.sheet_format.specs.FirstFault.{sheet_fault, after_target}

-- a specification has no table
abbrev pub Suits : Role → Sheet → Type 0
Suits Alone s = Unit {0}
Suits Target s = Unit {0}
Suits Specification s = Plain s

-- what may stand after the rows: whole rows after a target, and nothing after any other sheet
abbrev pub MayFollow : Role → List ℕ → Type 0
MayFollow Alone rest = rest ≡ []
MayFollow Target rest = length rest % 32 ≡ 0
MayFollow Specification rest = rest ≡ []

-- the bytes say a lawful circuit, and are its rows and what may follow them
pub record Says (role : Role) (t : List ℕ) : Type 0 where
  pub lawful : Lawful (sheet_in t)
  pub suits : Suits role (sheet_in t)
  pub written : t ≡ rows (sheet_in t) ++ after_target t
  pub follows : MayFollow role (after_target t)

abbrev pub Sound : Type 0
Sound = (role : Role) (t : List ℕ) → sheet_fault role t ≡ None → Says role t

-- a circuit's rows are read without a fault, as that circuit
pub record Reads (role : Role) (s : Sheet) (t : List ℕ) : Type 0 where
  pub faultless : sheet_fault role t ≡ None
  pub same : sheet_in t ≡ s

abbrev pub Complete : Type 0
Complete = (role : Role) (s : Sheet) (rest : List ℕ) → Lawful s → Suits role s → MayFollow role rest → Reads role s (rows s ++ rest)
