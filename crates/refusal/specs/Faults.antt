-- A fault of a sheet: a refusal with its place, and how the readers above add what they know of it.
use Rattle.std.specs.Prelude.{ℕ, cond, List, ◌++◌, codes, decimal, ◌==◌}
use Rattle.refusal.specs.declared.refusal.Refusal.{Refusal}
use Rattle.refusal.specs.declared.fault.Fault.{Fault}
use Rattle.refusal.specs.declared.role.Role.{Role}
use Rattle.refusal.specs.declared.role.Role.TheVariants.{Alone, Target, Specification}
use Rattle.refusal.specs.Numbers.{words_of}

-- the number of a sheet in its pair
abbrev pub role_number : Role → ℕ
role_number Alone = 0
role_number Target = 1
role_number Specification = 2

-- the sheet by name
abbrev pub role_words : Role → List ℕ
role_words Alone = codes "sheet"
role_words Target = codes "target"
role_words Specification = codes "specification"

-- what the sheet of that number is read as; a number that is none of a pair's is a sheet on its own
abbrev pub role_of : ℕ → Role
role_of k = cond (k == 1) Target (cond (k == 2) Specification Alone)

-- the sheets of a pair by name
abbrev pub sheet_words : ℕ → List ℕ
sheet_words k = role_words (role_of k)

-- a refusal at a column of a row whose number, and whose sheet, the caller will add
abbrev pub fault_at : Refusal → ℕ → Fault
fault_at r c = record { refusal = r; sheet = 0; row = 0; column = c }

-- the same fault, in a row of that number
abbrev pub moved_to_row : ℕ → Fault → Fault
moved_to_row k f = record { refusal = f.refusal; sheet = f.sheet; row = k; column = f.column }

-- the same fault, in a sheet of that number
abbrev pub moved_to_sheet : ℕ → Fault → Fault
moved_to_sheet k f = record { refusal = f.refusal; sheet = k; row = f.row; column = f.column }

-- words with the name of the sheet before them, where there is one
abbrev pub in_sheet_words : ℕ → List ℕ → List ℕ
in_sheet_words k w = cond (k == 0) w (sheet_words k ++ (codes ": " ++ w))

-- a fault in plain words; one of the whole sheet is in no row, and a refusal that is no sheet's has its words alone
abbrev pub fault_words : Fault → List ℕ
fault_words f =
    cond (f.row == 0)
    (in_sheet_words f.sheet (words_of f.refusal))
    (sheet_words f.sheet ++ (codes ", row " ++ (decimal f.row ++ (codes ", column " ++ (decimal f.column ++ (codes ": " ++ words_of f.refusal))))))
