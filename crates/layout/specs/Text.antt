-- What stands in the columns of a field and of a row.
use Rattle.std.specs.Prelude.{ℕ, ◌+◌, ◌-◌, ◌*◌, ◌/◌, ◌%◌, Bool, cond, List, [], ◌∷◌, ◌++◌, Some, None, Ok, Err, Option, Result, nat_lt, slice_index}
use Rattle.std.specs.List.{slice_get}
use Rattle.std.specs.Str.{bytes_eq}
use Rattle.refusal.specs.declared.refusal.Refusal.{Refusal}
use Rattle.refusal.specs.declared.refusal.Refusal.TheVariants.{FieldForm}
use Rattle.refusal.specs.declared.fault.Fault.{Fault}
use Rattle.refusal.specs.Numbers.{number_of}

-- A column of that weight before the last: a space in a blank field and before a number's first digit, else a digit.
abbrev pub column : ℕ → Option ℕ → ℕ
column p None = 32
column p (Some n) = cond (nat_lt n p) 32 (48 + n / p % 10)

abbrev pub last_column : Option ℕ → ℕ
last_column None = 32
last_column (Some n) = 48 + n % 10

-- the five columns of a field: blank, or a number below 100,000 with spaces before it and no leading zero
abbrev pub columns : Option ℕ → List ℕ
columns v = column 10000 v ∷ column 1000 v ∷ column 100 v ∷ column 10 v ∷ last_column v ∷ []

-- the row of a letter and numbers: the numbers in the first fields, the other fields blank
abbrev pub row_text : ℕ → List ℕ → List ℕ
row_text letter ns =
    letter ∷ (columns (slice_get ns 0) ++ (columns (slice_get ns 1) ++ (columns (slice_get ns 2)
    ++ (columns (slice_get ns 3) ++ (columns (slice_get ns 4) ++ (columns (slice_get ns 5) ++ (10 ∷ [])))))))

-- the sum of five columns by weight, a space as 0: the number of a field that holds one
abbrev pub decoded : List ℕ → ℕ
decoded x = (slice_index x 0 - 48) * 10000 + (slice_index x 1 - 48) * 1000 + (slice_index x 2 - 48) * 100 + (slice_index x 3 - 48) * 10 + (slice_index x 4 - 48)

abbrev pub blank : List ℕ → Bool
blank x = bytes_eq x (columns None)

-- the columns are those of a number
abbrev pub numeral : List ℕ → Bool
numeral x = bytes_eq x (columns (Some (decoded x)))

-- what five columns hold
abbrev pub field_value : List ℕ → Result (Option ℕ) Refusal
field_value x = cond (blank x) (Ok None) (cond (numeral x) (Ok (Some (decoded x))) (Err FieldForm))

-- the row of a fault: 'F', then its number, sheet, row and column
abbrev pub fault_text : Fault → List ℕ
fault_text f = row_text 70 (number_of f.refusal ∷ f.sheet ∷ f.row ∷ f.column ∷ [])
