-- The number and the words of every refusal: the one list that code and promises share.
use Rattle.std.specs.Prelude.{ℕ, List, codes}
use Rattle.refusal.specs.declared.refusal.Refusal.{Refusal}
use Rattle.refusal.specs.declared.refusal.Refusal.TheVariants.{Length, LineFeed, Letter, FieldForm, FieldRange, RowCount, TableBits, Unlike, Budget, PatternNumber, WordRange, SettingRange, TooShort, ValueCount, VariableRange, NotEnded, Ended, ListFull, PlacesLacking, StepsSpent, Searching, NoModel, NotOpened, NoMemory}

pub record Answer : Type 0 where
  pub number : ℕ
  pub words : List ℕ

-- what each refusal answers
abbrev pub answer : Refusal → Answer
answer Length = record { number = 1; words = codes "length is 0 or no multiple of 32" }
answer LineFeed = record { number = 2; words = codes "no line feed at the row's end" }
answer Letter = record { number = 3; words = codes "letter may not stand here" }
answer FieldForm = record { number = 4; words = codes "field not in form" }
answer FieldRange = record { number = 5; words = codes "number out of range" }
answer RowCount = record { number = 6; words = codes "number of rows is not what the header says" }
answer TableBits = record { number = 7; words = codes "the tables' rows pass 64" }
answer Unlike = record { number = 8; words = codes "target and specification differ in inputs or outputs" }
answer Budget = record { number = 9; words = codes "budget is not between 1 and 1000000" }
answer PatternNumber = record { number = 10; words = codes "no pattern has this number" }
answer WordRange = record { number = 11; words = codes "input word has too many bits" }
answer SettingRange = record { number = 12; words = codes "setting has too many bits" }
answer TooShort = record { number = 13; words = codes "destination is too short" }
answer ValueCount = record { number = 14; words = codes "number of values is not the circuit's" }
answer VariableRange = record { number = 15; words = codes "no variable has this number" }
answer NotEnded = record { number = 21; words = codes "session has not ended" }
answer Ended = record { number = 22; words = codes "session has ended" }
answer ListFull = record { number = 23; words = codes "256 patterns are listed and another is found" }
answer PlacesLacking = record { number = 24; words = codes "engine lacks places for the addition" }
answer StepsSpent = record { number = 25; words = codes "engine's count of steps would pass its limit" }
answer Searching = record { number = 26; words = codes "engine is searching" }
answer NoModel = record { number = 27; words = codes "engine is at no model" }
answer NotOpened = record { number = 28; words = codes "session was never opened" }
answer NoMemory = record { number = 50; words = codes "no memory" }

abbrev pub number_of : Refusal → ℕ
number_of r = (answer r).number

abbrev pub words_of : Refusal → List ℕ
words_of r = (answer r).words
