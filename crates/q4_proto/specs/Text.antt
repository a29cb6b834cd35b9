-- What is written for each outcome.
use Rattle.std.specs.Prelude.{◌≡◌, ◌≢◌, ◌≤◌, ◌==◌, ◌++◌, ◌∷◌, ℕ, List, [], Option, Some, None, All, decimal, codes, length, if◌then◌else◌}
use Rattle.std.specs.List.{flat_map}
use Rattle.std.specs.Option.{IsSomeAnd}
use Rattle.q4_value.specs.declared.row.Value.{Value as RowValue}
use Rattle.q4_cond.specs.declared.fault.CondFault.TheVariants as cond_fault
use Rattle.q4_machine.specs.declared.shown.NumberedRow.{NumberedRow}
use Rattle.q4_proto.specs.declared.command.CommandFault.{CommandFault}
use Rattle.q4_proto.specs.declared.command.CommandFault.TheVariants.{NotText, Unknown, NotBuilt, Fields, Number, Escape, Entries, NoTable, Cond, Count, Value, Long, Memory}
use Rattle.q4_proto.specs.declared.reply.Code.{Code}
use Rattle.q4_proto.specs.Told as told
use Rattle.q4_proto.specs.Commands.{spelled_value}

-- the words of a code's line, and how many numbers stand behind them
pub record Words : Type 0 where
  pub words : List ℕ
  pub numbers : ℕ

abbrev pub entry : List ℕ → ℕ → Option Words
entry words numbers = Some (record { words = words; numbers = numbers })

-- the table of refusals, by their codes
abbrev pub refusal_words : ℕ → Option Words
refusal_words number =
    if number == 10 then entry (codes "not UTF-8") 0
    else if number == 11 then entry (codes "unknown command") 0
    else if number == 12 then entry (codes "wrong number of fields") 0
    else if number == 13 then entry (codes "bad number") 1
    else if number == 14 then entry (codes "bad escape") 1
    else if number == 15 then entry (codes "bad label") 0
    else if number == 19 then entry (codes "not built") 0
    else if number == 20 then entry (codes "wrong number of values") 1
    else if number == 21 then entry (codes "no table") 1
    else if number == 22 then entry (codes "bad value") 1
    else if number == 23 then entry (codes "row too long") 0
    else if number == 24 then entry (codes "bad condition") 2
    else if number == 25 then entry (codes "too many entries") 0
    else if number == 27 then entry (codes "condition too deep") 2
    else if number == 28 then entry (codes "no column") 2
    else if number == 29 then entry (codes "wrong kinds") 2
    else if number == 30 then entry (codes "condition too long") 2
    else if number == 31 then entry (codes "not in owner mode") 0
    else if number == 32 then entry (codes "no owned row") 0
    else if number == 41 then entry (codes "table full") 0
    else if number == 42 then entry (codes "table bytes") 1
    else if number == 44 then entry (codes "numbers used up") 0
    else if number == 60 then entry (codes "line too long") 0
    else if number == 61 then entry (codes "partial line") 0
    else if number == 70 then entry (codes "history full") 1
    else if number == 90 then entry (codes "out of memory") 0
    else None

-- how many numbers a code has: the second one only behind a first
abbrev pub count_of : Option ℕ → Option ℕ → Option ℕ
count_of None None = Some 0
count_of (Some first) None = Some 1
count_of (Some first) (Some second) = Some 2
count_of None (Some second) = None

-- The code stands in the table, and has the numbers that its line names.
abbrev pub IsCode : Code → Type 0
IsCode code = IsSomeAnd (refusal_words code.number) (λ line. count_of code.first code.second ≡ Some line.numbers)

-- A code is one of the table, and rows are at most 1,000, each with a value.
abbrev pub IsOutcome : told.Told → Type 0
IsOutcome told.Ok = Unit {0}
IsOutcome (told.Number number) = Unit {0}
IsOutcome (told.Seen mark) = Unit {0}
IsOutcome (told.Rows rows) = (length rows ≤ 1000) × All (λ (shown : NumberedRow). shown.row ≢ []) rows
IsOutcome told.Bye = Unit {0}
IsOutcome (told.Refused code) = IsCode code

-- a number behind a TAB
abbrev pub tab_number : Option ℕ → List ℕ
tab_number None = []
tab_number (Some number) = 9 ∷ decimal number

abbrev pub words_of : Option Words → List ℕ
words_of None = []
words_of (Some line) = line.words

-- a value behind a TAB
abbrev pub tab_value : RowValue → List ℕ
tab_value value = 9 ∷ spelled_value value

-- the line of a row: its number, and its values
abbrev pub row_line : NumberedRow → List ℕ
row_line shown = codes "row\t" ++ decimal shown.number ++ flat_map tab_value shown.row ++ codes "\n"

-- what is written for an outcome: its line, and the lines of the rows
abbrev pub text : told.Told → List ℕ
text told.Ok = codes "ok\n"
text (told.Number number) = codes "ok\t" ++ decimal number ++ codes "\n"
text (told.Seen mark) = codes "seen\t" ++ decimal mark ++ codes "\n"
text (told.Rows rows) = codes "rows\t" ++ decimal (length rows) ++ codes "\n" ++ flat_map row_line rows
text told.Bye = codes "bye\n"
text (told.Refused code) = codes "err\t" ++ decimal code.number ++ 9 ∷ words_of (refusal_words code.number) ++ tab_number code.first ++ tab_number code.second ++ codes "\n"

-- what stands before each line of a reply behind a label: its digits and a space
abbrev pub label_front : Option ℕ → List ℕ
label_front None = []
label_front (Some label) = decimal label ++ codes " "

-- the text of an outcome with this before each of its lines
abbrev pub text_behind : Option ℕ → told.Told → List ℕ
text_behind label (told.Rows rows) = label_front label ++ codes "rows\t" ++ decimal (length rows) ++ codes "\n" ++ flat_map (λ shown. label_front label ++ row_line shown) rows
text_behind label outcome = label_front label ++ text outcome

-- a code without numbers, with one, and with two
abbrev pub code : ℕ → Code
code number = record { number = number; first = None; second = None }

abbrev pub code_at : ℕ → ℕ → Code
code_at number first = record { number = number; first = Some first; second = None }

abbrev pub code_within : ℕ → ℕ → ℕ → Code
code_within number first second = record { number = number; first = Some first; second = Some second }

-- the code of a line that spells no command
abbrev pub fault_code : CommandFault → Code
fault_code NotText = code 10
fault_code Unknown = code 11
fault_code NotBuilt = code 19
fault_code Fields = code 12
fault_code (Number field) = code_at 13 field
fault_code (Escape field) = code_at 14 field
fault_code Entries = code 25
fault_code (NoTable field) = code_at 21 field
fault_code (Cond entry cond_fault.Long) = code_within 30 entry 1024
fault_code (Cond entry (cond_fault.At place)) = code_within 24 entry place
fault_code (Cond entry (cond_fault.Deep place)) = code_within 27 entry place
fault_code (Cond entry (cond_fault.NoColumn place)) = code_within 28 entry place
fault_code (Cond entry (cond_fault.Kinds place)) = code_within 29 entry place
fault_code (Cond entry cond_fault.Memory) = code 90
fault_code (Count columns) = code_at 20 columns
fault_code (Value column) = code_at 22 column
fault_code Long = code 23
fault_code Memory = code 90
