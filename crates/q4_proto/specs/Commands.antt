-- Which lines spell a command, and how other lines are refused.
use Rattle.std.specs.Prelude.{None, ◌≡◌, ◌≢◌, ◌==◌, ◌<◌, ◌≤◌, ◌-◌, ◌⊎◌, ◌++◌, ◌∷◌, [], ℕ, List, Option, Some, Result, Ok, Err, Contains, codes, decimal, length, map, take, slice_get, slice_index_or, is_some, if◌then◌else◌}
use Rattle.std.specs.List.{zip, before_first}
use Rattle.std.specs.Fmt.{signed_decimal}
use Rattle.std.specs.Str.{IsUtf8, bytes_eq}
use Rattle.q4_value.specs.declared.column.Column.{Column}
use Rattle.q4_value.specs.declared.row.Value.{Value}
use Rattle.q4_value.specs.declared.row.Value.TheVariants.{Int, Word, Null}
use Rattle.q4_value.specs.Escape.{escaped}
use Rattle.q4_value.specs.Row.{row_limit, Takes, IsValue, IsRowOf, row_size}
use Rattle.q4_cond.specs.declared.fault.CondFault as cond_fault
use Rattle.q4_cond.specs.declared.fault.CondFault.TheVariants.{Memory as CondMemory}
use Rattle.q4_cond.specs.Condition.{ReadsAs}
use Rattle.q4_cond.specs.Reading.{IsFault}
use Rattle.q4_def.specs.declared.table_def.TableDef.{TableDef}
use Rattle.q4_def.specs.Tables.{names_of}
use Rattle.q4_machine.specs.declared.looks.Listed.{Listed}
use Rattle.q4_machine.specs.Definitions.{columns_at, IsRowFor}
use Rattle.q4_proto.specs.declared.command.Command as command
use Rattle.q4_proto.specs.declared.command.Command.TheVariants as spelled
use Rattle.q4_proto.specs.declared.command.CommandFault.{CommandFault}
use Rattle.q4_proto.specs.declared.command.CommandFault.TheVariants.{NotText, Unknown, NotBuilt, Fields, Number, Escape, Entries, NoTable, Cond, Count, Value as BadValue, Long, Memory}
use Rattle.q4_proto.specs.declared.keyword.Keyword.{Keyword}
use Rattle.q4_proto.specs.declared.keyword.Keyword.TheVariants.{Insert, Source, Wait, RowId, End, Abort, Select, Compact, Quit}
use Rattle.q4_proto.specs.Fields.{fields_of, IsSpelled, IsFirst}

-- the word of a command, which is the first field of its lines
abbrev pub word_of : Keyword → List ℕ
word_of Insert = codes "insert"
word_of Source = codes "srcid"
word_of Wait = codes "wait"
word_of RowId = codes "rowid"
word_of End = codes "end"
word_of Abort = codes "abort"
word_of Select = codes "select"
word_of Compact = codes "compact"
word_of Quit = codes "quit"

-- ## What the fields behind the word spell

-- null stands as a backslash and N, which is the spelling of no text
abbrev pub null_field : List ℕ
null_field = 92 ∷ 78 ∷ []

-- how a value stands in a field
abbrev pub spelled_value : Value → List ℕ
spelled_value (Int number) = signed_decimal number
spelled_value (Word text) = escaped text
spelled_value Null = null_field

-- An insert: the name of the table at this place, and a value for each of its columns.
pub record SpellsInsert (defs : List TableDef) (args : List (List ℕ)) (place : ℕ) (row : List Value) : Type 0 where
  pub name : List ℕ
  pub is_table : slice_get (names_of defs) place ≡ Some name
  pub args_are : args ≡ escaped name ∷ map spelled_value row
  pub row_is : IsRowFor defs place row

-- A select: the name of the table at this place, and the most rows, at most 1,000.
pub record SpellsSelect (defs : List TableDef) (args : List (List ℕ)) (place most : ℕ) : Type 0 where
  pub name : List ℕ
  pub is_table : slice_get (names_of defs) place ≡ Some name
  pub args_are : args ≡ escaped name ∷ decimal most ∷ []
  pub few : most ≤ 1000

-- what stands behind a `=` at the front
abbrev pub behind_equal : List ℕ → Option (List ℕ)
behind_equal [] = None
behind_equal (b ∷ rest) = if b == 61 then Some rest else None

-- The seconds of a wait are what stands behind the `=` of a last field that begins with one.
abbrev pub seconds_of : List (List ℕ) → Option (List ℕ)
seconds_of args = behind_equal (slice_index_or args (length args - 1) [])

-- its entries are the other fields
abbrev pub entries_of : List (List ℕ) → List (List ℕ)
entries_of args = if is_some (seconds_of args) then take (length args - 1) args else args

-- The seconds are at most 3,600, and 60 where no field gives them.
abbrev pub IsSeconds : Option (List ℕ) → ℕ → Type 0
IsSeconds None seconds = seconds ≡ 60
IsSeconds (Some digits) seconds = (digits ≡ decimal seconds) × (seconds ≤ 3600)

-- An entry of a wait is the name of a table, or the name, `:` and the text of a condition. The name alone has the text
-- without a byte.
abbrev pub IsEntry : List ℕ → List ℕ → List ℕ → Type 0
IsEntry field name text = ((field ≡ escaped name) × (text ≡ [])) ⊎ (field ≡ escaped (name ++ 58 ∷ text))

-- The entry has a condition on the columns of its table.
pub record SpellsEntry (defs : List TableDef) (field : List ℕ) (listed : Listed) : Type 0 where
  pub name : List ℕ
  pub is_table : slice_get (names_of defs) listed.table ≡ Some name
  pub text : List ℕ
  pub field_is : IsEntry field name text
  pub cond_is : ReadsAs (columns_at defs listed.table) text listed.cond

-- Each entry spells the one at its place in the list.
abbrev pub SpellEntries : List TableDef → List (List ℕ) → List Listed → Type 0
SpellEntries defs [] [] = Unit {0}
SpellEntries defs (field ∷ fields) (listed ∷ list) = SpellsEntry defs field listed × SpellEntries defs fields list
SpellEntries defs _ _ = ⊥

-- A wait: 1 to 16 entries, and the seconds.
pub record SpellsWait (defs : List TableDef) (args : List (List ℕ)) (list : List Listed) (seconds : ℕ) : Type 0 where
  pub some : entries_of args ≢ []
  pub few : length (entries_of args) ≤ 16
  pub entries : SpellEntries defs (entries_of args) list
  pub seconds_are : IsSeconds (seconds_of args) seconds

-- The fields behind this word spell the command.
abbrev pub Spells : List TableDef → Keyword → List (List ℕ) → command.Command → Type 0
Spells defs Insert args (spelled.Insert place row) = SpellsInsert defs args place row
Spells defs Wait args (spelled.Wait list seconds) = SpellsWait defs args list seconds
Spells defs RowId args spelled.RowId = args ≡ []
Spells defs End args spelled.End = args ≡ []
Spells defs Abort args spelled.Abort = args ≡ []
Spells defs Select args (spelled.Select place most) = SpellsSelect defs args place most
Spells defs Quit args spelled.Quit = args ≡ []
Spells defs _ args _ = ⊥

-- ## Why they are refused

-- The command is not built.
abbrev pub IsNotBuilt : Keyword → Type 0
IsNotBuilt Source = Unit {0}
IsNotBuilt Compact = Unit {0}
IsNotBuilt _ = ⊥

-- There are too few or too many fields: for an insert no table, for a wait no entry, for a select other than two, for the
-- others any.
abbrev pub IsWrongCount : Keyword → List (List ℕ) → Type 0
IsWrongCount Insert args = args ≡ []
IsWrongCount Source args = ⊥
IsWrongCount Wait args = entries_of args ≡ []
IsWrongCount Select args = length args ≢ 2
IsWrongCount Compact args = ⊥
IsWrongCount _ args = args ≢ []

-- No number up to the most is spelled so.
abbrev pub IsNoNumber : ℕ → List ℕ → Type 0
IsNoNumber most digits = (number : ℕ) → number ≤ most → digits ≡ decimal number → ⊥

-- This field, counted from 1, should be a number, and is none or too large: the seconds of a wait, or the most of a select.
abbrev pub IsBadNumber : Keyword → List (List ℕ) → ℕ → Type 0
IsBadNumber Wait args field = (digits : List ℕ) × (seconds_of args ≡ Some digits) × (field ≡ length args) × IsNoNumber 3600 digits
IsBadNumber Select args field = (name : List ℕ) × (digits : List ℕ) × (args ≡ name ∷ digits ∷ []) × (field ≡ 2) × IsNoNumber 1000 digits
IsBadNumber _ args field = ⊥

-- the field of a value as one of a text: null has no bad escape, so it counts as the empty text
abbrev pub text_of_value : List ℕ → List ℕ
text_of_value field = if bytes_eq field null_field then [] else field

-- the fields of an insert as texts; the table's field is no value, so null has a bad escape there
abbrev pub insert_texts : List (List ℕ) → List (List ℕ)
insert_texts [] = []
insert_texts (table ∷ values) = table ∷ map text_of_value values

-- the fields that are texts, which are all that are no numbers of code 13
abbrev pub text_fields : Keyword → List (List ℕ) → List (List ℕ)
text_fields Insert args = insert_texts args
text_fields Wait args = entries_of args
text_fields Select args = take 1 args
text_fields _ args = []

-- There are more than 16 entries.
abbrev pub IsTooMany : Keyword → List (List ℕ) → Type 0
IsTooMany Wait args = 16 < length (entries_of args)
IsTooMany _ args = ⊥

-- the fields that name tables
abbrev pub table_fields : Keyword → List (List ℕ) → List (List ℕ)
table_fields Insert args = take 1 args
table_fields Wait args = entries_of args
table_fields Select args = take 1 args
table_fields _ args = []

-- The field names this table: all of its text does, and in a wait what stands before its first `:`.
abbrev pub NamesTable : Keyword → List ℕ → List ℕ → Type 0
NamesTable Wait field name = (text : List ℕ) × (field ≡ escaped text) × (name ≡ before_first (λ b. b == 58) text)
NamesTable _ field name = field ≡ escaped name

-- No table has the name.
abbrev pub IsOfNoTable : List TableDef → Keyword → List ℕ → Type 0
IsOfNoTable defs keyword field = (name : List ℕ) → NamesTable keyword field name → Contains (names_of defs) name → ⊥

-- The entry's condition is refused with this fault.
pub record EntryFails (defs : List TableDef) (field : List ℕ) (why : cond_fault.CondFault) : Type 0 where
  pub place : ℕ
  pub name : List ℕ
  pub is_table : slice_get (names_of defs) place ≡ Some name
  pub text : List ℕ
  pub field_is : IsEntry field name text
  pub fails : IsFault (columns_at defs place) text why
  pub told : why ≢ CondMemory

-- This entry of these, counted from 1, is the first whose condition is refused.
pub record FirstEntryFails (defs : List TableDef) (entries : List (List ℕ)) (entry : ℕ) (why : cond_fault.CondFault) : Type 0 where
  pub first : IsFirst (λ field. (other : cond_fault.CondFault) × EntryFails defs field other) entries entry
  pub fails : EntryFails defs first.found why

-- The fields of an insert name the table at this place, and then have these values.
pub record IsInsertInto (defs : List TableDef) (args : List (List ℕ)) (place : ℕ) (values : List (List ℕ)) : Type 0 where
  pub name : List ℕ
  pub is_table : slice_get (names_of defs) place ≡ Some name
  pub args_are : args ≡ escaped name ∷ values

-- No value that the column takes is spelled so.
abbrev pub IsNoValue : Column → List ℕ → Type 0
IsNoValue column field = (value : Value) → Takes column value → IsValue value → field ≡ spelled_value value → ⊥

abbrev pub IsMisspelled : Column × List ℕ → Type 0
IsMisspelled pair = IsNoValue pair.0 pair.1

-- There are as many values as columns, and this one, counted from 1, is the first that is none of its column.
pub record FirstMisspelled (columns : List Column) (values : List (List ℕ)) (column : ℕ) : Type 0 where
  pub same : length values ≡ length columns
  pub first : IsFirst IsMisspelled (zip columns values) column

-- The values are a row of these columns that is too large.
pub record IsLongRow (columns : List Column) (values : List (List ℕ)) : Type 0 where
  pub row : List Value
  pub row_of : IsRowOf columns row
  pub values_are : values ≡ map spelled_value row
  pub long : row_limit < row_size row

-- The fault stands in the fields behind this word. Fields and entries are counted from 1.
abbrev pub Stands : List TableDef → Keyword → List (List ℕ) → CommandFault → Type 0
Stands defs keyword args NotBuilt = IsNotBuilt keyword
Stands defs keyword args Fields = IsWrongCount keyword args
Stands defs keyword args (Number field) = IsBadNumber keyword args field
Stands defs keyword args (Escape field) = IsFirst (λ f. IsSpelled f → ⊥) (text_fields keyword args) field
Stands defs keyword args Entries = IsTooMany keyword args
Stands defs keyword args (NoTable field) = IsFirst (IsOfNoTable defs keyword) (table_fields keyword args) field
Stands defs Wait args (Cond entry why) = FirstEntryFails defs (entries_of args) entry why
Stands defs Insert args (Count columns) = (place : ℕ) × (values : List (List ℕ)) × IsInsertInto defs args place values × (columns ≡ length (columns_at defs place)) × (length values ≢ columns)
Stands defs Insert args (BadValue column) = (place : ℕ) × (values : List (List ℕ)) × IsInsertInto defs args place values × FirstMisspelled (columns_at defs place) values column
Stands defs Insert args Long = (place : ℕ) × (values : List (List ℕ)) × IsInsertInto defs args place values × IsLongRow (columns_at defs place) values
Stands defs _ args _ = ⊥

-- the order of the checks
abbrev pub rank : CommandFault → ℕ
rank NotText = 0
rank Unknown = 1
rank NotBuilt = 2
rank Fields = 3
rank (Number field) = 4
rank (Escape field) = 5
rank Entries = 6
rank (NoTable field) = 7
rank (Cond entry why) = 8
rank (Count columns) = 9
rank (BadValue column) = 10
rank Long = 11
rank Memory = 12

-- No fault of an earlier check stands.
abbrev pub NoneBefore : List TableDef → Keyword → List (List ℕ) → ℕ → Type 0
NoneBefore defs keyword args order = (other : CommandFault) → rank other < order → Stands defs keyword args other → ⊥

-- The fault is the first that stands.
pub record IsRefused (defs : List TableDef) (keyword : Keyword) (args : List (List ℕ)) (fault : CommandFault) : Type 0 where
  pub stands : Stands defs keyword args fault
  pub first : NoneBefore defs keyword args (rank fault)

-- How the fields behind a word are read: the command that they spell, or the first fault. Want of memory is free.
abbrev pub ReadsFields : List TableDef → Keyword → List (List ℕ) → Result command.Command CommandFault → Type 0
ReadsFields defs keyword args (Ok command) = Spells defs keyword args command
ReadsFields defs keyword args (Err Memory) = Unit {0}
ReadsFields defs keyword args (Err fault) = IsRefused defs keyword args fault

-- ## Lines

-- The line begins with the command's word, and has these fields behind it.
abbrev pub Begins : List ℕ → Keyword → List (List ℕ) → Type 0
Begins line keyword args = fields_of line ≡ word_of keyword ∷ args

-- The line is text and has a command's word, and its other fields are read so.
pub record ReadsLine (defs : List TableDef) (line : List ℕ) (read : Result command.Command CommandFault) : Type 0 where
  pub keyword : Keyword
  pub args : List (List ℕ)
  pub text : IsUtf8 line
  pub begins : Begins line keyword args
  pub fields : ReadsFields defs keyword args read

-- How a line is read: the command that it spells, or the first refusal that applies. Want of memory is free.
abbrev pub Reads : List TableDef → List ℕ → Result command.Command CommandFault → Type 0
Reads defs line (Err NotText) = IsUtf8 line → ⊥
Reads defs line (Err Unknown) = IsUtf8 line × ((keyword : Keyword) (args : List (List ℕ)) → Begins line keyword args → ⊥)
Reads defs line (Err Memory) = Unit {0}
Reads defs line read = ReadsLine defs line read
