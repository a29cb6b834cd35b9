-- Rows with texts of any length that can be told, and where the bytes of one end too early.
use Rattle.std.specs.Prelude.{◌≡◌, ◌<◌, ◌^◌, ◌++◌, ◌∷◌, [], ◌||◌, ◌&&◌, ◌==◌, ℕ, Bool, true, false, List, length, All, FitsSigned, nat_lt, nat_le}
use Rattle.std.specs.List.{list_any}
use Rattle.std.specs.Int.{w64}
use Rattle.std.specs.Str.{IsUtf8}
use Rattle.q4_value.specs.declared.column.Column.{Column}
use Rattle.q4_value.specs.declared.column.Kind.{Kind}
use Rattle.q4_value.specs.declared.column.Kind.TheVariants as kind
use Rattle.q4_value.specs.declared.row.Value.{Value}
use Rattle.q4_value.specs.declared.row.Value.TheVariants.{Int, Word, Null}
use Rattle.q4_value.specs.Row.{text_limit, TakeEach}
use Rattle.q4_value.specs.Reading.{told_length, EndsInText}
use Rattle.q4_value.specs.Spelling.{row_bytes}

-- a number of 64 bits, a UTF-8 text of any length that 4 bytes tell, or null
abbrev pub IsWideValue : Value → Type 0
IsWideValue (Int number) = FitsSigned w64 number
IsWideValue (Word text) = IsUtf8 text × (length text < 2 ^ 32)
IsWideValue Null = Unit {0}

-- such a value for each column, which the column takes
pub record IsWideRow (columns : List Column) (row : List Value) : Type 0 where
  pub taken : TakeEach columns row
  pub values : All IsWideValue row

-- a text that is longer than a row's may be
abbrev pub is_long : Value → Bool
is_long (Int number) = false
is_long (Word text) = nat_lt text_limit (length text)
is_long Null = false

-- the bytes end within the number or text that begins there
abbrev pub EndsInValue : Kind → List ℕ → Type 0
EndsInValue kind.Int bytes = length bytes < 8
EndsInValue kind.Words bytes = EndsInText bytes

-- the bytes end before the flag, or within the value behind the flag 1
abbrev pub EndsBehindFlag : Kind → List ℕ → Type 0
EndsBehindFlag kind [] = Unit {0}
EndsBehindFlag kind (flag ∷ rest) = (flag ≡ 1) × EndsInValue kind rest

-- by whether the column is optional
abbrev pub EndsInBy : Bool → Kind → List ℕ → Type 0
EndsInBy true kind bytes = EndsBehindFlag kind bytes
EndsInBy false kind bytes = EndsInValue kind bytes

-- the bytes end within what stands for the value of this column
abbrev pub EndsInCell : Column → List ℕ → Type 0
EndsInCell column bytes = EndsInBy column.optional column.kind bytes

-- a text begins there, and its length is told to be more than a text may have
abbrev pub tells_long : Kind → List ℕ → Bool
tells_long kind.Int bytes = false
tells_long kind.Words bytes = nat_le 4 (length bytes) && nat_lt text_limit (told_length bytes)

-- behind the flag 1 begins such a text
abbrev pub flag_tells_long : Kind → List ℕ → Bool
flag_tells_long kind [] = false
flag_tells_long kind (flag ∷ rest) = (flag == 1) && tells_long kind rest

-- by whether the column is optional
abbrev pub tells_long_by : Bool → Kind → List ℕ → Bool
tells_long_by true kind bytes = flag_tells_long kind bytes
tells_long_by false kind bytes = tells_long kind bytes

-- the value of this column begins there, and it is a text that is told to be too long
abbrev pub cell_tells_long : Column → List ℕ → Bool
cell_tells_long column bytes = tells_long_by column.optional column.kind bytes

-- The values in front are there, and here is what is left for the value of this column.
pub record ReachesColumn (columns : List Column) (bytes : List ℕ) (column : Column) (front : List Value) (rest : List ℕ) : Type 0 where
  pub before : List Column
  pub after : List Column
  pub columns_are : columns ≡ before ++ column ∷ after
  pub row_of : IsWideRow before front
  pub bytes_are : bytes ≡ row_bytes before front ++ rest

-- The bytes end within the row, and one of the texts so far is told to be too long.
pub record CutLong (columns : List Column) (bytes : List ℕ) : Type 0 where
  pub column : Column
  pub front : List Value
  pub rest : List ℕ
  pub reaches : ReachesColumn columns bytes column front rest
  pub ends : EndsInCell column rest
  pub long : (list_any is_long front || cell_tells_long column rest) ≡ true
