-- What the records of a side are, and the one spelling of each. Numbers are spelled with the highest byte first.
use Rattle.std.specs.Prelude.{◌≡◌, ◌<◌, ◌^◌, ℕ, List, [], ◌∷◌, ◌++◌, Option, None, Some}
use Rattle.std.specs.Int.{w64, to_be_bytes}
use Rattle.std.specs.List.{flat_map}
use Rattle.q4_value.specs.declared.column.Column.{Column}
use Rattle.q4_value.specs.declared.row.Value.{Value}
use Rattle.q4_value.specs.Spelling.{row_bytes}
use Rattle.q4_table.specs.declared.origin.Mode.{Mode}
use Rattle.q4_table.specs.declared.origin.Mode.TheVariants.{A, W}
use Rattle.q4_table.specs.declared.origin.Origin.{Origin}
use Rattle.q4_record.specs.declared.head.Head.{Head}
use Rattle.q4_record.specs.declared.head.Head.TheVariants.{Insert, End, Mark, Next}
use Rattle.q4_record.specs.Wide.{IsWideRow}

-- a record: what it tells first, and behind that of an insert the row, with the columns that the row is spelled by
pub record Record : Type 0 where
  pub head : Head
  pub columns : List Column
  pub row : List Value

abbrev pub mode_byte : Mode → ℕ
mode_byte A = 1
mode_byte W = 2

-- 1 for an insert, or 2 where it was forwarded, with its source, mode and number there; 3 for an end, 5 for a mark, 6
-- for a next number
abbrev pub head_bytes : Head → List ℕ
head_bytes (Insert number None) = 1 ∷ to_be_bytes w64 number
head_bytes (Insert number (Some origin)) =
    2 ∷ origin.source ∷ mode_byte origin.mode ∷ to_be_bytes w64 origin.number ++ to_be_bytes w64 number
head_bytes (End number) = 3 ∷ to_be_bytes w64 number
head_bytes (Mark source number) = 5 ∷ source ∷ to_be_bytes w64 number
head_bytes (Next number) = 6 ∷ to_be_bytes w64 number

abbrev pub record_bytes : Record → List ℕ
record_bytes r = head_bytes r.head ++ row_bytes r.columns r.row

abbrev pub records_bytes : List Record → List ℕ
records_bytes records = flat_map record_bytes records

-- an origin's number has 64 bits
abbrev pub IsSpelledOrigin : Option Origin → Type 0
IsSpelledOrigin None = Unit {0}
IsSpelledOrigin (Some origin) = origin.number < 2 ^ 64

-- Each number has 64 bits.
abbrev pub IsHead : Head → Type 0
IsHead (Insert number origin) = (number < 2 ^ 64) × IsSpelledOrigin origin
IsHead (End number) = number < 2 ^ 64
IsHead (Mark source number) = number < 2 ^ 64
IsHead (Next number) = number < 2 ^ 64

-- the columns of the row behind it: none where there is no row
abbrev pub row_columns : List Column → Head → List Column
row_columns columns (Insert number origin) = columns
row_columns columns (End number) = []
row_columns columns (Mark source number) = []
row_columns columns (Next number) = []

-- A record that can be spelled. Its texts are of any length that can be told.
pub record IsRecord (columns : List Column) (r : Record) : Type 0 where
  pub head : IsHead r.head
  pub columns_are : r.columns ≡ row_columns columns r.head
  pub row : IsWideRow (row_columns columns r.head) r.row
