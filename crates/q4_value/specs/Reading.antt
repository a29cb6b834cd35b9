-- Which row stands at the front of bytes, and where and why none does.
use Rattle.std.specs.Prelude.{◌≡◌, ◌≢◌, ℕ, ◌+◌, ◌<◌, ◌≤◌, ◌⊎◌, Bool, true, false, List, [], ◌∷◌, ◌++◌, length, take, drop}
use Rattle.std.specs.Int.{w32, from_be_bytes}
use Rattle.std.specs.Str.{IsUtf8}
use Rattle.q4_value.specs.declared.column.Column.{Column}
use Rattle.q4_value.specs.declared.column.Kind.{Kind}
use Rattle.q4_value.specs.declared.column.Kind.TheVariants as kind
use Rattle.q4_value.specs.declared.row.Value.{Value}
use Rattle.q4_value.specs.declared.reading.RowBytes.{RowBytes}
use Rattle.q4_value.specs.declared.reading.RowBytes.TheVariants as fault
use Rattle.q4_value.specs.Row.{text_limit, IsRowOf}
use Rattle.q4_value.specs.Spelling.{row_bytes}

-- The row, one of these columns, stands spelled at the front of the bytes and takes so many of them.
pub record Reads (columns : List Column) (bytes : List ℕ) (row : List Value) (len : ℕ) : Type 0 where
  pub row_of : IsRowOf columns row
  pub rest : List ℕ
  pub bytes_are : bytes ≡ row_bytes columns row ++ rest
  pub len_is : len ≡ length (row_bytes columns row)

-- the length of a text that the first 4 bytes tell
abbrev pub told_length : List ℕ → ℕ
told_length bytes = from_be_bytes w32 (take 4 bytes)

-- the length that is told is more than a text may have
abbrev pub TellsTooMuch : List ℕ → Type 0
TellsTooMuch bytes = (4 ≤ length bytes) × (text_limit < told_length bytes)

-- the bytes end within the text's length or within the text
abbrev pub EndsInText : List ℕ → Type 0
EndsInText bytes = (length bytes < 4) ⊎ (length bytes < 4 + told_length bytes)

-- the bytes of the text are all there, and are not UTF-8
abbrev pub IsIllFormed : List ℕ → Type 0
IsIllFormed bytes = (4 + told_length bytes ≤ length bytes) × (IsUtf8 (take (told_length bytes) (drop 4 bytes)) → ⊥)

-- Why no value of the kind can be read at the front of the bytes. What stands for it begins at this offset, and the value
-- is this column's. Too great a length goes before an early end.
abbrev pub IsUnreadable : Kind → List ℕ → ℕ → ℕ → RowBytes → Type 0
IsUnreadable kind.Int bytes offset column (fault.Short at) = (at ≡ offset) × (length bytes < 8)
IsUnreadable kind.Words bytes offset column (fault.Short at) = (at ≡ offset) × (TellsTooMuch bytes → ⊥) × EndsInText bytes
IsUnreadable kind.Words bytes offset column (fault.Large n) = (n ≡ column) × TellsTooMuch bytes
IsUnreadable kind.Words bytes offset column (fault.NotText n) = (n ≡ column) × (TellsTooMuch bytes → ⊥) × IsIllFormed bytes
IsUnreadable _ bytes offset column _ = ⊥

-- Why the value of an optional column cannot be read: its flag is missing, is neither 0 nor 1, or is 1 and the value
-- behind it cannot be read.
abbrev pub IsUnflagged : Kind → List ℕ → ℕ → ℕ → RowBytes → Type 0
IsUnflagged kind [] offset column (fault.Short at) = at ≡ offset
IsUnflagged kind [] offset column _ = ⊥
IsUnflagged kind (flag ∷ rest) offset column (fault.Flag n) = (n ≡ column) × (flag ≢ 0) × (flag ≢ 1)
IsUnflagged kind (flag ∷ rest) offset column why = (flag ≡ 1) × IsUnreadable kind rest offset column why

-- The bytes begin at this offset with what stands for the value of this column, by whether it is optional.
abbrev pub IsUnreadableBy : Bool → Kind → List ℕ → ℕ → ℕ → RowBytes → Type 0
IsUnreadableBy true kind bytes offset number why = IsUnflagged kind bytes offset number why
IsUnreadableBy false kind bytes offset number why = IsUnreadable kind bytes offset number why

abbrev pub IsUnreadableCell : Column → List ℕ → ℕ → ℕ → RowBytes → Type 0
IsUnreadableCell column bytes offset number why =
    IsUnreadableBy column.optional column.kind bytes offset number why

-- the same, where memory may be wanted too
abbrev pub ValueFails : Kind → List ℕ → ℕ → ℕ → RowBytes → Type 0
ValueFails kind bytes offset column fault.Memory = Unit {0}
ValueFails kind bytes offset column why = IsUnreadable kind bytes offset column why

abbrev pub CellFails : Column → List ℕ → ℕ → ℕ → RowBytes → Type 0
CellFails column bytes offset number fault.Memory = Unit {0}
CellFails column bytes offset number why = IsUnreadableCell column bytes offset number why

-- The values in front are read, and the next one cannot be. Columns are counted from 1.
pub record FirstUnreadable (columns : List Column) (bytes : List ℕ) (why : RowBytes) : Type 0 where
  pub before : List Column
  pub column : Column
  pub after : List Column
  pub front : List Value
  pub rest : List ℕ
  pub columns_are : columns ≡ before ++ column ∷ after
  pub row_of : IsRowOf before front
  pub bytes_are : bytes ≡ row_bytes before front ++ rest
  pub unreadable : IsUnreadableCell column rest (length (row_bytes before front)) (length before + 1) why

-- Why no row was read. Memory may be wanted at any time.
abbrev pub ReadFails : List Column → List ℕ → RowBytes → Type 0
ReadFails columns bytes fault.Memory = Unit {0}
ReadFails columns bytes why = FirstUnreadable columns bytes why
