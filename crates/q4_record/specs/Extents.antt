-- How far a value or a row goes whose texts may be of any length.
use Rattle.std.specs.Prelude.{◌≡◌, ◌≢◌, ◌++◌, ◌||◌, ◌⊎◌, [], ◌∷◌, ℕ, Bool, true, false, List, length}
use Rattle.std.specs.List.{list_any}
use Rattle.q4_value.specs.declared.column.Column.{Column}
use Rattle.q4_value.specs.declared.column.Kind.{Kind}
use Rattle.q4_value.specs.declared.column.Kind.TheVariants as kind
use Rattle.q4_value.specs.declared.row.Value.{Value}
use Rattle.q4_value.specs.Row.{IsOf, Takes}
use Rattle.q4_value.specs.Reading.{IsIllFormed}
use Rattle.q4_value.specs.Spelling.{value_bytes, cell_bytes, row_bytes}
use Rattle.q4_record.specs.declared.extent.Extent.{Extent}
use Rattle.q4_record.specs.declared.extent.Extent.TheVariants.{Whole, Cut, Unreadable}
use Rattle.q4_record.specs.Wide.{IsWideValue, IsWideRow, is_long, EndsInValue, EndsInCell, tells_long, cell_tells_long, ReachesColumn}

-- A number or text of the kind is spelled at the front.
pub record WholeValue (kind : Kind) (bytes : List ℕ) (len : ℕ) (long : Bool) : Type 0 where
  pub value : Value
  pub rest : List ℕ
  pub is_of : IsOf kind value
  pub is : IsWideValue value
  pub bytes_are : bytes ≡ value_bytes value ++ rest
  pub len_is : len ≡ length (value_bytes value)
  pub long_is : long ≡ is_long value

-- the bytes of a text are all there and are not UTF-8
abbrev pub IsIllValue : Kind → List ℕ → Type 0
IsIllValue kind.Int bytes = ⊥
IsIllValue kind.Words bytes = IsIllFormed bytes

-- What the bytes hold in the place of a value of the kind, and whether a text begins there that is told to be too long.
abbrev pub IsValueExtent : Kind → List ℕ → Extent → Bool → Type 0
IsValueExtent kind bytes (Whole len) long = WholeValue kind bytes len long
IsValueExtent kind bytes Cut long = EndsInValue kind bytes × (long ≡ tells_long kind bytes)
IsValueExtent kind bytes Unreadable long = IsIllValue kind bytes

-- What stands for a value of the column is spelled at the front.
pub record WholeCell (column : Column) (bytes : List ℕ) (len : ℕ) (long : Bool) : Type 0 where
  pub value : Value
  pub rest : List ℕ
  pub takes : Takes column value
  pub is : IsWideValue value
  pub bytes_are : bytes ≡ cell_bytes column value ++ rest
  pub len_is : len ≡ length (cell_bytes column value)
  pub long_is : long ≡ is_long value

-- the flag is neither 0 nor 1, or it is 1 and the text behind it is ill-formed
abbrev pub IsIllBehindFlag : Kind → List ℕ → Type 0
IsIllBehindFlag kind [] = ⊥
IsIllBehindFlag kind (flag ∷ rest) = ((flag ≢ 0) × (flag ≢ 1)) ⊎ ((flag ≡ 1) × IsIllValue kind rest)

-- by whether the column is optional
abbrev pub IsIllBy : Bool → Kind → List ℕ → Type 0
IsIllBy true kind bytes = IsIllBehindFlag kind bytes
IsIllBy false kind bytes = IsIllValue kind bytes

-- no value of this column can be read there, whatever follows
abbrev pub IsIllCell : Column → List ℕ → Type 0
IsIllCell column bytes = IsIllBy column.optional column.kind bytes

-- the same as above, for the value of a column with its flag
abbrev pub IsCellExtent : Column → List ℕ → Extent → Bool → Type 0
IsCellExtent column bytes (Whole len) long = WholeCell column bytes len long
IsCellExtent column bytes Cut long = EndsInCell column bytes × (long ≡ cell_tells_long column bytes)
IsCellExtent column bytes Unreadable long = IsIllCell column bytes

-- A row of the columns is spelled at the front.
pub record WholeRow (columns : List Column) (bytes : List ℕ) (len : ℕ) (long : Bool) : Type 0 where
  pub row : List Value
  pub rest : List ℕ
  pub is : IsWideRow columns row
  pub bytes_are : bytes ≡ row_bytes columns row ++ rest
  pub len_is : len ≡ length (row_bytes columns row)
  pub long_is : long ≡ list_any is_long row

-- The bytes end within the row.
pub record CutRow (columns : List Column) (bytes : List ℕ) (long : Bool) : Type 0 where
  pub column : Column
  pub front : List Value
  pub rest : List ℕ
  pub reaches : ReachesColumn columns bytes column front rest
  pub ends : EndsInCell column rest
  pub long_is : long ≡ (list_any is_long front || cell_tells_long column rest)

-- A flag of the row is neither 0 nor 1, or a text of it is not UTF-8.
pub record IllRow (columns : List Column) (bytes : List ℕ) : Type 0 where
  pub column : Column
  pub front : List Value
  pub rest : List ℕ
  pub reaches : ReachesColumn columns bytes column front rest
  pub ill : IsIllCell column rest

abbrev pub IsRowExtent : List Column → List ℕ → Extent → Bool → Type 0
IsRowExtent columns bytes (Whole len) long = WholeRow columns bytes len long
IsRowExtent columns bytes Cut long = CutRow columns bytes long
IsRowExtent columns bytes Unreadable long = IllRow columns bytes
