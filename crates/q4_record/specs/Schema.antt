-- The schema record of a side: the columns of its rows.
use Rattle.std.specs.Prelude.{◌≡◌, ◌<◌, ◌+◌, ℕ, Bool, true, false, List, [], ◌∷◌, ◌++◌, length, All}
use Rattle.std.specs.List.{flat_map}
use Rattle.q4_value.specs.declared.column.Column.{Column}
use Rattle.q4_value.specs.declared.column.Kind.{Kind}
use Rattle.q4_value.specs.declared.column.Kind.TheVariants as kind
use Rattle.q4_value.specs.Row.{IsWider, AreWider}
use Rattle.q4_record.specs.declared.header.Format.{Format}
use Rattle.q4_record.specs.declared.header.Format.TheVariants.{First, Second}
use Rattle.q4_record.specs.declared.side.SideFault.{SideFault}
use Rattle.q4_record.specs.declared.side.SideFault.TheVariants as fault

-- 1 for numbers and 2 for texts, 3 and 4 for those of an optional column
abbrev pub kind_number : Bool → Kind → ℕ
kind_number false kind.Int = 1
kind_number false kind.Words = 2
kind_number true kind.Int = 3
kind_number true kind.Words = 4

abbrev pub kind_byte : Column → ℕ
kind_byte column = kind_number column.optional column.kind

-- the kind, the length of the name, and the name
abbrev pub column_bytes : Column → List ℕ
column_bytes column = kind_byte column ∷ length column.name ∷ column.name

-- 7, the number of columns, and each column
abbrev pub schema_bytes : List Column → List ℕ
schema_bytes columns = 7 ∷ length columns ∷ flat_map column_bytes columns

-- The number of columns and the length of each name fit a byte.
pub record IsSchema (columns : List Column) : Type 0 where
  pub few : length columns < 256
  pub names : All (λ column. length column.name < 256) columns

-- in the first format no column is optional
abbrev pub MayHave : Format → Column → Type 0
MayHave First column = column.optional ≡ false
MayHave Second column = Unit {0}

-- Columns that a schema of the format can spell.
pub record IsSchemaOf (format : Format) (columns : List Column) : Type 0 where
  pub is : IsSchema columns
  pub may : All (MayHave format) columns

-- the first column given neither is that told nor is wider, or is there in one list alone
abbrev pub DifferFirst : List Column → List Column → Type 0
DifferFirst [] [] = ⊥
DifferFirst [] (d ∷ ds) = Unit {0}
DifferFirst (c ∷ cs) [] = Unit {0}
DifferFirst (c ∷ cs) (d ∷ ds) = IsWider c d → ⊥

-- Each column before this one is that told or is wider, counted from 1, and this one is not.
pub record DifferAt (columns others : List Column) (number : ℕ) : Type 0 where
  pub front : List Column
  pub other_front : List Column
  pub rest : List Column
  pub other_rest : List Column
  pub columns_are : columns ≡ front ++ rest
  pub others_are : others ≡ other_front ++ other_rest
  pub agree : AreWider front other_front
  pub differ : DifferFirst rest other_rest
  pub number_is : number ≡ length front + 1

-- Columns that the format has are spelled at the front, and those given neither are these nor are wider.
pub record OtherSchema (format : Format) (columns : List Column) (base : List ℕ) (number : ℕ) : Type 0 where
  pub others : List Column
  pub rest : List ℕ
  pub is : IsSchemaOf format others
  pub base_is : base ≡ schema_bytes others ++ rest
  pub differ : DifferAt columns others number

-- Why the base, which begins at a place, does not begin with the schema of the columns given or a narrower one: it begins
-- with none of the format, or with another.
abbrev pub SchemaFails : Format → List Column → List ℕ → ℕ → SideFault → Type 0
SchemaFails format columns base at fault.Closed = ⊥
SchemaFails format columns base at (fault.Damaged place) =
    (place ≡ at)
    × ((others : List Column) (rest : List ℕ) → IsSchemaOf format others → base ≡ schema_bytes others ++ rest → ⊥)
SchemaFails format columns base at (fault.Schema number) = OtherSchema format columns base number
SchemaFails format columns base at (fault.Large limit) = ⊥
SchemaFails format columns base at fault.Memory = ⊥
