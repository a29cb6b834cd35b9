-- What a row of given columns is, and its size.
use Rattle.std.specs.Prelude.{◌≡◌, ℕ, ◌+◌, ◌≤◌, List, [], ◌∷◌, sum_by, All, FitsSigned, IsTrue, length}
use Rattle.std.specs.Int.{w64}
use Rattle.std.specs.Str.{IsUtf8}
use Rattle.q4_value.specs.declared.column.Column.{Column}
use Rattle.q4_value.specs.declared.column.Kind.{Kind}
use Rattle.q4_value.specs.declared.column.Kind.TheVariants as kind
use Rattle.q4_value.specs.declared.row.Value.{Value}
use Rattle.q4_value.specs.declared.row.Value.TheVariants.{Int, Word, Null}

-- the most bytes of a text
abbrev pub text_limit : ℕ
text_limit = 65535

-- the greatest size of a row
abbrev pub row_limit : ℕ
row_limit = 1048576

-- a number of 64 bits, a UTF-8 text that is not too long, or null
abbrev pub IsValue : Value → Type 0
IsValue (Int number) = FitsSigned w64 number
IsValue (Word text) = IsUtf8 text × (length text ≤ text_limit)
IsValue Null = Unit {0}

-- a number or a text, as the kind says
abbrev pub IsOf : Kind → Value → Type 0
IsOf wanted (Int number) = wanted ≡ kind.Int
IsOf wanted (Word text) = wanted ≡ kind.Words
IsOf wanted Null = ⊥

-- The column takes the value: it is of the column's kind, or null in an optional column.
abbrev pub Takes : Column → Value → Type 0
Takes column (Int number) = IsOf column.kind (Int number)
Takes column (Word text) = IsOf column.kind (Word text)
Takes column Null = IsTrue column.optional

-- There are as many values as columns, and each column takes its value.
abbrev pub TakeEach : List Column → List Value → Type 0
TakeEach [] [] = Unit {0}
TakeEach [] (v ∷ vs) = ⊥
TakeEach (c ∷ cs) [] = ⊥
TakeEach (c ∷ cs) (v ∷ vs) = Takes c v × TakeEach cs vs

-- a value for each column, which the column takes
pub record IsRowOf (columns : List Column) (row : List Value) : Type 0 where
  pub taken : TakeEach columns row
  pub values : All IsValue row

-- The wide column takes each value that the other takes: it has its name and its kind, and is optional where that one is.
pub record IsWider (wide narrow : Column) : Type 0 where
  pub name : wide.name ≡ narrow.name
  pub kind : wide.kind ≡ narrow.kind
  pub optional : IsTrue narrow.optional → IsTrue wide.optional

-- As many columns, each wider than or the same as that of its place.
abbrev pub AreWider : List Column → List Column → Type 0
AreWider [] [] = Unit {0}
AreWider [] (d ∷ ds) = ⊥
AreWider (c ∷ cs) [] = ⊥
AreWider (c ∷ cs) (d ∷ ds) = IsWider c d × AreWider cs ds

-- 8 for a number, 4 and its bytes for a text, nothing for a null
abbrev pub value_size : Value → ℕ
value_size (Int number) = 8
value_size (Word text) = 4 + length text
value_size Null = 0

abbrev pub row_size : List Value → ℕ
row_size row = sum_by value_size row

-- a row of the columns that is not too large
pub record Fits (columns : List Column) (row : List Value) : Type 0 where
  pub row_of : IsRowOf columns row
  pub size : row_size row ≤ row_limit
