-- Why a row does not fit columns.
use Rattle.std.specs.Prelude.{◌≡◌, ◌≢◌, ℕ, ◌+◌, ◌<◌, List, ◌∷◌, ◌++◌, length}
use Rattle.q4_value.specs.declared.column.Column.{Column}
use Rattle.q4_value.specs.declared.fit.RowFault.{RowFault}
use Rattle.q4_value.specs.declared.fit.RowFault.TheVariants as fault
use Rattle.q4_value.specs.declared.row.Value.{Value}
use Rattle.q4_value.specs.declared.row.Value.TheVariants.{Int, Word, Null}
use Rattle.q4_value.specs.Row.{text_limit, row_limit, Takes, IsRowOf, row_size}

abbrev pub IsLongText : Value → Type 0
IsLongText (Int number) = ⊥
IsLongText (Word text) = text_limit < length text
IsLongText Null = ⊥

-- Why the value does not fit the column of this number: the column does not take it, or else it is too long a text.
abbrev pub ValueMisfits : Column → Value → ℕ → RowFault → Type 0
ValueMisfits column value number (fault.Count n) = ⊥
ValueMisfits column value number (fault.Kind n) = (n ≡ number) × (Takes column value → ⊥)
ValueMisfits column value number (fault.Text n) = (n ≡ number) × Takes column value × IsLongText value
ValueMisfits column value number fault.Long = ⊥

-- The values in front fit their columns, and the next value does not. Columns are counted from 1.
pub record FirstMisfits (columns : List Column) (row : List Value) (why : RowFault) : Type 0 where
  pub before : List Column
  pub column : Column
  pub after : List Column
  pub front : List Value
  pub value : Value
  pub rest : List Value
  pub columns_are : columns ≡ before ++ column ∷ after
  pub row_is : row ≡ front ++ value ∷ rest
  pub fits : IsRowOf before front
  pub misfits : ValueMisfits column value (length before + 1) why

-- Why the row does not fit: another number of values than of columns, else the first value that does not fit, else its size.
abbrev pub Misfits : List Column → List Value → RowFault → Type 0
Misfits columns row (fault.Count n) = (n ≡ length columns) × (length row ≢ length columns)
Misfits columns row (fault.Kind n) = (length row ≡ length columns) × FirstMisfits columns row (fault.Kind n)
Misfits columns row (fault.Text n) = (length row ≡ length columns) × FirstMisfits columns row (fault.Text n)
Misfits columns row fault.Long = IsRowOf columns row × (row_limit < row_size row)
