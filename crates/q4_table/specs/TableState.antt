-- What contracts see of a table.
use Rattle.std.specs.Prelude.{ℕ, List, []}
use Rattle.q4_value.specs.declared.column.Column.{Column}
use Rattle.q4_table.specs.declared.marks.Mark.{Mark}
use Rattle.q4_table.specs.declared.rows.StoredRow.{StoredRow}

-- the columns, the number that the next row gets, the rows by rising number, and the marks by rising source
pub record TableState : Type 0 where
  pub columns : List Column
  pub next : ℕ
  pub rows : List StoredRow
  pub marks : List Mark

-- a table of these columns without a row or a mark
abbrev pub new_table : List Column → TableState
new_table columns = record { columns = columns; next = 1; rows = []; marks = [] }
