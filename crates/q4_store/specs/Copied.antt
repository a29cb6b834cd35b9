-- What a copy of a table has while it is under way: the rows below its cursor, as they are now.
use Rattle.std.specs.Prelude.{◌≡◌, ◌≢◌, ◌≤◌, ◌+◌, ◌*◌, ℕ, Bool, true, false, List, [], ◌∷◌, ◌++◌, map, filter, length, take, nat_lt, nat_le, sum_by, replicate}
use Rattle.q4_value.specs.declared.column.Column.{Column}
use Rattle.q4_value.specs.Row.{row_size}
use Rattle.q4_value.specs.Spelling.{optional_count}
use Rattle.q4_table.specs.declared.rows.StoredRow.{StoredRow}
use Rattle.q4_table.specs.TableState.{TableState}
use Rattle.q4_record.specs.declared.replay.Stage.TheVariants as stage
use Rattle.q4_record.specs.Record.{Record, records_bytes}
use Rattle.q4_record.specs.Replay.{replays, at_base, AllStand}
use Rattle.q4_record.specs.Schema.{schema_bytes}
use Rattle.q4_record.specs.Side.{base_at}
use Rattle.q4_record.specs.Written.{row_record, mark_record, next_record}

-- the rows with numbers below a cursor, and those from it on
abbrev pub is_below : ℕ → StoredRow → Bool
is_below cursor r = nat_lt r.number cursor

abbrev pub is_from : ℕ → StoredRow → Bool
is_from cursor r = nat_le cursor r.number

abbrev pub rows_below : ℕ → List StoredRow → List StoredRow
rows_below cursor rows = filter (is_below cursor) rows

abbrev pub rows_from : ℕ → List StoredRow → List StoredRow
rows_from cursor rows = filter (is_from cursor) rows

-- the part of a table below a cursor, to which a base leads before its marks: the cursor is its next number
abbrev pub part_below : ℕ → TableState → TableState
part_below cursor table = record { columns = table.columns; next = cursor; rows = rows_below cursor table.rows; marks = [] }

-- These records, which a copy has or which wait for it, replay to exactly the table's rows below the cursor.
pub record IsCopied (table : TableState) (cursor : ℕ) (records : List Record) : Type 0 where
  pub within : cursor ≤ table.next
  pub stand : AllStand (at_base table.columns) records
  pub leads : replays (at_base table.columns) records ≡ record { stage = stage.Rows; table = part_below cursor table }

-- the cursor behind these rows
abbrev pub cursor_after : ℕ → List StoredRow → ℕ
cursor_after cursor [] = cursor
cursor_after cursor (r ∷ rs) = cursor_after (r.number + 1) rs

-- so many rows from the cursor on
abbrev pub taken : ℕ → ℕ → TableState → List StoredRow
taken n cursor table = take n (rows_from cursor table.rows)

-- what is left of a base then: the rows from the cursor on, the marks and the next number
abbrev pub rest_records : ℕ → TableState → List Record
rest_records cursor table = map (row_record table.columns) (rows_from cursor table.rows) ++ (map mark_record table.marks ++ next_record table.next ∷ [])

-- The base of a copy that is finished stands, and leads to the table.
pub record IsFinished (table : TableState) (records : List Record) : Type 0 where
  pub stand : AllStand (at_base table.columns) records
  pub leads : replays (at_base table.columns) records ≡ record { stage = stage.Whole; table = table }

-- the bytes of a row of these columns in a base: it has a flag for each optional column
abbrev pub row_cost : List Column → StoredRow → ℕ
row_cost columns r = 9 + (row_size r.row + optional_count columns)

-- the least length of a side that stands for the table: header, schema, rows, marks, next and closing gate
abbrev pub compact_size : TableState → ℕ
compact_size table = base_at + length (schema_bytes table.columns) + sum_by (row_cost table.columns) table.rows + 10 * length table.marks + 10

-- how long the side will be up to and with its closing gate, once the rest follows these records
abbrev pub copy_length : ℕ → TableState → List Record → ℕ
copy_length cursor table records =
    base_at + length (schema_bytes table.columns) + length (records_bytes records) + sum_by (row_cost table.columns) (rows_from cursor table.rows) + 10 * length table.marks + 10

-- what a copy has behind its header: where it has records, the schema and these
abbrev pub copy_bytes : List Column → List Record → List ℕ
copy_bytes columns [] = []
copy_bytes columns (r ∷ rs) = schema_bytes columns ++ records_bytes (r ∷ rs)

-- its side, as it is read: a closed gate, zeros for the header, and what it has
pub record HasCopied (columns : List Column) (written : List Record) (bytes : List ℕ) : Type 0 where
  pub gate : ℕ
  pub closed : gate ≢ 1
  pub is : bytes ≡ gate ∷ (replicate 20 0 ++ copy_bytes columns written)

-- what a piece writes of a copy: the ends that wait, and rows, and where the copy has no record yet the schema in front
abbrev pub piece_bytes : Bool → List Column → List ℕ → List Record → List ℕ
piece_bytes true columns waiting [] = waiting
piece_bytes true columns waiting (r ∷ rs) = schema_bytes columns ++ (waiting ++ records_bytes (r ∷ rs))
piece_bytes false columns waiting rs = waiting ++ records_bytes rs
