-- How a table is written as a side, and what is written behind it.
use Rattle.std.specs.Prelude.{◌≡◌, ◌≢◌, ◌≤◌, ◌+◌, ℕ, List, [], ◌∷◌, ◌++◌, None, All, length, map, codes}
use Rattle.std.specs.Int.{w64, to_be_bytes}
use Rattle.q4_value.specs.declared.column.Column.{Column}
use Rattle.q4_table.specs.declared.marks.Mark as marks
use Rattle.q4_table.specs.declared.rows.StoredRow.{StoredRow}
use Rattle.q4_table.specs.TableState.{TableState}
use Rattle.q4_table.specs.Valid.{IsValidTable}
use Rattle.q4_record.specs.declared.head.Head.TheVariants.{Insert, Mark, Next}
use Rattle.q4_record.specs.Record.{Record, records_bytes}
use Rattle.q4_record.specs.Replay.{at_batches}
use Rattle.q4_record.specs.Schema.{schema_bytes, IsSchema}
use Rattle.q4_record.specs.Side.{side_limit, generation_limit, base_at, batches_bytes, BatchesStand, after_batches, HasRoom}

-- rows are spelled by the table's columns
abbrev pub row_record : List Column → StoredRow → Record
row_record columns r = record { head = Insert r.number None; columns = columns; row = r.row }

abbrev pub mark_record : marks.Mark → Record
mark_record m = record { head = Mark m.source m.number; columns = []; row = [] }

abbrev pub next_record : ℕ → Record
next_record number = record { head = Next number; columns = []; row = [] }

-- the records of a table's base: its rows, its marks and its next number
abbrev pub base_records : TableState → List Record
base_records table =
    map (row_record table.columns) table.rows ++ (map mark_record table.marks ++ next_record table.next ∷ [])

abbrev pub base_bytes : TableState → List ℕ
base_bytes table = schema_bytes table.columns ++ records_bytes (base_records table)

-- an open gate, the magic, the generation, the length of the base, the base, and what is behind it
abbrev pub side_bytes : ℕ → List ℕ → List ℕ → List ℕ
side_bytes generation base behind =
    1 ∷ codes "Q4O2" ++ to_be_bytes w64 generation ++ to_be_bytes w64 (length base) ++ (base ++ behind)

-- the table as a base, batches behind it, and the closing gate
abbrev pub written : TableState → ℕ → List (List Record) → ℕ → List ℕ → List ℕ
written table generation batches closing ignored =
    side_bytes generation (base_bytes table) (batches_bytes batches ++ closing ∷ ignored)

-- the table that they lead to
abbrev pub written_table : TableState → List (List Record) → TableState
written_table table batches = (after_batches (at_batches table) batches).table

-- the length up to and with the closing gate
abbrev pub written_length : TableState → List (List Record) → ℕ
written_length table batches = base_at + length (base_bytes table) + length (batches_bytes batches) + 1

-- A valid table that nobody owns a row of, and batches that stand behind it. All of it is within the limits of a side.
pub record IsWritten (table : TableState) (generation : ℕ) (batches : List (List Record)) (closing : ℕ) (ignored : List ℕ) : Type 0 where
  pub valid : IsValidTable table
  pub schema : IsSchema table.columns
  pub unowned : All (λ r. r.owner ≡ None) table.rows
  pub positive : 1 ≤ generation
  pub limit : generation ≤ generation_limit
  pub stand : BatchesStand (at_batches table) batches
  pub closed : closing ≢ 1
  pub few : length (written table generation batches closing ignored) ≤ side_limit
  pub room : HasRoom (written_table table batches) (written_length table batches)

-- A valid table of the columns that nobody owns a row of.
pub record IsSound (columns : List Column) (table : TableState) : Type 0 where
  pub columns_are : table.columns ≡ columns
  pub valid : IsValidTable table
  pub unowned : All (λ r. r.owner ≡ None) table.rows
