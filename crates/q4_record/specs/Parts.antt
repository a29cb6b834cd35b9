-- What the readers of a record and of a base or batch answer.
use Rattle.std.specs.Prelude.{◌≡◌, ◌≤◌, ◌⊎◌, ℕ, List, [], ◌++◌, None, Some, length}
use Rattle.q4_value.specs.declared.row.Value.{Value}
use Rattle.q4_value.specs.Spelling.{row_bytes}
use Rattle.q4_record.specs.declared.head.Head.{Head}
use Rattle.q4_record.specs.declared.side.SideFault.{SideFault}
use Rattle.q4_record.specs.declared.side.SideFault.TheVariants as fault
use Rattle.q4_record.specs.Wide.{IsWideRow, CutLong}
use Rattle.q4_record.specs.Record.{Record, record_bytes, records_bytes, row_columns}
use Rattle.q4_record.specs.Replay.{ReplayState, table_after, replayed, replays, passed_limit, Stands, AllStand}
use Rattle.q4_record.specs.Reading.{RecordFails, SectionFails}

-- The table passes no limit, and its rows can be read.
pub record IsReady (replay : ReplayState) : Type 0 where
  pub few : length replay.table.columns ≤ 32
  pub within : passed_limit replay.table [] ≡ None

-- Behind the head stands a row with which no limit is passed, and the record was replayed.
pub record RowStands (old : ReplayState) (head : Head) (bytes : List ℕ) (new : ReplayState) (rest : List ℕ) : Type 0 where
  pub row : List Value
  pub bytes_are : bytes ≡ row_bytes (row_columns old.table.columns head) row ++ rest
  pub is : IsWideRow (row_columns old.table.columns head) row
  pub within : passed_limit (table_after old.table head row) row ≡ None
  pub new_is : new ≡ replayed old (record { head = head; columns = row_columns old.table.columns head; row = row })

-- Behind the head stands a row with which this limit is passed.
pub record RowPasses (old : ReplayState) (head : Head) (bytes : List ℕ) (limit : ℕ) : Type 0 where
  pub row : List Value
  pub rest : List ℕ
  pub bytes_are : bytes ≡ row_bytes (row_columns old.table.columns head) row ++ rest
  pub is : IsWideRow (row_columns old.table.columns head) row
  pub passed : passed_limit (table_after old.table head row) row ≡ Some limit

-- Neither a whole row stands behind the head nor one that is cut off behind too long a text.
pub record NoRow (old : ReplayState) (head : Head) (bytes : List ℕ) : Type 0 where
  pub none : (row : List Value) (rest : List ℕ) → IsWideRow (row_columns old.table.columns head) row
      → bytes ≡ row_bytes (row_columns old.table.columns head) row ++ rest → ⊥
  pub not_long : CutLong (row_columns old.table.columns head) bytes → ⊥

-- Why the record of this head, which may come, does not stand.
abbrev pub RowFails : ReplayState → Head → List ℕ → ℕ → SideFault → Type 0
RowFails old head bytes at fault.Closed = ⊥
RowFails old head bytes at (fault.Damaged place) = (place ≡ at) × NoRow old head bytes
RowFails old head bytes at (fault.Schema column) = ⊥
RowFails old head bytes at (fault.Large limit) =
    RowPasses old head bytes limit ⊎ ((limit ≡ 4) × CutLong (row_columns old.table.columns head) bytes)
RowFails old head bytes at fault.Memory = Unit {0}

-- A record at the front stands, and was replayed.
pub record RecordStood (old : ReplayState) (bytes : List ℕ) (new : ReplayState) (rest : List ℕ) : Type 0 where
  pub r : Record
  pub bytes_are : bytes ≡ record_bytes r ++ rest
  pub stands : Stands old r
  pub new_is : new ≡ replayed old r

abbrev pub RecordFailed : ReplayState → List ℕ → ℕ → SideFault → Type 0
RecordFailed old bytes at fault.Memory = Unit {0}
RecordFailed old bytes at why = RecordFails old bytes at why

-- All records stand, and were replayed.
pub record SectionStood (old : ReplayState) (bytes : List ℕ) (new : ReplayState) : Type 0 where
  pub records : List Record
  pub bytes_are : bytes ≡ records_bytes records
  pub stand : AllStand old records
  pub new_is : new ≡ replays old records

abbrev pub SectionFailed : ReplayState → List ℕ → ℕ → SideFault → Type 0
SectionFailed old bytes at fault.Memory = Unit {0}
SectionFailed old bytes at why = SectionFails old bytes at why
