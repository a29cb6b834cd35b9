-- What each record does to the table that is read, which record may come next, and which limit it passes.
use Rattle.std.specs.Prelude.{◌≡◌, ◌<◌, ◌≤◌, ℕ, List, [], ◌∷◌, Option, None, Some, fold, length, nat_lt, if◌then◌else◌}
use Rattle.std.specs.List.{list_any}
use Rattle.q4_value.specs.declared.column.Column.{Column}
use Rattle.q4_value.specs.declared.row.Value.{Value}
use Rattle.q4_value.specs.Row.{row_limit, row_size}
use Rattle.q4_table.specs.declared.marks.Mark as marks
use Rattle.q4_table.specs.declared.origin.Mode.TheVariants.{A}
use Rattle.q4_table.specs.declared.origin.Origin.{Origin}
use Rattle.q4_table.specs.TableState.{TableState, new_table}
use Rattle.q4_table.specs.Rows.{bytes_of, without_row, IsThere}
use Rattle.q4_table.specs.Marks.{mark_of, with_mark}
use Rattle.q4_table.specs.Adding.{IsOrigin, add_row, number_limit, count_limit, bytes_limit}
use Rattle.q4_table.specs.Valid.{IsMark}
use Rattle.q4_record.specs.declared.head.Head.{Head}
use Rattle.q4_record.specs.declared.head.Head.TheVariants.{Insert, End, Mark, Next}
use Rattle.q4_record.specs.declared.replay.Replay.{Replay}
use Rattle.q4_record.specs.declared.replay.Stage.{Stage}
use Rattle.q4_record.specs.declared.replay.Stage.TheVariants.{Rows, Marks, Whole, Batch}
use Rattle.q4_record.specs.Wide.{is_long}
use Rattle.q4_record.specs.Record.{Record, IsRecord}

-- a side as far as it is read: which records may come next, and the table so far
pub record ReplayState : Type 0 where
  pub stage : Stage
  pub table : TableState

-- what a replay has read, without what its table keeps beside
abbrev pub state_of : Replay → ReplayState
state_of replay = record { stage = replay.stage; table = replay.table.state }

-- A row comes from a valid origin or from none. In mode A its number there is above the mark of its source.
abbrev pub MayForward : List marks.Mark → Option Origin → Type 0
MayForward marks None = Unit {0}
MayForward marks (Some origin) = IsOrigin origin × (origin.mode ≡ A → mark_of marks origin.source < origin.number)

-- In the base a row has a number from next on, and was not forwarded. In a batch its number is next.
abbrev pub MayInsert : Stage → TableState → ℕ → Option Origin → Type 0
MayInsert Rows table number None = table.next ≤ number
MayInsert Rows table number (Some origin) = ⊥
MayInsert (Marks last) table number origin = ⊥
MayInsert Whole table number origin = ⊥
MayInsert Batch table number origin = (number ≡ table.next) × MayForward table.marks origin

-- An end names a row.
abbrev pub MayEnd : Stage → TableState → ℕ → Type 0
MayEnd Rows table number = IsThere table.rows number
MayEnd (Marks last) table number = ⊥
MayEnd Whole table number = ⊥
MayEnd Batch table number = IsThere table.rows number

-- The base's marks follow its rows, by rising source.
abbrev pub MayMark : Stage → ℕ → ℕ → Type 0
MayMark Rows source number = IsMark (record { source = source; number = number })
MayMark (Marks last) source number = (last < source) × IsMark (record { source = source; number = number })
MayMark Whole source number = ⊥
MayMark Batch source number = ⊥

-- One next record ends the base. Its number is at least next.
abbrev pub MayNext : Stage → TableState → ℕ → Type 0
MayNext Rows table number = table.next ≤ number
MayNext (Marks last) table number = table.next ≤ number
MayNext Whole table number = ⊥
MayNext Batch table number = ⊥

-- the rules that a record must meet, which all concern what it tells before its row
abbrev pub MayCome : Stage → TableState → Head → Type 0
MayCome stage table (Insert number origin) = MayInsert stage table number origin
MayCome stage table (End number) = MayEnd stage table number
MayCome stage table (Mark source number) = MayMark stage source number
MayCome stage table (Next number) = MayNext stage table number

-- A row is added unowned with its number, next becomes one more than that, and the mark of its source its number there.
abbrev pub table_after : TableState → Head → List Value → TableState
table_after table (Insert number origin) row = add_row (record table { next = number }) row origin
table_after table (End number) row = record table { rows = without_row number table.rows }
table_after table (Mark source number) row = record table { marks = with_mark source number table.marks }
table_after table (Next number) row = record table { next = number }

abbrev pub stage_after : Stage → Head → Stage
stage_after stage (Insert number origin) = stage
stage_after stage (End number) = stage
stage_after stage (Mark source number) = Marks source
stage_after stage (Next number) = Whole

abbrev pub replayed : ReplayState → Record → ReplayState
replayed replay r = record { stage = stage_after replay.stage r.head; table = table_after replay.table r.head r.row }

-- the replay of records one after the other
abbrev pub replays : ReplayState → List Record → ReplayState
replays replay records = fold replayed replay records

-- the base is read from an empty table on, whose next is 1 and whose marks are 0
abbrev pub at_base : List Column → ReplayState
at_base columns = record { stage = Rows; table = new_table columns }

abbrev pub at_batches : TableState → ReplayState
at_batches table = record { stage = Batch; table = table }

-- the least limit that a table passes whose last record has this row: 1 for its rows, 2 for their sizes, 3 for next, 4
-- for a text, 5 for the row's size
abbrev pub passed_limit : TableState → List Value → Option ℕ
passed_limit table row =
    if nat_lt count_limit (length table.rows) then Some 1
    else if nat_lt bytes_limit (bytes_of table.rows) then Some 2
    else if nat_lt number_limit table.next then Some 3
    else if list_any is_long row then Some 4
    else if nat_lt row_limit (row_size row) then Some 5
    else None

-- A record that may come, and that passes no limit.
pub record Stands (replay : ReplayState) (r : Record) : Type 0 where
  pub is : IsRecord replay.table.columns r
  pub may : MayCome replay.stage replay.table r.head
  pub within : passed_limit (replayed replay r).table r.row ≡ None

-- Each record stands where the ones before it lead to.
abbrev pub AllStand : ReplayState → List Record → Type 0
AllStand replay [] = Unit {0}
AllStand replay (r ∷ rs) = Stands replay r × AllStand (replayed replay r) rs
