-- What a store stands for: a table, and the changes of it that wait for a commit.
use Rattle.std.specs.Prelude.{◌≤◌, ◌+◌, ◌⊎◌, ℕ, List, [], ◌∷◌, ◌++◌, Option, take, length}
use Rattle.q4_value.specs.declared.column.Column.{Column}
use Rattle.q4_value.specs.declared.row.Value.{Value}
use Rattle.q4_table.specs.declared.origin.Origin.{Origin}
use Rattle.q4_table.specs.TableState.{TableState}
use Rattle.q4_record.specs.declared.head.Head.TheVariants.{Insert, End}
use Rattle.q4_record.specs.Record.{Record}
use Rattle.q4_record.specs.Replay.{replays, at_batches}
use Rattle.q4_disk.specs.Told.{Sides}
use Rattle.q4_store.specs.Reading.{ReadsOwn}

-- the table with all changes that are committed, and those that were appended since, the oldest first
pub record Content : Type 0 where
  pub committed : TableState
  pub pending : List Record

-- a row of these columns that was added, with its number and where it came from, and a row that was removed
abbrev pub row_added : List Column → ℕ → List Value → Option Origin → Record
row_added columns number row origin = record { head = Insert number origin; columns = columns; row = row }

abbrev pub row_ended : ℕ → Record
row_ended number = record { head = End number; columns = []; row = [] }

-- a table after changes
abbrev pub changed : TableState → List Record → TableState
changed table changes = (replays (at_batches table) changes).table

-- the table with all changes, and with the first so many of those that wait
abbrev pub table_of : Content → TableState
table_of content = changed content.committed content.pending

abbrev pub table_with : Content → ℕ → TableState
table_with content count = changed content.committed (take count content.pending)

-- one change more, and all of them committed
abbrev pub with_change : Content → Record → Content
with_change content change = record { committed = content.committed; pending = content.pending ++ change ∷ [] }

abbrev pub all_committed : Content → Content
all_committed content = record { committed = table_of content; pending = [] }

-- Opening gives the table with all that is committed and the first of the changes that wait, none skipped.
pub record IsPrefix (content : Content) (generation : ℕ) (sides : Sides) : Type 0 where
  pub count : ℕ
  pub within : count ≤ length content.pending
  pub reads : ReadsOwn content.committed.columns sides (table_with content count) generation

-- Opening gives all that is committed, alone or with every change that waits.
abbrev pub IsAllOrNone : Content → ℕ → Sides → Type 0
IsAllOrNone content generation sides = ReadsOwn content.committed.columns sides content.committed generation ⊎ ReadsOwn content.committed.columns sides (table_of content) generation

-- Or it gives the whole table, with a generation greater by one: a copy whose gate is open.
abbrev pub IsPrefixOrNew : Content → ℕ → Sides → Type 0
IsPrefixOrNew content generation sides = IsPrefix content generation sides ⊎ ReadsOwn content.committed.columns sides (table_of content) (generation + 1)
