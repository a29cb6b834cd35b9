-- What an insert does to a table, and why it may be refused.
use Rattle.std.specs.Prelude.{◌≡◌, ◌==◌, ◌<◌, ◌≤◌, ◌+◌, ◌^◌, ℕ, Bool, true, false, List, [], ◌∷◌, ◌++◌, Option, None, Some, length, nat_lt, nat_le, if◌then◌else◌}
use Rattle.q4_value.specs.declared.row.Value.{Value}
use Rattle.q4_value.specs.Row.{row_size}
use Rattle.q4_table.specs.declared.adding.Added.{Added}
use Rattle.q4_table.specs.declared.adding.Added.TheVariants as added
use Rattle.q4_table.specs.declared.adding.AddFault.{AddFault}
use Rattle.q4_table.specs.declared.adding.AddFault.TheVariants as fault
use Rattle.q4_table.specs.declared.adding.Check.{Check}
use Rattle.q4_table.specs.declared.adding.Check.TheVariants as check
use Rattle.q4_table.specs.declared.marks.Mark.{Mark}
use Rattle.q4_table.specs.declared.origin.Mode.{Mode}
use Rattle.q4_table.specs.declared.origin.Mode.TheVariants.{A, W}
use Rattle.q4_table.specs.declared.origin.Origin.{Origin}
use Rattle.q4_table.specs.TableState.{TableState}
use Rattle.q4_table.specs.Rows.{bytes_of}
use Rattle.q4_table.specs.Marks.{mark_of, with_mark}

-- row numbers and the numbers of sources stay below this one
abbrev pub number_limit : ℕ
number_limit = 2 ^ 62

-- how many sources there are, from 0 on
abbrev pub source_limit : ℕ
source_limit = 64

-- the most rows of a table
abbrev pub count_limit : ℕ
count_limit = 250000

-- the most bytes of a table's rows together
abbrev pub bytes_limit : ℕ
bytes_limit = 33554432

-- where a row comes from: a source, and the row's number there
pub record IsOrigin (origin : Origin) : Type 0 where
  pub source : origin.source < source_limit
  pub positive : 1 ≤ origin.number
  pub number : origin.number < number_limit

-- In mode A a number that is at most the mark of its source was seen before. In mode W none was.
abbrev pub was_seen : Mode → ℕ → ℕ → Bool
was_seen A number mark = nat_le number mark
was_seen W number mark = false

-- whether a table has room for the row: a number, a place and bytes, in this order
abbrev pub room_for : TableState → List Value → Check
room_for table row =
    if table.next == number_limit then check.Spent
    else if length table.rows == count_limit then check.Rows
    else if nat_lt bytes_limit (bytes_of table.rows + row_size row) then check.Bytes (bytes_of table.rows)
    else check.New

-- what comes of a row that was seen before, or was not
abbrev pub check_seen : Bool → ℕ → Check → Check
check_seen true mark room = check.Seen mark
check_seen false mark room = room

-- what an insert of the row would come to
abbrev pub check_of : TableState → List Value → Option Origin → Check
check_of table row None = room_for table row
check_of table row (Some origin) =
    let mark = mark_of table.marks origin.source in
    check_seen (was_seen origin.mode origin.number mark) mark (room_for table row)

-- the origin's number becomes the mark of its source
abbrev pub with_origin : Option Origin → List Mark → List Mark
with_origin None marks = marks
with_origin (Some origin) marks = with_mark origin.source origin.number marks

-- A new row has the table's next number and no owner.
abbrev pub add_row : TableState → List Value → Option Origin → TableState
add_row table row origin = record {
  columns = table.columns;
  next = table.next + 1;
  rows = table.rows ++ record { number = table.next; row = row; owner = None } ∷ [];
  marks = with_origin origin table.marks;
}

-- What the insert is answered, if it is not refused: as the check says, and a new row has the next number.
abbrev pub IsAdded : Check → ℕ → Added → Type 0
IsAdded outcome next (added.New number) = (outcome ≡ check.New) × (number ≡ next)
IsAdded outcome next (added.Seen mark) = outcome ≡ check.Seen mark

-- Why the insert is refused: as the check says, or a new row wants memory.
abbrev pub IsRefused : Check → AddFault → Type 0
IsRefused outcome fault.Spent = outcome ≡ check.Spent
IsRefused outcome fault.Rows = outcome ≡ check.Rows
IsRefused outcome (fault.Bytes sum) = outcome ≡ check.Bytes sum
IsRefused outcome fault.Memory = outcome ≡ check.New

-- the table after an insert that is not refused: a number that was seen before changes nothing
abbrev pub with_added : TableState → List Value → Option Origin → Added → TableState
with_added table row origin (added.New number) = add_row table row origin
with_added table row origin (added.Seen mark) = table
