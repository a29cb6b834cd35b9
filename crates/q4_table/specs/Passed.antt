-- Why a look may begin at a cursor: what lies before it is of no use to it.
use Rattle.std.specs.Prelude.{◌<◌, ◌≤◌, All, length}
use Rattle.q4_table.specs.Cursors.{Cursor, TableView, kept_limit}
use Rattle.q4_table.specs.Oldest.{IsFree}
use Rattle.q4_table.specs.TableState.{TableState}
use Rattle.q4_table.specs.Valid.{IsValidTable}

-- The cursor stands at most at the table's next row, and no row before it is free for its condition.
pub record HasPassed (table : TableState) (c : Cursor) : Type 0 where
  pub positive : 1 ≤ c.from
  pub inside : c.from ≤ table.next
  pub none_before : All (λ r. r.number < c.from → IsFree c.tree r → ⊥) table.rows

-- A table is valid, and so is what it keeps: at most 64 conditions, each with a cursor that has passed no free row.
pub record IsValidView (view : TableView) : Type 0 where
  pub table : IsValidTable view.state
  pub few : length view.kept ≤ kept_limit
  pub passed : All (HasPassed view.state) view.kept
