-- Which row a look takes.
use Rattle.std.specs.Prelude.{◌+◌, ℕ, List, [], ◌∷◌, Option, None, Some, length}
use Rattle.q4_table.specs.Oldest.{oldest_meeting, unowned_to}
use Rattle.q4_table.specs.Cursors.{Cursor, begin_of}
use Rattle.q4_table.specs.TableState.{TableState}
use Rattle.q4_machine.specs.declared.looks.Listed.{Listed}
use Rattle.q4_machine.specs.Opening.{Opening}
use Rattle.q4_machine.specs.Machine.{MachineState, table_at}
use Rattle.q4_machine.specs.Kept.{MachineView, kept_at, moved_by}

-- a place in the list of a wait, from 1, the place of its table, and the row's number
pub record Picked : Type 0 where
  pub place : ℕ
  pub table : ℕ
  pub number : ℕ

abbrev pub pick_or : ℕ → ℕ → Option ℕ → Option Picked → Option Picked
pick_or place table (Some number) others = Some (record { place = place; table = table; number = number })
pick_or place table None others = others

abbrev pub pick_from : List Opening → ℕ → List Listed → Option Picked
pick_from tables place [] = None
pick_from tables place (l ∷ ls) = pick_or place l.table (oldest_meeting (table_at tables l.table).rows l.cond.tree) (pick_from tables (place + 1) ls)

-- The least place of the list whose table has a row that nobody owns and that meets its condition, and the oldest
-- such row there.
abbrev pub pick : MachineState → List Listed → Option Picked
pick m list = pick_from m.tables 1 list

-- how many rows without an owner stand in a table from a number on, up to the one that a look finds there, and behind
-- it those of the tables that are looked through where it finds none
abbrev pub asked_to : TableState → ℕ → Option ℕ → ℕ → ℕ
asked_to table from (Some number) others = length (unowned_to table.rows from (Some number))
asked_to table from None others = length (unowned_to table.rows from None) + others

-- Each look begins at the cursor of its condition, as the looks before it left that.
abbrev pub asked_from : List Opening → List Listed → List (List Cursor) → ℕ
asked_from tables [] kept = 0
asked_from tables (l ∷ ls) kept =
    let table = table_at tables l.table in
    asked_to table (begin_of (kept_at kept l.table) l.cond.tree) (oldest_meeting table.rows l.cond.tree) (asked_from tables ls (moved_by tables l kept))

-- how often a look asks whether a row meets a condition, at most: of each listed table from the condition's cursor on,
-- up to the one that gives a row
abbrev pub most_asked : MachineView → List Listed → ℕ
most_asked m list = asked_from m.state.tables list m.kept
