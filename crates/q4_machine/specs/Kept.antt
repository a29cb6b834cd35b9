-- The conditions that the tables of a machine keep beside the rules, with the cursors of their looks.
use Rattle.std.specs.Prelude.{◌≡◌, ◌++◌, ℕ, true, List, [], ◌∷◌, Option, None, Some, All, map, slice_index_or, slice_set}
use Rattle.q4_cond.specs.Tree.{Tree}
use Rattle.q4_table.specs.Cursors.{Cursor, is_kept, with_kept, end_of_look, with_moved, with_lowered}
use Rattle.q4_table.specs.Oldest.{oldest_meeting}
use Rattle.q4_machine.specs.declared.looks.Listed.{Listed}
use Rattle.q4_machine.specs.declared.session.SessionMode.{SessionMode}
use Rattle.q4_machine.specs.declared.session.SessionMode.TheVariants.{NonOwner, Empty, Owner}
use Rattle.q4_machine.specs.declared.tables.Opening.{Opening as NamedTable}
use Rattle.q4_machine.specs.Opening.{Opening, opening_of}
use Rattle.q4_machine.specs.Machine.{MachineState, table_at}

-- what contracts see of a machine: the machine of the rules, and by the place of each table what it keeps
pub record MachineView : Type 0 where
  pub state : MachineState
  pub kept : List (List Cursor)

-- what contracts see of the tables of a machine
pub record TablesView : Type 0 where
  pub tables : List Opening
  pub kept : List (List Cursor)

-- the tables of the rules, and apart from them what each keeps
abbrev pub tables_view : List NamedTable → TablesView
tables_view list = record { tables = map opening_of list; kept = map (λ named. named.table.kept) list }

-- what tables keep at first
abbrev pub none_kept : List Opening → List (List Cursor)
none_kept tables = map (λ _. []) tables

-- what the table at a place keeps
abbrev pub kept_at : List (List Cursor) → ℕ → List Cursor
kept_at kept place = slice_index_or kept place []

-- a listed condition is kept in the listed table
abbrev pub keep_listed : Listed → List (List Cursor) → List (List Cursor)
keep_listed l kept = slice_set kept l.table (with_kept l.cond.tree (kept_at kept l.table))

-- the listed conditions are kept in order
abbrev pub keep_all : List Listed → List (List Cursor) → List (List Cursor)
keep_all [] kept = kept
keep_all (l ∷ ls) kept = keep_all ls (keep_listed l kept)

-- The conditions of some first part of the list are kept, and nothing else changed.
pub record KeepsSome (list : List Listed) (old new : List (List Cursor)) : Type 0 where
  pub front : List Listed
  pub back : List Listed
  pub cut : list ≡ front ++ back
  pub kept_is : new ≡ keep_all front old

-- Each listed condition is kept in its table.
abbrev pub AreKept : List (List Cursor) → List Listed → Type 0
AreKept kept list = All (λ l. is_kept (kept_at kept l.table) l.cond.tree ≡ true) list

-- Each table keeps the same conditions, wherever their cursors stand.
abbrev pub KeepSame : List (List Cursor) → List (List Cursor) → Type 0
KeepSame old new = (place : ℕ) (tree : Option Tree) → is_kept (kept_at new place) tree ≡ is_kept (kept_at old place) tree

-- a row of the table at a place is given back, which lowers the cursors of that table
abbrev pub lowered_at : ℕ → ℕ → List (List Cursor) → List (List Cursor)
lowered_at place number kept = slice_set kept place (with_lowered number (kept_at kept place))

-- a session in this mode gives back the row that it owns
abbrev pub given_back : Option SessionMode → List (List Cursor) → List (List Cursor)
given_back (Some (Owner place number)) kept = lowered_at place number kept
given_back (Some Empty) kept = kept
given_back (Some NonOwner) kept = kept
given_back None kept = kept

-- a look for the listed condition moves its cursor in the listed table
abbrev pub moved_by : List Opening → Listed → List (List Cursor) → List (List Cursor)
moved_by tables l kept =
    let table = table_at tables l.table in
    slice_set kept l.table (with_moved l.cond.tree (end_of_look table (oldest_meeting table.rows l.cond.tree)) (kept_at kept l.table))

-- what is kept once an entry of the list was looked for: no later entry is where a row was found
abbrev pub kept_or : Option ℕ → List (List Cursor) → List (List Cursor) → List (List Cursor)
kept_or (Some number) moved later = moved
kept_or None moved later = later

-- A look moves the cursors of the entries in order, up to that of the entry that has a row.
abbrev pub kept_after : List Opening → List Listed → List (List Cursor) → List (List Cursor)
kept_after tables [] kept = kept
kept_after tables (l ∷ ls) kept =
    let moved = moved_by tables l kept in
    kept_or (oldest_meeting (table_at tables l.table).rows l.cond.tree) moved (kept_after tables ls moved)
