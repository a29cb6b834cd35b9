-- What each call does to the machine, and what it is answered.
use Rattle.std.specs.Prelude.{◌≡◌, ◌==◌, ◌+◌, ◌<◌, ℕ, List, [], ◌∷◌, ◌++◌, Option, None, Some, Result, Ok, Err, All, length, map, filter, take, is_none, slice_set, if◌then◌else◌}
use Rattle.std.specs.Option.{option_map}
use Rattle.q4_value.specs.declared.row.Value.{Value}
use Rattle.q4_table.specs.declared.adding.Added as added
use Rattle.q4_table.specs.declared.adding.Added.TheVariants.{New as NewRow, Seen as SeenRow}
use Rattle.q4_table.specs.declared.adding.AddFault.{AddFault}
use Rattle.q4_table.specs.declared.adding.AddFault.TheVariants as fault
use Rattle.q4_table.specs.declared.adding.Check.{Check}
use Rattle.q4_table.specs.declared.adding.Check.TheVariants as check
use Rattle.q4_table.specs.declared.rows.StoredRow.{StoredRow}
use Rattle.q4_table.specs.TableState.{TableState}
use Rattle.q4_table.specs.Rows.{with_owner, without_row}
use Rattle.q4_table.specs.Adding.{check_of, add_row}
use Rattle.q4_machine.specs.declared.session.SessionMode.{SessionMode}
use Rattle.q4_machine.specs.declared.session.SessionMode.TheVariants.{NonOwner, Empty, Owner}
use Rattle.q4_machine.specs.declared.entry.Call.{Call}
use Rattle.q4_machine.specs.declared.entry.Call.TheVariants.{Opened, Open, Insert, Look, End, Abort, RowId, Select, Close, Sync}
use Rattle.q4_machine.specs.declared.entry.Reply.{Reply}
use Rattle.q4_machine.specs.declared.entry.Reply.TheVariants.{Done, Session, Added, Seen, Found, Nothing, Number, Shown, Refused}
use Rattle.q4_machine.specs.declared.entry.Refusal.{Refusal}
use Rattle.q4_machine.specs.declared.entry.Refusal.TheVariants.{NotOwner, NoRow, Spent, Rows, Bytes}
use Rattle.q4_machine.specs.declared.shown.NumberedRow.{NumberedRow}
use Rattle.q4_machine.specs.Opening.{Opening}
use Rattle.q4_machine.specs.Definitions.{definitions, IsRowFor, IsListed}
use Rattle.q4_machine.specs.Machine.{MachineState, opening_at, table_at, with_mode, without_session, mode_of, IsSessionOpen}
use Rattle.q4_machine.specs.Pick.{Picked, pick}

-- the tables with one of them changed
abbrev pub tables_with : List Opening → ℕ → TableState → List Opening
tables_with tables place table = slice_set tables place (record (opening_at tables place) { table = table })

-- the tables with the rows of one of them changed
abbrev pub rows_with : List Opening → ℕ → (List StoredRow → List StoredRow) → List Opening
rows_with tables place change =
    let table = table_at tables place in
    tables_with tables place (record table { rows = change table.rows })

-- the machine with a table changed
abbrev pub with_table : MachineState → ℕ → TableState → MachineState
with_table m place table = record m { tables = tables_with m.tables place table }

-- the machine with the rows of a table changed
abbrev pub with_rows : MachineState → ℕ → (List StoredRow → List StoredRow) → MachineState
with_rows m place change = record m { tables = rows_with m.tables place change }

-- the machine with a session in another mode
abbrev pub with_session : MachineState → ℕ → SessionMode → MachineState
with_session m session mode = record m { sessions = with_mode session mode m.sessions }

-- the machine with a session gone
abbrev pub with_none : MachineState → ℕ → MachineState
with_none m session = record m { sessions = without_session session m.sessions }

-- an insert adds the row, or changes nothing where the check says so
abbrev pub inserted : MachineState → ℕ → List Value → Check → MachineState × Reply
inserted m place row check.New = (with_table m place (add_row (table_at m.tables place) row None), Added (table_at m.tables place).next)
inserted m place row (check.Seen mark) = (m, Seen mark)
inserted m place row check.Spent = (m, Refused Spent)
inserted m place row check.Rows = (m, Refused Rows)
inserted m place row (check.Bytes sum) = (m, Refused (Bytes sum))

-- a look takes what it picks, and without that leaves the session in owner mode without a row
abbrev pub looked : MachineState → ℕ → Option Picked → MachineState × Reply
looked m session (Some p) = (with_session (with_rows m p.table (with_owner p.number (Some session))) session (Owner p.table p.number), Found p.place)
looked m session None = (with_session m session Empty, Nothing)

-- an end removes the owned row and leaves owner mode
abbrev pub ended : MachineState → ℕ → Option SessionMode → MachineState × Reply
ended m session (Some NonOwner) = (m, Refused NotOwner)
ended m session (Some Empty) = (with_session m session NonOwner, Done)
ended m session (Some (Owner place number)) = (with_session (with_rows m place (without_row number)) session NonOwner, Done)
ended m session None = (m, Done)

-- an abort gives the owned row back to its place and leaves owner mode
abbrev pub aborted : MachineState → ℕ → Option SessionMode → MachineState × Reply
aborted m session (Some NonOwner) = (m, Refused NotOwner)
aborted m session (Some Empty) = (with_session m session NonOwner, Done)
aborted m session (Some (Owner place number)) = (with_session (with_rows m place (with_owner number None)) session NonOwner, Done)
aborted m session None = (m, Done)

-- the number of the owned row
abbrev pub row_number : Option SessionMode → Reply
row_number (Some NonOwner) = Refused NotOwner
row_number (Some Empty) = Refused NoRow
row_number (Some (Owner place number)) = Number number
row_number None = Done

-- the rows of a table that a session sees: in non-owner mode those that nobody owns, in owner mode its own row in that
-- row's table alone
abbrev pub visible : MachineState → ℕ → Option SessionMode → List StoredRow
visible m place (Some NonOwner) = filter (λ r. is_none r.owner) (table_at m.tables place).rows
visible m place (Some Empty) = []
visible m place (Some (Owner own number)) = if own == place then filter (λ r. r.number == number) (table_at m.tables place).rows else []
visible m place None = []

abbrev pub numbered : StoredRow → NumberedRow
numbered r = record { number = r.number; row = r.row }

-- what a select shows: the first of the visible rows, by rising number
abbrev pub shown : MachineState → ℕ → ℕ → ℕ → List NumberedRow
shown m session place most = map numbered (take most (visible m place (mode_of m session)))

-- a closing gives the owned row back to its place
abbrev pub closed : MachineState → ℕ → Option SessionMode → MachineState × Reply
closed m session (Some NonOwner) = (with_none m session, Done)
closed m session (Some Empty) = (with_none m session, Done)
closed m session (Some (Owner place number)) = (with_none (with_rows m place (with_owner number None)) session, Done)
closed m session None = (m, Done)

abbrev pub step : MachineState → ℕ → Call → MachineState × Reply
step m session (Opened tables) = (record { tables = tables; sessions = []; next_session = 1 }, Done)
step m session Open = (record m { sessions = m.sessions ++ record { session = m.next_session; mode = NonOwner } ∷ []; next_session = m.next_session + 1 }, Session m.next_session)
step m session (Insert place row) = inserted m place row (check_of (table_at m.tables place) row None)
step m session (Look list) = looked m session (pick m list)
step m session End = ended m session (mode_of m session)
step m session Abort = aborted m session (mode_of m session)
step m session RowId = (m, row_number (mode_of m session))
step m session (Select place most) = (m, Shown (shown m session place most))
step m session Close = closed m session (mode_of m session)
step m session Sync = (m, Done)

-- What a call needs of the machine.
abbrev pub MayStep : MachineState → ℕ → Call → Type 0
MayStep m session (Opened tables) = ⊥
MayStep m session Open = session ≡ m.next_session
MayStep m session (Insert place row) = IsSessionOpen m session × IsRowFor (definitions m.tables) place row
MayStep m session (Look list) = (mode_of m session ≡ Some NonOwner) × All (IsListed (definitions m.tables)) list
MayStep m session End = IsSessionOpen m session
MayStep m session Abort = IsSessionOpen m session
MayStep m session RowId = IsSessionOpen m session
MayStep m session (Select place most) = IsSessionOpen m session × (place < length (definitions m.tables))
MayStep m session Close = IsSessionOpen m session
MayStep m session Sync = IsSessionOpen m session

-- the replies to an insert, a look, an end, an abort and a question for the row, from what the machine's calls return
abbrev pub added_reply : added.Added → Reply
added_reply (NewRow number) = Added number
added_reply (SeenRow mark) = Seen mark

abbrev pub look_reply : Option ℕ → Reply
look_reply (Some place) = Found place
look_reply None = Nothing

abbrev pub end_reply : Result (Option (ℕ × ℕ)) Refusal → Reply
end_reply (Ok row) = Done
end_reply (Err refusal) = Refused refusal

abbrev pub abort_reply : Result (Unit {0}) Refusal → Reply
abort_reply (Ok done) = Done
abort_reply (Err refusal) = Refused refusal

abbrev pub row_reply : Result ℕ Refusal → Reply
row_reply (Ok number) = Number number
row_reply (Err refusal) = Refused refusal

-- the refusal that a row was not added for; want of memory is none
abbrev pub add_refusal : AddFault → Option Refusal
add_refusal fault.Spent = Some Spent
add_refusal fault.Rows = Some Rows
add_refusal (fault.Bytes sum) = Some (Bytes sum)
add_refusal fault.Memory = None

-- the reply to an insert, where it was not for want of memory
abbrev pub insert_reply : Result added.Added (AddFault × List Value) → Option Reply
insert_reply (Ok answer) = Some (added_reply answer)
insert_reply (Err refused) = option_map Refused (add_refusal refused.0)

-- the row that an end removes: none where the session owns none
abbrev pub owned_row : Option SessionMode → Option (ℕ × ℕ)
owned_row (Some (Owner place number)) = Some (place, number)
owned_row (Some NonOwner) = None
owned_row (Some Empty) = None
owned_row None = None
