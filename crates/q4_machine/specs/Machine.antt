-- The machine: named tables of rows, and the sessions that are open.
use Rattle.std.specs.Prelude.{◌==◌, ◌≢◌, ℕ, List, [], Option, None, map, filter, find, not, slice_index_or, if◌then◌else◌}
use Rattle.std.specs.Option.{option_map}
use Rattle.q4_table.specs.TableState.{TableState}
use Rattle.q4_table.specs.Rows.{owner_in}
use Rattle.q4_machine.specs.declared.session.SessionMode.{SessionMode}
use Rattle.q4_machine.specs.declared.session.OpenSession.{OpenSession}
use Rattle.q4_machine.specs.Opening.{Opening}

-- the tables by place from 0, the open sessions, and the number that the next session gets
pub record MachineState : Type 0 where
  pub tables : List Opening
  pub sessions : List OpenSession
  pub next_session : ℕ

-- what stands for a table where there is none
abbrev pub no_table : Opening
no_table = record { name = []; table = record { columns = []; next = 0; rows = []; marks = [] } }

abbrev pub opening_at : List Opening → ℕ → Opening
opening_at tables place = slice_index_or tables place no_table

abbrev pub table_at : List Opening → ℕ → TableState
table_at tables place = (opening_at tables place).table

abbrev pub session_in : List OpenSession → ℕ → Option OpenSession
session_in sessions session = find (λ s. s.session == session) sessions

-- the mode of a session, where it is open
abbrev pub mode_of : MachineState → ℕ → Option SessionMode
mode_of m session = option_map (λ s. s.mode) (session_in m.sessions session)

-- The session is open.
abbrev pub IsSessionOpen : MachineState → ℕ → Type 0
IsSessionOpen m session = mode_of m session ≢ None

-- the owner of a row of a table, where there is such a row and it has one
abbrev pub owner_at : MachineState → ℕ → ℕ → Option ℕ
owner_at m place number = owner_in (table_at m.tables place).rows number

-- the sessions with one session's mode changed
abbrev pub in_mode : ℕ → SessionMode → OpenSession → OpenSession
in_mode session mode s = if s.session == session then record { session = s.session; mode = mode } else s

abbrev pub with_mode : ℕ → SessionMode → List OpenSession → List OpenSession
with_mode session mode sessions = map (in_mode session mode) sessions

abbrev pub without_session : ℕ → List OpenSession → List OpenSession
without_session session sessions = filter (λ s. not (s.session == session)) sessions
