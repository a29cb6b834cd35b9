-- Which machines are valid: tables are valid, session numbers rise, modes and owners agree.
use Rattle.std.specs.Prelude.{◌≡◌, ◌<◌, ℕ, List, Some, All, map}
use Rattle.q4_table.specs.Valid.{RiseBelow, IsValidTable}
use Rattle.q4_machine.specs.declared.session.SessionMode.TheVariants.{Owner}
use Rattle.q4_machine.specs.Opening.{Opening}
use Rattle.q4_machine.specs.Machine.{MachineState, mode_of, owner_at}

abbrev pub AreValidTables : List Opening → Type 0
AreValidTables tables = All (λ opening. IsValidTable opening.table) tables

-- A session's mode is `Owner place number` exactly where that row of that table has it as its owner. So a row
-- has at most one owner, and each owner is an open session, which owns at most one row.
pub record IsValid (m : MachineState) : Type 0 where
  pub tables : AreValidTables m.tables
  pub begins : 0 < m.next_session
  pub sessions : RiseBelow 0 m.next_session (map (λ s. s.session) m.sessions)
  pub owns : (session place number : ℕ) → mode_of m session ≡ Some (Owner place number) → owner_at m place number ≡ Some session
  pub owned : (session place number : ℕ) → owner_at m place number ≡ Some session → mode_of m session ≡ Some (Owner place number)
