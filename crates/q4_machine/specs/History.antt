-- Histories: which are legal, and what in them is settled.
use Rattle.std.specs.Prelude.{◌≡◌, ◌==◌, ◌&&◌, ◌+◌, ◌^◌, ◌<◌, ◌≤◌, ℕ, Bool, true, false, List, [], ◌∷◌, ◌++◌, Option, None, Some, All, Any, fold, length, if◌then◌else◌}
use Rattle.q4_def.specs.declared.table_def.TableDef.{TableDef}
use Rattle.q4_machine.specs.declared.session.SessionMode.{SessionMode}
use Rattle.q4_machine.specs.declared.session.SessionMode.TheVariants.{Owner}
use Rattle.q4_machine.specs.declared.entry.Entry.{Entry}
use Rattle.q4_machine.specs.declared.entry.Call.{Call}
use Rattle.q4_machine.specs.declared.entry.Call.TheVariants.{Opened, Open, Insert, End, Sync}
use Rattle.q4_machine.specs.declared.entry.Reply.{Reply}
use Rattle.q4_machine.specs.declared.entry.Reply.TheVariants.{Done, Added}
use Rattle.q4_machine.specs.Opening.{Opening}
use Rattle.q4_machine.specs.Definitions.{definitions}
use Rattle.q4_machine.specs.Machine.{MachineState, mode_of, IsSessionOpen}
use Rattle.q4_machine.specs.Step.{step, MayStep}
use Rattle.q4_machine.specs.Valid.{AreValidTables}

-- the machine before any entry
abbrev pub nothing : MachineState
nothing = record { tables = []; sessions = []; next_session = 0 }

abbrev pub advance : MachineState → Entry → MachineState
advance m e = (step m e.session e.call).0

-- the machine that a history reaches
abbrev pub state_after : List Entry → MachineState
state_after history = fold advance nothing history

-- the call opens a session
abbrev pub opens_session : Call → Bool
opens_session Open = true
opens_session _ = false

-- the caller of the entry that opened a session
abbrev pub opener : List Entry → ℕ → Option ℕ
opener [] session = None
opener (e ∷ es) session = if opens_session e.call && e.session == session then Some e.caller else opener es session

-- The session is open, and this caller opened it.
pub record IsOpenFor (before : List Entry) (caller session : ℕ) : Type 0 where
  pub is_open : IsSessionOpen (state_after before) session
  pub opened_by : opener before session ≡ Some caller

-- An entry that may come next: the call's needs are met, the session is the caller's, and the reply is the step's.
pub record IsNext (before : List Entry) (e : Entry) : Type 0 where
  pub may : MayStep (state_after before) e.session e.call
  pub caller : opens_session e.call ≡ false → opener before e.session ≡ Some e.caller
  pub reply : e.reply ≡ (step (state_after before) e.session e.call).1

-- Nobody owns a row.
abbrev pub AreUnowned : List Opening → Type 0
AreUnowned tables = All (λ opening. All (λ r. r.owner ≡ None) opening.table.rows) tables

-- the tables of the first entry
abbrev pub tables_of : Call → List Opening
tables_of (Opened tables) = tables
tables_of _ = []

abbrev pub opened_tables : List Entry → List Opening
opened_tables [] = []
opened_tables (e ∷ es) = tables_of e.call

-- the names and columns of a history's tables, which are those of its first entry for good
abbrev pub definitions_of : List Entry → List TableDef
definitions_of history = definitions (opened_tables history)

-- The first entry: at most 16 valid tables in which nobody owns a row.
pub record IsOpening (e : Entry) : Type 0 where
  pub caller : e.caller ≡ 0
  pub session : e.session ≡ 0
  pub tables : List Opening
  pub call : e.call ≡ Opened tables
  pub few : length tables ≤ 16
  pub valid : AreValidTables tables
  pub unowned : AreUnowned tables
  pub reply : e.reply ≡ Done

abbrev pub is_sync : Call → Bool
is_sync Sync = true
is_sync _ = false

abbrev pub is_added : Reply → Bool
is_added (Added n) = true
is_added _ = false

abbrev pub is_owner : Option SessionMode → Bool
is_owner (Some (Owner place number)) = true
is_owner _ = false

-- A change is an insert that added a row, or an end that removed one.
abbrev pub is_change : MachineState → Call → ℕ → Reply → Bool
is_change m (Insert place row) session reply = is_added reply
is_change m End session reply = is_owner (mode_of m session)
is_change m _ session reply = false

-- Each change at or before a place has a sync after it.
abbrev pub IsSettled : List Entry → ℕ → Type 0
IsSettled history place = (before : List Entry) (e : Entry) (later : List Entry) → history ≡ before ++ e ∷ later → length before ≤ place
    → is_change (state_after before) e.call e.session e.reply ≡ true → Any (λ x. x.call ≡ Sync) later

-- A sync stands only where a change before it has none after it.
abbrev pub SyncsAreOwed : List Entry → Type 0
SyncsAreOwed history = (before : List Entry) (e : Entry) (later : List Entry) → history ≡ before ++ e ∷ later → e.call ≡ Sync → IsSettled before (length before) → ⊥

-- what a history may come to: entries, open sessions, and one sync where a change has none after it
abbrev pub history_limit : ℕ
history_limit = 2 ^ 62

-- Wherever a legal history is cut, the entry behind the cut may come next there.
pub record IsLegal (history : List Entry) : Type 0 where
  pub opening : Entry
  pub rest : List Entry
  pub whole : history ≡ opening ∷ rest
  pub opens : IsOpening opening
  pub each : (before : List Entry) (e : Entry) (later : List Entry) → rest ≡ before ++ e ∷ later → IsNext (opening ∷ before) e
  pub few : length history + length (state_after history).sessions < history_limit
  pub few_owing : (IsSettled history (length history) → ⊥) → length history + length (state_after history).sessions + 1 < history_limit
