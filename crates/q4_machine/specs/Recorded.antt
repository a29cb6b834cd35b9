-- What contracts see of a machine that records its history, and of a desk in memory.
use Rattle.std.specs.Prelude.{◌≡◌, ◌≤◌, ◌<◌, ◌+◌, ◌^◌, ◌++◌, ◌∷◌, ◌⊎◌, [], ℕ, Bool, true, false, List, Option, All, length, map}
use Rattle.q4_machine.specs.declared.entry.Entry.{Entry}
use Rattle.q4_machine.specs.declared.entry.Call.{Call}
use Rattle.q4_machine.specs.declared.entry.Call.TheVariants.{Opened, Sync}
use Rattle.q4_machine.specs.declared.entry.Reply.{Reply}
use Rattle.q4_machine.specs.declared.entry.Reply.TheVariants.{Done}
use Rattle.q4_def.specs.declared.table_def.TableDef.{TableDef}
use Rattle.q4_table.specs.Cursors.{Cursor}
use Rattle.q4_table.specs.TableState.{new_table}
use Rattle.q4_machine.specs.declared.desk.DeskFault.TheVariants as desk_fault
use Rattle.q4_machine.specs.declared.desk.InsertFault.{InsertFault}
use Rattle.q4_machine.specs.declared.desk.InsertFault.TheVariants.{Desk}
use Rattle.q4_machine.specs.Opening.{Opening}
use Rattle.q4_machine.specs.Definitions.{definitions}
use Rattle.q4_machine.specs.Machine.{MachineState, mode_of}
use Rattle.q4_machine.specs.History.{state_after, definitions_of, IsLegal}
use Rattle.q4_machine.specs.Parts.{is_owner_mode, ending, IsWorn, Answer, Replied, WantsMemory, Worn}

-- its history, and how many entries it has room for
pub record Recorded : Type 0 where
  pub seen : List Entry
  pub room : ℕ

-- what contracts see of a machine that records: its log, and apart from it what its tables keep, by their places
pub record RecordedView : Type 0 where
  pub log : Recorded
  pub kept : List (List Cursor)

-- its history, the session for which calls are made, and what its tables keep, by their places
pub record DeskState : Type 0 where
  pub seen : List Entry
  pub current : Option ℕ
  pub kept : List (List Cursor)

-- an entry of caller 0
abbrev pub entry : ℕ → Call → Reply → Entry
entry session call reply = record { caller = 0; session = session; call = call; reply = reply }

abbrev pub pushed : Recorded → ℕ → Call → Reply → Recorded
pushed r session call reply = record { seen = r.seen ++ entry session call reply ∷ []; room = r.room }

-- a call's own entry, where there is one
abbrev pub answered : Recorded → ℕ → Call → Answer → Recorded
answered r session call (Replied reply) = pushed r session call reply
answered r session call WantsMemory = r
answered r session call (Worn count) = r

-- An insert that had begun was refused by an entry, or for want of memory.
abbrev pub IsInsertRefusal : InsertFault → Type 0
IsInsertRefusal (Desk (desk_fault.Worn count)) = ⊥
IsInsertRefusal _ = Unit {0}

-- the end of a session in owner mode
abbrev pub ended_first : Recorded → ℕ → Recorded
ended_first r session = record { seen = r.seen ++ ending (is_owner_mode (mode_of (state_after r.seen) session)) 0 session; room = r.room }

-- The look was made, and where a sync was owed that stands right before or right behind it.
abbrev pub LookedUntil : Recorded → Recorded → ℕ → Call → Reply → Bool → Type 0
LookedUntil old new session call reply false = new ≡ pushed old session call reply
LookedUntil old new session call reply true =
    (new ≡ pushed (pushed old session call reply) session Sync Done) ⊎ (new ≡ pushed (pushed old session Sync Done) session call reply)

-- how many entries a desk in memory keeps, with one for each open session
abbrev pub entry_limit : ℕ
entry_limit = 1048576

-- how many sessions are open after a history
abbrev pub open_sessions : List Entry → ℕ
open_sessions history = length (state_after history).sessions

-- There is room for so many more entries, and a history of so many is legal.
abbrev pub HasRoom : Recorded → ℕ → Type 0
HasRoom r count = (length r.seen + count ≤ r.room) × (length r.seen + count < 2 ^ 61)

-- There is room for a call's entries, at most three, and for the closing of each session, one more than there are.
pub record HasBegun (history : List Entry) (r : Recorded) : Type 0 where
  pub seen : r.seen ≡ history
  pub room : HasRoom r (open_sessions history + 4)
  pub fresh : IsWorn entry_limit history → ⊥

-- The history is legal, its tables have the columns of its first entry, and all of it is by caller 0.
pub record IsSound (history : List Entry) : Type 0 where
  pub legal : IsLegal history
  pub defined : definitions (state_after history).tables ≡ definitions_of history
  pub by_zero : All (λ e. e.caller ≡ 0) history

-- The machine is what the sound history reaches.
pub record IsRecorded (machine : MachineState) (history : List Entry) : Type 0 where
  pub reached : machine ≡ state_after history
  pub sound : IsSound history

-- an empty table of this definition
abbrev pub new_opening : TableDef → Opening
new_opening def = record { name = def.name; table = new_table def.columns }

-- the one entry of a new desk: empty tables of these definitions
abbrev pub opened_new : List TableDef → Entry
opened_new defs = entry 0 (Opened (map new_opening defs)) Done
