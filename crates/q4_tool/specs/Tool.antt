-- What the program does.
use Rattle.std.specs.Prelude.{◌≡◌, ◌∷◌, ◌⊎◌, [], ℕ, List, Option, Result, Ok, Err, All, String, codes, string_bytes, Some, None}
use Rattle.std.specs.declared.alloc.Global.{Global}
use Rattle.q4_flow.specs.Flow.{Rose, Took, TookFront}
use Rattle.q4_def.specs.declared.table_def.TableDef.{TableDef}
use Rattle.q4_machine.specs.declared.entry.Entry.{Entry}
use Rattle.q4_machine.specs.History.{IsLegal, IsSettled, SyncsAreOwed}
use Rattle.q4_machine.specs.Patience.{PatienceState}
use Rattle.q4_machine.specs.Recorded.{opened_new, entry_limit}
use Rattle.q4_tool.specs.declared.definitions.Undefined.{Undefined}
use Rattle.q4_tool.specs.declared.definitions.Undefined.TheVariants.{ReadFault}
use Rattle.q4_session.specs.declared.sessions.SessionEnd.{SessionEnd}
use Rattle.q4_session.specs.declared.sessions.SessionEnd.TheVariants as end
use Rattle.q4_session.specs.Sessions.{Session}
use Rattle.q4_play.specs.declared.plays.PlayEnd.{PlayEnd}
use Rattle.q4_play.specs.declared.plays.PlayEnd.TheVariants as play_end
use Rattle.q4_play.specs.Plays as plays
use Rattle.q4_tool.specs.declared.program.Work.{Work}
use Rattle.q4_tool.specs.declared.program.Work.TheVariants.{Run, Play}
use Rattle.q4_tool.specs.Definitions.{Comes, undefined_line, undefined_status}

-- The words are this one word.
abbrev pub AreWord : List ℕ → List (String Global) → Type 0
AreWord name [] = ⊥
AreWord name (word ∷ []) = string_bytes word ≡ name
AreWord name (word ∷ other ∷ rest) = ⊥

abbrev pub AreRun : List (String Global) → Type 0
AreRun words = AreWord (codes "run") words

abbrev pub ArePlay : List (String Global) → Type 0
ArePlay words = AreWord (codes "play") words

-- What the words ask for, where it is one of these.
abbrev pub Asks : List (String Global) → Option Work → Type 0
Asks words (Some Run) = AreRun words
Asks words (Some Play) = ArePlay words
Asks words None = (AreRun words → ⊥) × (ArePlay words → ⊥)

-- A line was written; after a failed write the status is 7.
abbrev pub Prints : List ℕ → ℕ → Option (List ℕ) → Option (List ℕ) → ℕ → Type 0
Prints line status written written' result = ((result ≡ status) × Took written written' line) ⊎ ((result ≡ 7) × TookFront written written' line)

-- A line was written, and the input is as it was.
abbrev pub Says : List ℕ → ℕ → Type 0 → Option (List ℕ) → Option (List ℕ) → ℕ → Type 0
Says line status untouched written written' result = untouched × Prints line status written written' result

-- the status of a session's end, and of a play's
abbrev pub status_of : SessionEnd → ℕ
status_of end.Quit = 0
status_of end.Ended = 0
status_of (end.Partial count) = 6
status_of end.TooLong = 6
status_of end.ReadFault = 8
status_of end.WriteFault = 7
status_of (end.Worn count) = 10
status_of end.Memory = 9

abbrev pub play_status : PlayEnd → ℕ
play_status play_end.Ended = 0
play_status (play_end.Partial count) = 6
play_status play_end.TooLong = 6
play_status play_end.ReadFault = 8
play_status play_end.WriteFault = 7
play_status (play_end.Worn count) = 10
play_status play_end.Memory = 9

-- a patience that was never started, and whose time is always over: a start gives it no turn
abbrev pub fresh_patience : PatienceState
fresh_patience = record { starts = 0; limit = 0; spent = 0; asks = 0; turns = 0; given = Some 0 }

-- A legal history by caller 0, settled by syncs that were owed.
pub record IsOwn (history : List Entry) : Type 0 where
  pub legal : IsLegal history
  pub by_zero : All (λ e. e.caller ≡ 0) history
  pub settled : (place : ℕ) → IsSettled history place
  pub owed : SyncsAreOwed history

-- One session ran from the input to the output, with a patience whose time is always over, over one history that begins
-- with the empty tables of these definitions. All of it is the tool's own.
pub record Ran (defs : List TableDef) (left left' : Option (List ℕ)) (ended untouched : Type 0) (written written' : Option (List ℕ)) (status : ℕ) : Type 0 where
  pub history : List Entry
  pub own : IsOwn history
  pub patience : PatienceState
  pub how : SessionEnd
  pub session : Session defs entry_limit 0
      (record { seen = opened_new defs ∷ []; left = left; written = written; patience = fresh_patience })
      (record { seen = history; left = left'; written = written'; patience = patience }) ended untouched how
  pub status_is : status ≡ status_of how

-- The same of many sessions, each behind its label.
pub record Played (defs : List TableDef) (left left' : Option (List ℕ)) (ended : Type 0) (written written' : Option (List ℕ)) (status : ℕ) : Type 0 where
  pub history : List Entry
  pub own : IsOwn history
  pub patience : PatienceState
  pub how : PlayEnd
  pub play : plays.Play (record { defs = defs; limit = entry_limit; caller = 0 })
      (record { seen = opened_new defs ∷ []; left = left; written = written; patience = fresh_patience })
      (record { seen = history; left = left'; written = written'; patience = patience }) ended how
  pub status_is : status ≡ play_status how

-- What is done where there are these definitions, and where there are none.
abbrev pub Does : (List TableDef → Type 0) → Result (List TableDef) Undefined → Type 0 → Option (List ℕ) → Option (List ℕ) → ℕ → Type 0
Does done (Ok defs) untouched written written' status = done defs
Does done (Err why) untouched written written' status = Says (undefined_line why) (undefined_status why) untouched written written' status

-- What came of the source of definitions, which failed as often as these counts say, and what was done.
pub record Defined (text text' : Option (List ℕ)) (text_ended : Type 0) (faults faults' : ℕ) (done : List TableDef → Type 0) (untouched : Type 0) (written written' : Option (List ℕ)) (status : ℕ) : Type 0 where
  pub came : Result (List TableDef) Undefined
  pub comes : Comes text text' text_ended (Rose faults faults') came
  pub stayed : (faults' ≡ faults) ⊎ (came ≡ Err ReadFault)
  pub does : Does done came untouched written written' status
