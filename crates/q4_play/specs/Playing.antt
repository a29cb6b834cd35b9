-- What one line came to: a turn, or the stop of the play. These serve the proof of the whole.
use Rattle.std.specs.Prelude.{◌≡◌, ◌≤◌, ◌++◌, ◌⊎◌, [], ℕ, List, Option, None, Some, Result, Ok, Err}
use Rattle.q4_flow.specs.Flow.{Rose, Took, TookFront}
use Rattle.q4_machine.specs.declared.entry.Entry.{Entry}
use Rattle.q4_machine.specs.declared.desk.DeskFault.{DeskFault}
use Rattle.q4_machine.specs.Parts.{IsOpened}
use Rattle.q4_machine.specs.Patience.{PatienceState}
use Rattle.q4_play.specs.declared.turns.Turned.{Turned}
use Rattle.q4_play.specs.declared.turns.Turned.TheVariants.{Next, Stops}
use Rattle.q4_play.specs.declared.plays.PlayEnd.{PlayEnd}
use Rattle.q4_play.specs.declared.plays.PlayEnd.TheVariants.{WriteFault}
use Rattle.q4_play.specs.Labels.{session_at, with_seat}
use Rattle.q4_play.specs.Turns.{Host, Turn, IsTurn, Takes, line_of, grown_of, text_of, seating_behind, patience_behind}
use Rattle.q4_play.specs.Plays.{Stop, IsLineStop, stop_line, stop_grown, stop_seating, stop_patience, Concludes}

-- what a line changes: the history, the sessions of the labels, the patience, and what the sink was given
pub record Scene : Type 0 where
  pub seen : List Entry
  pub seating : List (Option ℕ)
  pub patience : PatienceState
  pub written : Option (List ℕ)

-- a turn, after which the play goes on
pub record Turning (host : Host) (old new : Scene) (line : List ℕ) : Type 0 where
  pub turn : Turn
  pub line_is : line_of turn ≡ line
  pub is : IsTurn host old.seen old.seating old.patience turn
  pub history : new.seen ≡ old.seen ++ grown_of turn
  pub seating : new.seating ≡ seating_behind old.seating turn
  pub patience : new.patience ≡ patience_behind old.patience turn
  pub wrote : Took old.written new.written (text_of turn)

-- a stop at a line
pub record Stopping (host : Host) (old new : Scene) (line : List ℕ) (how : PlayEnd) : Type 0 where
  pub stop : Stop
  pub line_is : stop_line stop ≡ Some line
  pub is : IsLineStop host old.seen old.seating old.patience stop
  pub history : new.seen ≡ old.seen ++ stop_grown stop
  pub seating : new.seating ≡ stop_seating old.seating stop
  pub patience : new.patience ≡ stop_patience old.patience stop
  pub wrote : Concludes stop old.written new.written [] how

abbrev pub TurnsTo : Host → Scene → Scene → List ℕ → Turned → Type 0
TurnsTo host old new line Next = Turning host old new line
TurnsTo host old new line (Stops how) = Stopping host old new line how

-- The label's session is there, or was opened, and is current; or the opening was refused.
pub record Seats (host : Host) (old new : List Entry) (seating seating' : List (Option ℕ)) (label session : ℕ) : Type 0 where
  pub opening : List Entry
  pub history : new ≡ old ++ opening
  pub takes : Takes host old opening (session_at seating label) session
  pub seating_is : seating' ≡ with_seat seating label (Some session)

pub record Refused (host : Host) (old new : List Entry) (seating seating' : List (Option ℕ)) (label : ℕ) (fault : DeskFault) : Type 0 where
  pub grown : List Entry
  pub history : new ≡ old ++ grown
  pub none : session_at seating label ≡ None
  pub opens : IsOpened host.limit old grown host.caller (Err fault)
  pub seating_is : seating' ≡ seating

abbrev pub SeatsOr : Host → List Entry → List Entry → List (Option ℕ) → List (Option ℕ) → ℕ → Result ℕ DeskFault → Type 0
SeatsOr host old new seating seating' label (Ok session) = Seats host old new seating seating' label session
SeatsOr host old new seating seating' label (Err fault) = Refused host old new seating seating' label fault

-- Words were written, which leads to this; or the sink failed and took a front of them, which leads to that.
abbrev pub Says : {X : Type 0} → Option (List ℕ) → Option (List ℕ) → List ℕ → X → X → X → Type 0
Says old new words how failed result = ((result ≡ how) × Took old new words) ⊎ ((result ≡ failed) × TookFront old new words)

pub record SaysCause {X : Type 0} (before now : ℕ) (how failed result : X) : Type 0 where
  pub later : before ≤ now
  pub cases : ((result ≡ how) × (now ≡ before)) ⊎ ((result ≡ failed) × Rose before now)

-- A write fault comes only where the sink's count rose, and wherever it is greater.
pub record TurnCause (before now : ℕ) (result : Turned) : Type 0 where
  pub later : before ≤ now
  pub failed : result ≡ Stops WriteFault → Rose before now
  pub stayed : (now ≡ before) ⊎ (result ≡ Stops WriteFault)
