-- What the answer to one line wrote.
use Rattle.std.specs.Prelude.{◌≡◌, ◌≢◌, ◌≤◌, ◌<◌, ◌++◌, ◌⊎◌, ℕ, List, Option, All, length}
use Rattle.q4_flow.specs.Flow.{Rose, Took, TookFront}
use Rattle.q4_def.specs.declared.table_def.TableDef.{TableDef}
use Rattle.q4_machine.specs.declared.entry.Entry.{Entry}
use Rattle.q4_machine.specs.Definitions.{IsRowFor, IsListed}
use Rattle.q4_machine.specs.Patience.{PatienceState}
use Rattle.q4_proto.specs.declared.command.Command.{Command}
use Rattle.q4_proto.specs.declared.command.Command.TheVariants.{Insert, Wait, Select}
use Rattle.q4_proto.specs.Told.{Told, Bye}
use Rattle.q4_proto.specs.Text.{text_behind}
use Rattle.q4_session.specs.declared.answering.Answered.{Answered}
use Rattle.q4_session.specs.declared.answering.Answered.TheVariants as answered
use Rattle.q4_session.specs.declared.sessions.SessionEnd.{SessionEnd}
use Rattle.q4_session.specs.declared.sessions.SessionEnd.TheVariants as end
use Rattle.q4_session.specs.Exchanges.{Client, IsExchange, Obeys, call_of}

-- What was written of an outcome: its text, behind a label where there is one, and where the sink failed a front of it.
-- `Quit` comes exactly with `bye`.
abbrev pub Writes : Option ℕ → Option (List ℕ) → Option (List ℕ) → Told → Answered → Type 0
Writes label old new outcome answered.Next = Took old new (text_behind label outcome) × (outcome ≢ Bye)
Writes label old new outcome answered.Quit = Took old new (text_behind label outcome) × (outcome ≡ Bye)
Writes label old new outcome answered.WriteFault = TookFront old new (text_behind label outcome)

-- One line: what the history grew by, the outcome, and what was written.
pub record Answering (client : Client) (label : Option ℕ) (seen seen' : List Entry) (patience patience' : PatienceState) (line : List ℕ) (written written' : Option (List ℕ)) (how : Answered) : Type 0 where
  pub grown : List Entry
  pub outcome : Told
  pub history : seen' ≡ seen ++ grown
  pub exchange : IsExchange client seen patience (record { line = line; grown = grown; outcome = outcome; patience = patience' })
  pub writes : Writes label written written' outcome how

-- What a command has to be for tables of these definitions: its row, its tables and its conditions are theirs.
abbrev pub IsAllowed : List TableDef → Command → Type 0
IsAllowed defs (Insert table row) = IsRowFor defs table row
IsAllowed defs (Wait list seconds) = All (IsListed defs) list
IsAllowed defs (Select table most) = (table < length defs) × (most ≤ 1000)
IsAllowed defs _ = Unit {0}

-- One command: what the history grew by, the outcome, and what was written.
pub record Obeying (client : Client) (label : Option ℕ) (seen seen' : List Entry) (patience patience' : PatienceState) (command : Command) (written written' : Option (List ℕ)) (how : Answered) : Type 0 where
  pub grown : List Entry
  pub outcome : Told
  pub history : seen' ≡ seen ++ grown
  pub obeys : (line : List ℕ) → Obeys client seen patience (record { line = line; grown = grown; outcome = outcome; patience = patience' }) command (call_of command)
  pub writes : Writes label written written' outcome how

-- A write fault comes only where the sink's count rose, and wherever it is greater.
pub record TellCause (before now : ℕ) (how : Answered) : Type 0 where
  pub later : before ≤ now
  pub failed : how ≡ answered.WriteFault → Rose before now
  pub stayed : (now ≡ before) ⊎ (how ≡ answered.WriteFault)

-- The last words were written, or a front of them.
abbrev pub LastReply : Option (List ℕ) → Option (List ℕ) → List ℕ → SessionEnd → SessionEnd → Type 0
LastReply old new words how result = ((result ≡ how) × Took old new words) ⊎ ((result ≡ end.WriteFault) × TookFront old new words)

pub record LastCause (before now : ℕ) (how result : SessionEnd) : Type 0 where
  pub later : before ≤ now
  pub cases : ((result ≡ how) × (now ≡ before)) ⊎ ((result ≡ end.WriteFault) × Rose before now)
