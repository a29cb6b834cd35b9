-- The lines of a play, one turn each: what a line did, what it was answered, and which session its label has then.
use Rattle.std.specs.Prelude.{◌≡◌, ◌++◌, ◌∷◌, [], ℕ, List, Option, None, Some, Ok}
use Rattle.std.specs.List.{flat_map}
use Rattle.q4_def.specs.declared.table_def.TableDef.{TableDef}
use Rattle.q4_machine.specs.declared.entry.Entry.{Entry}
use Rattle.q4_machine.specs.Parts.{IsOpened, IsClosed}
use Rattle.q4_machine.specs.Patience.{PatienceState}
use Rattle.q4_proto.specs.Told.{Told, Bye, Refused}
use Rattle.q4_proto.specs.Text.{text_behind, code}
use Rattle.q4_session.specs.Exchanges.{Client, Exchange, IsExchange}
use Rattle.q4_play.specs.Labels.{IsLabel, IsUnlabelled, alone_line, command_line, session_at, with_seat}

-- whose entries a play makes, the definitions that its lines are read for, and the desk's limit
pub record Host : Type 0 where
  pub defs : List TableDef
  pub limit : ℕ
  pub caller : ℕ

abbrev pub client_of : Host → ℕ → Client
client_of host session = record { defs = host.defs; limit = host.limit; caller = host.caller; session = session }

-- a command behind a label: its session, what the history grew by where that was opened, and what the session did
pub record Spoken : Type 0 where
  pub label : ℕ
  pub session : ℕ
  pub opening : List Entry
  pub exchange : Exchange

-- one line: of no label; of a label alone, with what its closing added; or with a command, and what the closing behind
-- `bye` added
pub data Turn : Type 0 where
  Unlabelled : List ℕ → Turn
  Left : ℕ → List Entry → Turn
  Spoke : Spoken → List Entry → Turn

-- ## What is read off a turn

-- its line
abbrev pub spoken_line : Spoken → List ℕ
spoken_line spoken = command_line spoken.label spoken.exchange.line

abbrev pub line_of : Turn → List ℕ
line_of (Unlabelled line) = line
line_of (Left label closing) = alone_line label
line_of (Spoke spoken closing) = spoken_line spoken

-- what the history grew by
abbrev pub spoken_grown : Spoken → List Entry
spoken_grown spoken = spoken.opening ++ spoken.exchange.grown

abbrev pub grown_of : Turn → List Entry
grown_of (Unlabelled line) = []
grown_of (Left label closing) = closing
grown_of (Spoke spoken closing) = spoken_grown spoken ++ closing

-- what was written
abbrev pub bad_label : List ℕ
bad_label = text_behind (Some 0) (Refused (code 15))

abbrev pub spoken_text : Spoken → List ℕ
spoken_text spoken = text_behind (Some spoken.label) spoken.exchange.outcome

abbrev pub text_of : Turn → List ℕ
text_of (Unlabelled line) = bad_label
text_of (Left label closing) = []
text_of (Spoke spoken closing) = spoken_text spoken

-- which session each label has behind it
abbrev pub spoken_seating : List (Option ℕ) → Spoken → List (Option ℕ)
spoken_seating seating spoken = with_seat seating spoken.label (Some spoken.session)

abbrev pub behind_outcome : List (Option ℕ) → ℕ → Told → List (Option ℕ)
behind_outcome seating label Bye = with_seat seating label None
behind_outcome seating label _ = seating

abbrev pub seating_behind : List (Option ℕ) → Turn → List (Option ℕ)
seating_behind seating (Unlabelled line) = seating
seating_behind seating (Left label closing) = with_seat seating label None
seating_behind seating (Spoke spoken closing) = behind_outcome (spoken_seating seating spoken) spoken.label spoken.exchange.outcome

-- the patience behind it
abbrev pub patience_behind : PatienceState → Turn → PatienceState
patience_behind patience (Unlabelled line) = patience
patience_behind patience (Left label closing) = patience
patience_behind patience (Spoke spoken closing) = spoken.exchange.patience

-- ## What a turn does

-- The label's session is this one, which was opened here where the label had none.
abbrev pub Takes : Host → List Entry → List Entry → Option ℕ → ℕ → Type 0
Takes host before opening None session = IsOpened host.limit before opening host.caller (Ok session)
Takes host before opening (Some seated) session = (seated ≡ session) × (opening ≡ [])

-- The label's session answered the command, as a session of its own would.
pub record IsSpoken (host : Host) (before : List Entry) (seating : List (Option ℕ)) (patience : PatienceState) (spoken : Spoken) : Type 0 where
  pub is_label : IsLabel spoken.label
  pub takes : Takes host before spoken.opening (session_at seating spoken.label) spoken.session
  pub exchanges : IsExchange (client_of host spoken.session) (before ++ spoken.opening) patience spoken.exchange

-- Behind `bye` the session closes.
abbrev pub Leaves : ℕ → ℕ → Told → List Entry → Type 0
Leaves caller session Bye closing = IsClosed caller session closing
Leaves caller session _ closing = closing ≡ []

-- A label alone closes its session, and does nothing where it has none.
abbrev pub Closes : ℕ → Option ℕ → List Entry → Type 0
Closes caller None closing = closing ≡ []
Closes caller (Some session) closing = IsClosed caller session closing

abbrev pub IsTurn : Host → List Entry → List (Option ℕ) → PatienceState → Turn → Type 0
IsTurn host before seating patience (Unlabelled line) = IsUnlabelled line
IsTurn host before seating patience (Left label closing) = IsLabel label × Closes host.caller (session_at seating label) closing
IsTurn host before seating patience (Spoke spoken closing) = IsSpoken host before seating patience spoken × Leaves host.caller spoken.session spoken.exchange.outcome closing

-- Turns one after the other, each behind what the earlier ones left.
abbrev pub AreTurns : Host → List Entry → List (Option ℕ) → PatienceState → List Turn → Type 0
AreTurns host before seating patience [] = Unit {0}
AreTurns host before seating patience (turn ∷ turns) = IsTurn host before seating patience turn × AreTurns host (before ++ grown_of turn) (seating_behind seating turn) (patience_behind patience turn) turns

-- what the history grew by, the lines with their newlines, and the texts, all in order
abbrev pub grown_by : List Turn → List Entry
grown_by turns = flat_map grown_of turns

abbrev pub lines_of : List Turn → List ℕ
lines_of turns = flat_map (λ turn. line_of turn ++ 10 ∷ []) turns

abbrev pub texts_of : List Turn → List ℕ
texts_of turns = flat_map text_of turns

-- which session each label has behind them, and the patience
abbrev pub seating_after : List (Option ℕ) → List Turn → List (Option ℕ)
seating_after seating [] = seating
seating_after seating (turn ∷ turns) = seating_after (seating_behind seating turn) turns

abbrev pub patience_after : PatienceState → List Turn → PatienceState
patience_after patience [] = patience
patience_after patience (turn ∷ turns) = patience_after (patience_behind patience turn) turns
