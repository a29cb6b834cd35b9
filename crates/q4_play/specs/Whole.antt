-- Whole sessions: what the turns of one label make up, from the command that opened its session to that session's closing.
use Rattle.std.specs.Prelude.{◌≡◌, ◌==◌, ◌&&◌, ◌++◌, ◌∷◌, [], ℕ, List, None, Ok, All, filter, not, if◌then◌else◌}
use Rattle.std.specs.List.{flat_map}
use Rattle.q4_machine.specs.declared.entry.Entry.{Entry}
use Rattle.q4_machine.specs.declared.entry.Call.TheVariants.{Open, Close}
use Rattle.q4_machine.specs.declared.entry.Reply.TheVariants.{Done, Session}
use Rattle.q4_machine.specs.History.{is_sync}
use Rattle.q4_machine.specs.Parts.{IsOpened, calls_of}
use Rattle.q4_machine.specs.Patience.{PatienceState}
use Rattle.q4_proto.specs.Told.{Told, Bye}
use Rattle.q4_session.specs.Exchanges.{Exchange, IsExchange}
use Rattle.q4_play.specs.Labels.{session_at, nobody}
use Rattle.q4_play.specs.Turns.{Host, Spoken, Turn, Unlabelled, Left, Spoke, client_of, seating_after}
use Rattle.q4_play.specs.Plays.{Stop, CutSpoken}

-- ## What is read off a play

-- the command whose reply the sink did not take, as one more turn
abbrev pub cut_turn : Stop → List Turn
cut_turn (CutSpoken spoken) = Spoke spoken [] ∷ []
cut_turn _ = []

-- the turns of a play, and that command behind them
abbrev pub all_turns : List Turn → Stop → List Turn
all_turns turns stop = turns ++ cut_turn stop

-- The label has no session behind these turns of a play, so that its next command opens one.
abbrev pub HasNone : List Turn → ℕ → Type 0
HasNone turns label = session_at (seating_after nobody turns) label ≡ None

-- what follows a command that was answered so: nothing behind `bye`
abbrev pub up_to_bye : Told → List Spoken → List Spoken
up_to_bye Bye rest = []
up_to_bye _ rest = rest

-- the commands that a label gives from here on up to its leaving, by a command answered `bye` or by the label alone
abbrev pub commands_of : ℕ → List Turn → List Spoken
commands_of label [] = []
commands_of label (Unlabelled line ∷ turns) = commands_of label turns
commands_of label (Left other closing ∷ turns) = if other == label then [] else commands_of label turns
commands_of label (Spoke spoken closing ∷ turns) = if spoken.label == label then spoken ∷ up_to_bye spoken.exchange.outcome (commands_of label turns) else commands_of label turns

-- the commands of the same session behind a command, where these turns stand behind it
abbrev pub commands_behind : Spoken → List Turn → List Spoken
commands_behind spoken turns = up_to_bye spoken.exchange.outcome (commands_of spoken.label turns)

-- ## What stands in a history

-- the calls of a session in a history: all its entries but syncs
abbrev pub calls_in : ℕ → List Entry → List Entry
calls_in session history = filter (λ e. e.session == session && not (is_sync e.call)) history

-- the entry that opens a session, and the one that closes it
abbrev pub opening_entry : ℕ → ℕ → Entry
opening_entry caller session = record { caller = caller; session = session; call = Open; reply = Session session }

abbrev pub closing_entry : ℕ → ℕ → Entry
closing_entry caller session = record { caller = caller; session = session; call = Close; reply = Done }

-- The opening of the session stands in the history.
pub record OpensIn (host : Host) (history : List Entry) (session : ℕ) (opening : List Entry) : Type 0 where
  pub before : List Entry
  pub later : List Entry
  pub cut : history ≡ before ++ opening ++ later
  pub opens : IsOpened host.limit before opening host.caller (Ok session)

-- A line of the session stands in the history behind this front of it, where more may stand between. It was answered there
-- by the relation that holds of a session alone.
pub record AnswersBehind (host : Host) (history : List Entry) (session : ℕ) (front : List Entry) (exchange : Exchange) : Type 0 where
  pub between : List Entry
  pub patience : PatienceState
  pub later : List Entry
  pub cut : history ≡ front ++ between ++ exchange.grown ++ later
  pub answers : IsExchange (client_of host session) (front ++ between) patience exchange

-- Commands of the session were answered so, each behind the one before it. The patience, which goes through all labels, is told
-- by the turns alone.
abbrev pub AreAnswered : Host → List Entry → ℕ → List Entry → List Spoken → Type 0
AreAnswered host history session front [] = Unit {0}
AreAnswered host history session front (spoken ∷ rest) = (here : AnswersBehind host history session front spoken.exchange) × AreAnswered host history session (front ++ here.between ++ spoken.exchange.grown) rest

-- ## Whole sessions

-- A whole session: all these commands are of it, the first one alone opened it, and behind its opening each was answered as by
-- a session alone, one behind the other. Its calls in the whole history are its opening, those of these commands, and its
-- closing, in order.
pub record IsWholeSession (host : Host) (history : List Entry) (session : ℕ) (first : Spoken) (rest : List Spoken) : Type 0 where
  pub same : All (λ spoken. spoken.session ≡ session) (first ∷ rest)
  pub opened : OpensIn host history session first.opening
  pub once : All (λ spoken. spoken.opening ≡ []) rest
  pub answered : AreAnswered host history session (opened.before ++ first.opening) (first ∷ rest)
  pub calls : calls_in session history ≡ opening_entry host.caller session ∷ flat_map (λ spoken. calls_of host.caller spoken.exchange.grown) (first ∷ rest) ++ closing_entry host.caller session ∷ []

-- The turn of a command, with `front` before it and `later` behind it, is of the session that a command of the same label
-- opened at this turn or before it: up to this turn that session's commands end with this one, and in all of them the same
-- ones stand before it.
pub record IsInSession (front : List Turn) (spoken : Spoken) (closing : List Entry) (later : List Turn) : Type 0 where
  pub start : List Turn
  pub first : Spoken
  pub first_closing : List Entry
  pub between : List Turn
  pub cut : front ++ Spoke spoken closing ∷ [] ≡ start ++ Spoke first first_closing ∷ between
  pub all : front ++ Spoke spoken closing ∷ later ≡ start ++ Spoke first first_closing ∷ (between ++ later)
  pub opens : HasNone start first.label
  pub label : first.label ≡ spoken.label
  pub session : first.session ≡ spoken.session
  pub earlier : List Spoken
  pub up_to : first ∷ commands_behind first between ≡ earlier ++ spoken ∷ []
  pub among : first ∷ commands_behind first (between ++ later) ≡ earlier ++ spoken ∷ commands_behind spoken later

-- A command of these turns opened this session.
pub record WasOpened (turns : List Turn) (session : ℕ) : Type 0 where
  pub front : List Turn
  pub first : Spoken
  pub closing : List Entry
  pub later : List Turn
  pub cut : turns ≡ front ++ Spoke first closing ∷ later
  pub opens : HasNone front first.label
  pub session_is : first.session ≡ session

-- The caller's entries are of sessions that commands of these turns opened.
abbrev pub AreOfSessions : ℕ → List Turn → List Entry → Type 0
AreOfSessions caller turns entries = All (λ e. e.caller ≡ caller → WasOpened turns e.session) entries
