-- A whole play: its turns, what stopped it, and the closing of the sessions that are open then.
use Rattle.std.specs.Prelude.{◌≡◌, ◌≢◌, ◌≤◌, ◌<◌, ◌++◌, ◌∷◌, ◌⊎◌, [], ℕ, List, Option, None, Some, Err, All, IfSome, take, length}
use Rattle.q4_flow.specs.Flow.{Rose, Gave, Took}
use Rattle.q4_flow.specs.Lines.{IsOneLine, IsOpenLine, line_limit}
use Rattle.q4_machine.specs.declared.entry.Entry.{Entry}
use Rattle.q4_machine.specs.declared.desk.DeskFault.{DeskFault}
use Rattle.q4_machine.specs.declared.desk.DeskFault.TheVariants as fault
use Rattle.q4_machine.specs.Parts.{IsOpened, fault_answer}
use Rattle.q4_machine.specs.Patience.{PatienceState}
use Rattle.q4_proto.specs.Told.{Refused}
use Rattle.q4_proto.specs.Text.{text_behind, code}
use Rattle.q4_session.specs.Exchanges.{answer_outcome, wants_memory}
use Rattle.q4_session.specs.Sessions.{Around, WroteFront}
use Rattle.q4_play.specs.declared.plays.PlayEnd.{PlayEnd}
use Rattle.q4_play.specs.declared.plays.PlayEnd.TheVariants.{Ended, Partial, TooLong, ReadFault, WriteFault, Worn, Memory}
use Rattle.q4_play.specs.Labels.{IsLabel, IsUnlabelled, command_line, session_at, nobody}
use Rattle.q4_play.specs.Turns.{Host, Spoken, IsSpoken, Turn, AreTurns, Closes, line_of, spoken_line, spoken_grown, spoken_text, spoken_seating, bad_label, grown_by, lines_of, texts_of, seating_after, patience_after}

-- a command at which the opening of its label's session was refused
pub record Unopened : Type 0 where
  pub label : ℕ
  pub command : List ℕ
  pub grown : List Entry
  pub fault : DeskFault

-- what stops a play: the end of its input, a refused opening, or a failure of the sink at the reply to a line
pub data Stop : Type 0 where
  Input : PlayEnd → Stop
  Refuses : Unopened → Stop
  CutUnlabelled : List ℕ → Stop
  CutSpoken : Spoken → Stop

-- ## What is read off a stop

-- its line, where it stops at one
abbrev pub stop_line : Stop → Option (List ℕ)
stop_line (Input how) = None
stop_line (Refuses refused) = Some (command_line refused.label refused.command)
stop_line (CutUnlabelled line) = Some line
stop_line (CutSpoken spoken) = Some (spoken_line spoken)

-- a line with its newline
abbrev pub with_newline : Option (List ℕ) → List ℕ
with_newline None = []
with_newline (Some line) = line ++ 10 ∷ []

-- what the history grew by
abbrev pub stop_grown : Stop → List Entry
stop_grown (Input how) = []
stop_grown (Refuses refused) = refused.grown
stop_grown (CutUnlabelled line) = []
stop_grown (CutSpoken spoken) = spoken_grown spoken

-- what is written at the end of the input
abbrev pub last_words : PlayEnd → List ℕ
last_words (Partial count) = text_behind (Some 0) (Refused (code 61))
last_words TooLong = text_behind (Some 0) (Refused (code 60))
last_words Memory = text_behind (Some 0) wants_memory
last_words _ = []

-- what is owed there
abbrev pub stop_text : Stop → List ℕ
stop_text (Input how) = last_words how
stop_text (Refuses refused) = text_behind (Some refused.label) (answer_outcome (fault_answer refused.fault))
stop_text (CutUnlabelled line) = bad_label
stop_text (CutSpoken spoken) = spoken_text spoken

-- which session each label has then
abbrev pub stop_seating : List (Option ℕ) → Stop → List (Option ℕ)
stop_seating seating (CutSpoken spoken) = spoken_seating seating spoken
stop_seating seating _ = seating

abbrev pub stop_patience : PatienceState → Stop → PatienceState
stop_patience patience (CutSpoken spoken) = spoken.exchange.patience
stop_patience patience _ = patience

-- the end of a play whose opening was refused so
abbrev pub refused_end : DeskFault → PlayEnd
refused_end fault.Memory = Memory
refused_end (fault.Worn count) = Worn count

-- the end where all that is owed was written; at the reply to a line the play would go on
abbrev pub stop_end : Stop → Option PlayEnd
stop_end (Input how) = Some how
stop_end (Refuses refused) = Some (refused_end refused.fault)
stop_end (CutUnlabelled line) = None
stop_end (CutSpoken spoken) = None

-- ## What stops a play

-- How the input ended: the bytes behind the lines, and whether the source ended. Want of memory may come at any time, but
-- leaves no line that was read without its turn.
abbrev pub InputEnds : PlayEnd → List ℕ → Type 0 → Type 0
InputEnds Ended rest ended = (rest ≡ []) × ended
InputEnds (Partial count) rest ended = IsOpenLine rest × (length rest ≡ count) × (0 < count) × ended
InputEnds TooLong rest ended = IsOneLine (take line_limit rest) × (line_limit ≤ length rest)
InputEnds ReadFault rest ended = IsOpenLine rest
InputEnds Memory rest ended = IsOpenLine rest
InputEnds WriteFault rest ended = ⊥
InputEnds (Worn count) rest ended = ⊥

-- The label had no session, and the opening of one was refused.
pub record IsUnopened (host : Host) (before : List Entry) (seating : List (Option ℕ)) (refused : Unopened) : Type 0 where
  pub is_label : IsLabel refused.label
  pub none : session_at seating refused.label ≡ None
  pub opens : IsOpened host.limit before refused.grown host.caller (Err refused.fault)

-- A stop at a line.
abbrev pub IsLineStop : Host → List Entry → List (Option ℕ) → PatienceState → Stop → Type 0
IsLineStop host before seating patience (Input how) = ⊥
IsLineStop host before seating patience (Refuses refused) = IsUnopened host before seating refused
IsLineStop host before seating patience (CutUnlabelled line) = IsUnlabelled line
IsLineStop host before seating patience (CutSpoken spoken) = IsSpoken host before seating patience spoken

abbrev pub IsStop : Host → List Entry → List (Option ℕ) → PatienceState → List ℕ → Type 0 → Stop → Type 0
IsStop host before seating patience rest ended (Input how) = InputEnds how rest ended
IsStop host before seating patience rest ended stop = IsLineStop host before seating patience stop

-- ## What was written

-- All texts and all that is owed were written, where the play ends so.
abbrev pub WroteAll : Option PlayEnd → Option (List ℕ) → Option (List ℕ) → List ℕ → PlayEnd → Type 0
WroteAll None old new bytes how = ⊥
WroteAll (Some wanted) old new bytes how = (how ≡ wanted) × Took old new bytes

-- The sink failed, and took all texts and a front of what is owed.
pub record WroteSome (old new : Option (List ℕ)) (texts owed : List ℕ) (how : PlayEnd) : Type 0 where
  pub end : how ≡ WriteFault
  pub some : owed ≢ []
  pub wrote : WroteFront old new texts owed

abbrev pub Concludes : Stop → Option (List ℕ) → Option (List ℕ) → List ℕ → PlayEnd → Type 0
Concludes stop old new texts how = WroteAll (stop_end stop) old new (texts ++ stop_text stop) how ⊎ WroteSome old new texts (stop_text stop) how

-- ## The whole

-- The sessions of these labels closed one after the other, in rising order of label.
abbrev pub AreClosed : ℕ → List (Option ℕ) → List Entry → Type 0
AreClosed caller [] grown = grown ≡ []
AreClosed caller (seat ∷ seats) grown = (first : List Entry) × (later : List Entry) × (grown ≡ first ++ later) × Closes caller seat first × AreClosed caller seats later

-- The lines of a play, from a desk on which no label has a session.
pub record Lined (host : Host) (old new : Around) (seating' : List (Option ℕ)) (ended : Type 0) (how : PlayEnd) : Type 0 where
  pub turns : List Turn
  pub stop : Stop
  pub rest : List ℕ
  pub lines : All (λ turn. IsOpenLine (line_of turn)) turns
  pub last_line : IfSome (stop_line stop) IsOpenLine
  pub are : AreTurns host old.seen nobody old.patience turns
  pub stops : IsStop host (old.seen ++ grown_by turns) (seating_after nobody turns) (patience_after old.patience turns) rest ended stop
  pub seating : seating' ≡ stop_seating (seating_after nobody turns) stop
  pub history : new.seen ≡ old.seen ++ grown_by turns ++ stop_grown stop
  pub patience : new.patience ≡ stop_patience (patience_after old.patience turns) stop
  pub read : Gave old.left new.left (lines_of turns ++ with_newline (stop_line stop) ++ rest)
  pub wrote : Concludes stop old.written new.written (texts_of turns) how

-- A play: its lines, and then the closing of each session that a label has.
pub record Play (host : Host) (old new : Around) (ended : Type 0) (how : PlayEnd) : Type 0 where
  pub before_closing : List Entry
  pub seating : List (Option ℕ)
  pub closing : List Entry
  pub lined : Lined host old (record new { seen = before_closing }) seating ended how
  pub closed : AreClosed host.caller seating closing
  pub history : new.seen ≡ before_closing ++ closing

-- A read fault comes exactly where the source's count rose.
pub record ReadCause (before now : ℕ) (how : PlayEnd) : Type 0 where
  pub later : before ≤ now
  pub failed : how ≡ ReadFault → Rose before now
  pub stayed : (now ≡ before) ⊎ (how ≡ ReadFault)

-- A write fault comes only where the sink's count rose, and wherever it is greater.
pub record WriteCause (before now : ℕ) (how : PlayEnd) : Type 0 where
  pub later : before ≤ now
  pub failed : how ≡ WriteFault → Rose before now
  pub stayed : (now ≡ before) ⊎ (how ≡ WriteFault)
