-- What a session does, from its opening to its closing.
use Rattle.std.specs.Prelude.{◌≡◌, ◌≢◌, ◌≤◌, ◌<◌, ◌++◌, ◌∷◌, ◌⊎◌, [], ℕ, List, Option, Ok, Err, All, take, length}
use Rattle.q4_flow.specs.Flow.{Rose, Gave, Took, TookFront, IsFront}
use Rattle.q4_flow.specs.Lines.{IsOneLine, IsOpenLine, line_limit}
use Rattle.q4_def.specs.declared.table_def.TableDef.{TableDef}
use Rattle.q4_machine.specs.declared.entry.Entry.{Entry}
use Rattle.q4_machine.specs.declared.desk.DeskFault.{DeskFault}
use Rattle.q4_machine.specs.declared.desk.DeskFault.TheVariants as fault
use Rattle.q4_machine.specs.Parts.{IsOpened, IsClosed}
use Rattle.q4_machine.specs.Patience.{PatienceState}
use Rattle.q4_proto.specs.Told.{Refused, Bye}
use Rattle.q4_proto.specs.Text.{text, code}
use Rattle.q4_session.specs.declared.sessions.SessionEnd.{SessionEnd}
use Rattle.q4_session.specs.declared.sessions.SessionEnd.TheVariants.{Quit, Ended, Partial, TooLong, ReadFault, WriteFault, Worn, Memory}
use Rattle.q4_session.specs.Exchanges.{Client, Exchange, AreExchanges, grown_by, lines_of, texts_of, patience_after, GoesOn, wants_memory, is_full}

-- How the input ended: the lines that were answered, the bytes behind them, and whether the source ended.
abbrev pub InputEnds : SessionEnd → List Exchange → List ℕ → Type 0 → Type 0
InputEnds Quit exchanges rest ended = (front : List Exchange) × (last : Exchange) × (exchanges ≡ front ++ last ∷ []) × GoesOn front × (last.outcome ≡ Bye)
InputEnds Ended exchanges rest ended = GoesOn exchanges × (rest ≡ []) × ended
InputEnds (Partial count) exchanges rest ended = GoesOn exchanges × IsOpenLine rest × (length rest ≡ count) × (0 < count) × ended
InputEnds TooLong exchanges rest ended = GoesOn exchanges × IsOneLine (take line_limit rest) × (line_limit ≤ length rest)
InputEnds ReadFault exchanges rest ended = GoesOn exchanges × IsOpenLine rest
InputEnds Memory exchanges rest ended = GoesOn exchanges × IsOpenLine rest
InputEnds WriteFault exchanges rest ended = ⊥
InputEnds (Worn count) exchanges rest ended = ⊥

-- what is written behind the replies where the input ended so
abbrev pub last_words : SessionEnd → List ℕ
last_words Quit = []
last_words Ended = []
last_words (Partial count) = text (Refused (code 61))
last_words TooLong = text (Refused (code 60))
last_words ReadFault = []
last_words WriteFault = []
last_words (Worn count) = []
last_words Memory = text wants_memory

-- A front of these words was written behind those texts.
pub record WroteFront (old new : Option (List ℕ)) (texts words : List ℕ) : Type 0 where
  pub front : List ℕ
  pub is_front : IsFront front words
  pub took : Took old new (texts ++ front)

-- The sink failed at the reply to the last line, which has all earlier replies before it.
pub record ReplyCut (old new : Option (List ℕ)) (exchanges : List Exchange) : Type 0 where
  pub front : List Exchange
  pub last : Exchange
  pub cut : exchanges ≡ front ++ last ∷ []
  pub goes_on : GoesOn front
  pub wrote : WroteFront old new (texts_of front) (text last.outcome)

-- The sink failed at the words that the input's end is owed, which have all replies before them.
pub record LastWordsCut (old new : Option (List ℕ)) (exchanges : List Exchange) (rest : List ℕ) (ended : Type 0) : Type 0 where
  pub how : SessionEnd
  pub ends : InputEnds how exchanges rest ended
  pub owed : last_words how ≢ []
  pub wrote : WroteFront old new (texts_of exchanges) (last_words how)

-- How the input ended, and what was written: the replies in order, then the last words.
abbrev pub Concludes : SessionEnd → Option (List ℕ) → Option (List ℕ) → List Exchange → List ℕ → Type 0 → Type 0
Concludes WriteFault old new exchanges rest ended = ReplyCut old new exchanges ⊎ LastWordsCut old new exchanges rest ended
Concludes how old new exchanges rest ended = InputEnds how exchanges rest ended × Took old new (texts_of exchanges ++ last_words how)

-- what a session changes: the history, what its source has left, what its sink was given, and its patience
pub record Around : Type 0 where
  pub seen : List Entry
  pub left : Option (List ℕ)
  pub written : Option (List ℕ)
  pub patience : PatienceState

-- The lines of an open session, cut at each newline, and answered one after the other.
pub record Conversation (client : Client) (old new : Around) (ended : Type 0) (how : SessionEnd) : Type 0 where
  pub exchanges : List Exchange
  pub rest : List ℕ
  pub lines : All (λ e. IsOpenLine e.line) exchanges
  pub answered : AreExchanges client old.seen old.patience exchanges
  pub history : new.seen ≡ old.seen ++ grown_by exchanges
  pub patience : new.patience ≡ patience_after old.patience exchanges
  pub read : Gave old.left new.left (lines_of exchanges ++ rest)
  pub concludes : Concludes how old.written new.written exchanges rest ended

-- A session that was opened: its opening, its lines and its closing.
pub record OpenedSession (defs : List TableDef) (limit caller : ℕ) (old new : Around) (ended : Type 0) (how : SessionEnd) : Type 0 where
  pub session : ℕ
  pub opening : List Entry
  pub before_closing : List Entry
  pub closing : List Entry
  pub opened : IsOpened limit old.seen opening caller (Ok session)
  pub conversation : Conversation (record { defs = defs; limit = limit; caller = caller; session = session }) (record old { seen = old.seen ++ opening }) (record new { seen = before_closing }) ended how
  pub closed : IsClosed caller session closing
  pub history : new.seen ≡ before_closing ++ closing

-- the end of a session whose opening was refused so, and what it writes: code 90, or code 70 with the count
abbrev pub refused_end : DeskFault → SessionEnd
refused_end fault.Memory = Memory
refused_end (fault.Worn count) = Worn count

abbrev pub refused_words : DeskFault → List ℕ
refused_words fault.Memory = text wants_memory
refused_words (fault.Worn count) = text (is_full count)

-- A session whose opening was refused: it added no entry of the caller, read nothing, and wrote its refusal alone, or a
-- front of it.
pub record RefusedSession (limit caller : ℕ) (old new : Around) (untouched : Type 0) (how : SessionEnd) : Type 0 where
  pub grown : List Entry
  pub fault : DeskFault
  pub history : new.seen ≡ old.seen ++ grown
  pub refused : IsOpened limit old.seen grown caller (Err fault)
  pub unread : untouched
  pub patience : new.patience ≡ old.patience
  pub wrote : ((how ≡ refused_end fault) × Took old.written new.written (refused_words fault)) ⊎ ((how ≡ WriteFault) × TookFront old.written new.written (refused_words fault))

-- One session, over a desk of these definitions, this limit and this caller.
abbrev pub Session : List TableDef → ℕ → ℕ → Around → Around → Type 0 → Type 0 → SessionEnd → Type 0
Session defs limit caller old new ended untouched how = OpenedSession defs limit caller old new ended how ⊎ RefusedSession limit caller old new untouched how

-- A read fault comes exactly where the source's count rose.
pub record ReadCause (before now : ℕ) (how : SessionEnd) : Type 0 where
  pub later : before ≤ now
  pub failed : how ≡ ReadFault → Rose before now
  pub stayed : (now ≡ before) ⊎ (how ≡ ReadFault)

-- A write fault comes only where the sink's count rose, and wherever it is greater.
pub record WriteCause (before now : ℕ) (how : SessionEnd) : Type 0 where
  pub later : before ≤ now
  pub failed : how ≡ WriteFault → Rose before now
  pub stayed : (now ≡ before) ⊎ (how ≡ WriteFault)
