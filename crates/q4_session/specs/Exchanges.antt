-- The lines of a session: how each was read, what it added to the history, and what it was answered.
use Rattle.std.specs.Prelude.{◌≡◌, ◌≢◌, ◌++◌, ◌∷◌, ◌⊎◌, [], ℕ, List, Option, Some, None, Result, Ok, Err, All}
use Rattle.std.specs.List.{flat_map}
use Rattle.q4_def.specs.declared.table_def.TableDef.{TableDef}
use Rattle.q4_def.specs.Tables.{AreDefs}
use Rattle.q4_machine.specs.declared.entry.Entry.{Entry}
use Rattle.q4_machine.specs.declared.entry.Call.{Call}
use Rattle.q4_machine.specs.declared.entry.Call.TheVariants as call
use Rattle.q4_machine.specs.declared.entry.Reply.{Reply}
use Rattle.q4_machine.specs.declared.entry.Reply.TheVariants as reply
use Rattle.q4_machine.specs.declared.entry.Refusal.{Refusal}
use Rattle.q4_machine.specs.declared.entry.Refusal.TheVariants as refusal
use Rattle.q4_machine.specs.Parts.{Answer, Replied, WantsMemory, Worn, IsPart, WasWorn, Stands, Waits, calls_of}
use Rattle.q4_machine.specs.Patience.{PatienceState}
use Rattle.q4_proto.specs.declared.command.Command.{Command}
use Rattle.q4_proto.specs.declared.command.Command.TheVariants.{Insert, Wait, RowId, End, Abort, Select, Quit}
use Rattle.q4_proto.specs.declared.command.CommandFault.{CommandFault}
use Rattle.q4_proto.specs.declared.reply.Code.{Code}
use Rattle.q4_proto.specs.Commands.{Reads}
use Rattle.q4_proto.specs.Told as told
use Rattle.q4_proto.specs.Told.{Told}
use Rattle.q4_proto.specs.Text.{text, code, code_at, fault_code}

-- who speaks: the caller of the desk and its session, the definitions that lines are read for, and the desk's limit
pub record Client : Type 0 where
  pub defs : List TableDef
  pub limit : ℕ
  pub caller : ℕ
  pub session : ℕ

-- one line, what the history grew by while it was answered, its outcome, and the state of the patience then
pub record Exchange : Type 0 where
  pub line : List ℕ
  pub grown : List Entry
  pub outcome : Told
  pub patience : PatienceState

-- ## Outcomes

-- the code of a refusal; that of too many bytes tells the sum of the rows that are there
abbrev pub refusal_code : Refusal → Code
refusal_code refusal.NotOwner = code 31
refusal_code refusal.NoRow = code 32
refusal_code refusal.Spent = code 44
refusal_code refusal.Rows = code 41
refusal_code (refusal.Bytes sum) = code_at 42 sum

-- the outcome of the reply of an entry
abbrev pub reply_outcome : Reply → Told
reply_outcome reply.Done = told.Ok
reply_outcome (reply.Session number) = told.Number number
reply_outcome (reply.Added number) = told.Number number
reply_outcome (reply.Seen mark) = told.Seen mark
reply_outcome (reply.Found place) = told.Number place
reply_outcome reply.Nothing = told.Number 0
reply_outcome (reply.Number number) = told.Number number
reply_outcome (reply.Shown rows) = told.Rows rows
reply_outcome (reply.Refused refused) = told.Refused (refusal_code refused)

-- what tells that memory is wanted, and that the history of so many entries is full
abbrev pub wants_memory : Told
wants_memory = told.Refused (code 90)

abbrev pub is_full : ℕ → Told
is_full count = told.Refused (code_at 70 count)

-- the outcome of an answer of the desk
abbrev pub answer_outcome : Answer → Told
answer_outcome (Replied reply) = reply_outcome reply
answer_outcome WantsMemory = wants_memory
answer_outcome (Worn count) = is_full count

-- the outcome of a line that spells no command
abbrev pub fault_outcome : CommandFault → Told
fault_outcome fault = told.Refused (fault_code fault)

-- ## What a line does

-- the call that a command asks for; to quit asks for none
abbrev pub call_of : Command → Option Call
call_of (Insert table row) = Some (call.Insert table row)
call_of (Wait list seconds) = Some (call.Look list)
call_of RowId = Some call.RowId
call_of End = Some call.End
call_of Abort = Some call.Abort
call_of (Select table most) = Some (call.Select table most)
call_of Quit = None

-- A wait starts its patience with the command's seconds, and every other command leaves the patience.
abbrev pub Uses : Command → PatienceState → PatienceState → Answer → Type 0
Uses (Wait list seconds) before now answer = Waits before now seconds answer
Uses _ before now answer = now ≡ before

-- A call adds its part, and its answer gives the outcome.
pub record Calls (client : Client) (before : List Entry) (patience : PatienceState) (exchange : Exchange) (command : Command) (call : Call) : Type 0 where
  pub answer : Answer
  pub part : IsPart client.limit before exchange.grown client.caller client.session call answer
  pub told : exchange.outcome ≡ answer_outcome answer
  pub uses : Uses command patience exchange.patience answer

-- No call was made, and this is the outcome.
pub record Says (patience : PatienceState) (exchange : Exchange) (outcome : Told) : Type 0 where
  pub none : exchange.grown ≡ []
  pub told : exchange.outcome ≡ outcome
  pub kept : exchange.patience ≡ patience

-- What a command adds to the history, and its outcome.
abbrev pub Obeys : Client → List Entry → PatienceState → Exchange → Command → Option Call → Type 0
Obeys client before patience exchange command (Some call) = Calls client before patience exchange command call
Obeys client before patience exchange command None = Says patience exchange told.Bye

-- The same of a line that was read so: a line that spells no command adds nothing and is answered its code.
abbrev pub Does : Client → List Entry → PatienceState → Exchange → Result Command CommandFault → Type 0
Does client before patience exchange (Ok command) = Obeys client before patience exchange command (call_of command)
Does client before patience exchange (Err fault) = Says patience exchange (fault_outcome fault)

-- ## Completeness

-- The call's own entry stands, and the outcome is that of its reply.
pub record IsAnswered (client : Client) (before : List Entry) (exchange : Exchange) (call : Call) : Type 0 where
  pub reply : Reply
  pub stands : Stands client.limit before exchange.grown client.caller client.session call reply
  pub told : exchange.outcome ≡ reply_outcome reply

-- The outcome is that memory is wanted, and there is no entry of the caller but syncs.
pub record IsRefusedMemory (client : Client) (exchange : Exchange) : Type 0 where
  pub told : exchange.outcome ≡ wants_memory
  pub none : calls_of client.caller exchange.grown ≡ []

-- The outcome is that the history is full, and it was, with the count that is told.
pub record IsRefusedFull (client : Client) (before : List Entry) (exchange : Exchange) : Type 0 where
  pub count : ℕ
  pub told : exchange.outcome ≡ is_full count
  pub worn : WasWorn client.limit before exchange.grown count

-- What a command that a line spells comes to: it was done, or memory was wanted, or the history was full. To quit is answered
-- whether or not the history is full.
abbrev pub Completes : Client → List Entry → Exchange → Option Call → Type 0
Completes client before exchange (Some call) = IsAnswered client before exchange call ⊎ (IsRefusedMemory client exchange ⊎ IsRefusedFull client before exchange)
Completes client before exchange None = (exchange.outcome ≡ told.Bye) ⊎ IsRefusedMemory client exchange

-- ## Lines

-- One line was read and answered behind this history, for definitions that a file may have. A command that it spells was
-- done, or memory was wanted, or the history was full.
pub record IsExchange (client : Client) (before : List Entry) (patience : PatienceState) (exchange : Exchange) : Type 0 where
  pub defined : AreDefs client.defs
  pub read : Result Command CommandFault
  pub reads : Reads client.defs exchange.line read
  pub does : Does client before patience exchange read
  pub complete : (command : Command) → Reads client.defs exchange.line (Ok command) → Completes client before exchange (call_of command)

-- Lines were answered one after the other, each behind what the earlier ones added, with the patience that they left.
abbrev pub AreExchanges : Client → List Entry → PatienceState → List Exchange → Type 0
AreExchanges client before patience [] = Unit {0}
AreExchanges client before patience (e ∷ es) = IsExchange client before patience e × AreExchanges client (before ++ e.grown) e.patience es

-- what the history grew by, the lines with their newlines, and the texts of the outcomes, all in order
abbrev pub grown_by : List Exchange → List Entry
grown_by exchanges = flat_map (λ e. e.grown) exchanges

abbrev pub lines_of : List Exchange → List ℕ
lines_of exchanges = flat_map (λ e. e.line ++ 10 ∷ []) exchanges

abbrev pub texts_of : List Exchange → List ℕ
texts_of exchanges = flat_map (λ e. text e.outcome) exchanges

-- the state of the patience behind them
abbrev pub patience_after : PatienceState → List Exchange → PatienceState
patience_after patience [] = patience
patience_after patience (e ∷ es) = patience_after e.patience es

-- No line was answered `bye`.
abbrev pub GoesOn : List Exchange → Type 0
GoesOn exchanges = All (λ e. e.outcome ≢ told.Bye) exchanges
