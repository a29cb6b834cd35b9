-- What one call of a desk adds to the history, and what it is answered.
use Rattle.std.specs.Prelude.{◌≡◌, ◌==◌, ◌&&◌, ◌<◌, ◌+◌, ◌⊎◌, ℕ, Bool, true, false, not, List, [], ◌∷◌, ◌++◌, Option, None, Some, IsSome, Result, Ok, Err, All, filter, length}
use Rattle.q4_machine.specs.declared.session.SessionMode.{SessionMode}
use Rattle.q4_machine.specs.declared.session.SessionMode.TheVariants.{Empty, Owner}
use Rattle.q4_machine.specs.declared.entry.Entry.{Entry}
use Rattle.q4_machine.specs.declared.entry.Call.{Call}
use Rattle.q4_machine.specs.declared.entry.Call.TheVariants.{Open, Look, End, Close}
use Rattle.q4_machine.specs.declared.entry.Refusal.TheVariants as refusal
use Rattle.q4_machine.specs.declared.entry.Reply.{Reply}
use Rattle.q4_machine.specs.declared.entry.Reply.TheVariants.{Done, Session}
use Rattle.q4_machine.specs.declared.entry.Reply.TheVariants as reply
use Rattle.q4_table.specs.declared.adding.Added.{Added}
use Rattle.q4_table.specs.declared.adding.Added.TheVariants.{New, Seen}
use Rattle.q4_machine.specs.declared.desk.DeskFault.{DeskFault}
use Rattle.q4_machine.specs.declared.desk.DeskFault.TheVariants as desk_fault
use Rattle.q4_machine.specs.declared.shown.NumberedRow.{NumberedRow}
use Rattle.q4_machine.specs.Patience.{PatienceState, counted, Rose}
use Rattle.q4_machine.specs.declared.desk.InsertFault.{InsertFault}
use Rattle.q4_machine.specs.declared.desk.InsertFault.TheVariants.{Spent, Rows, Bytes, Desk}
use Rattle.q4_machine.specs.declared.desk.ModeFault.{ModeFault}
use Rattle.q4_machine.specs.declared.desk.ModeFault.TheVariants as fault
use Rattle.q4_machine.specs.Machine.{mode_of}
use Rattle.q4_machine.specs.History.{state_after, is_sync, IsSettled, SyncsAreOwed, IsLegal, IsOpenFor}

-- the entries of one caller
abbrev pub of_caller : ℕ → List Entry → List Entry
of_caller caller history = filter (λ e. e.caller == caller) history

-- those of them that are no sync: the calls, and what they do first
abbrev pub calls_of : ℕ → List Entry → List Entry
calls_of caller history = filter (λ e. e.caller == caller && not (is_sync e.call)) history

-- The entries and the open sessions leave no room for a call.
abbrev pub IsWorn : ℕ → List Entry → Type 0
IsWorn limit seen = limit < length seen + length (state_after seen).sessions + 4

-- what a desk answers to a call: the reply of the call's entry, that it wants memory, or that the history of so many
-- entries is full
pub data Answer : Type 0 where
  Replied : Reply → Answer
  WantsMemory : Answer
  Worn : ℕ → Answer

-- the reply of the call's entry, where there is one
abbrev pub replied : Answer → Option Reply
replied (Replied reply) = Some reply
replied WantsMemory = None
replied (Worn count) = None

-- a look in owner mode ends first
abbrev pub is_owner_mode : Option SessionMode → Bool
is_owner_mode (Some Empty) = true
is_owner_mode (Some (Owner place number)) = true
is_owner_mode _ = false

abbrev pub ends_first : Call → Option SessionMode → Bool
ends_first (Look list) mode = is_owner_mode mode
ends_first _ mode = false

abbrev pub ending : Bool → ℕ → ℕ → List Entry
ending true caller session = record { caller = caller; session = session; call = End; reply = Done } ∷ []
ending false caller session = []

-- what the caller does before the call's own entry
abbrev pub first_calls : List Entry → ℕ → ℕ → Call → List Entry
first_calls before caller session call = ending (ends_first call (mode_of (state_after before) session)) caller session

-- Somewhere in what the history grew by, with nothing but entries of the caller behind it, the history was not full.
pub record HadRoom (limit : ℕ) (before front : List Entry) (caller : ℕ) : Type 0 where
  pub start : List Entry
  pub own : List Entry
  pub cut : front ≡ start ++ own
  pub by_caller : All (λ e. e.caller ≡ caller) own
  pub room : IsWorn limit (before ++ start) → ⊥

-- The call's own entry stands behind `front`, with this reply. Its caller made nothing else but syncs and, for
-- a look in owner mode, an end before it. Each change up to the entry has a sync after it. The history had room.
pub record Stands (limit : ℕ) (before grown : List Entry) (caller session : ℕ) (call : Call) (reply : Reply) : Type 0 where
  pub front : List Entry
  pub back : List Entry
  pub cut : grown ≡ front ++ record { caller = caller; session = session; call = call; reply = reply } ∷ back
  pub own_front : calls_of caller front ≡ first_calls before caller session call
  pub own_back : calls_of caller back ≡ []
  pub settled : IsSettled (before ++ grown) (length (before ++ front))
  pub had_room : HadRoom limit before front caller

-- Somewhere in what the history grew by it was full, with so many entries.
pub record WasWorn (limit : ℕ) (before grown : List Entry) (count : ℕ) : Type 0 where
  pub start : List Entry
  pub later : List Entry
  pub cut : grown ≡ start ++ later
  pub count_is : count ≡ length (before ++ start)
  pub worn : IsWorn limit (before ++ start)

-- A look left its end in this part of the history, settled, and nothing else. Where it ended the history had room.
pub record LeftEnd (limit : ℕ) (before start grown : List Entry) (caller session : ℕ) (call : Call) : Type 0 where
  pub front : List Entry
  pub back : List Entry
  pub ended : Entry
  pub cut : start ≡ front ++ ended ∷ back
  pub first : first_calls before caller session call ≡ ended ∷ []
  pub alone : calls_of caller grown ≡ ended ∷ []
  pub settled : IsSettled (before ++ start) (length (before ++ front))
  pub had_room : HadRoom limit before front caller

-- The own entry stands where there is a reply. Else there is none, but where the history was full after a look had paused
-- it has left its end.
abbrev pub Cases : ℕ → List Entry → List Entry → ℕ → ℕ → Call → Answer → Type 0
Cases limit before grown caller session call (Replied reply) = Stands limit before grown caller session call reply
Cases limit before grown caller session call WantsMemory = calls_of caller grown ≡ []
Cases limit before grown caller session call (Worn count) =
    (worn : WasWorn limit before grown count) × ((calls_of caller grown ≡ []) ⊎ LeftEnd limit before worn.start grown caller session call)

-- The part of one call: what the history grew by while it ran. The caller's entries there are of its session.
pub record IsPart (limit : ℕ) (before grown : List Entry) (caller session : ℕ) (call : Call) (answer : Answer) : Type 0 where
  pub session_is : All (λ e. e.session ≡ session) (of_caller caller grown)
  pub cases : Cases limit before grown caller session call answer

-- The history grew, and P holds of what it grew by.
abbrev pub Grows : List Entry → List Entry → (List Entry → Type 0) → Type 0
Grows old new P = (grown : List Entry) × (new ≡ old ++ grown) × P grown

-- What holds before and after each call of a desk: the history is legal, its syncs were owed, and a current session is
-- open and was opened by the desk's caller.
pub record IsInOrder (seen : List Entry) (caller : ℕ) (current : Option ℕ) : Type 0 where
  pub legal : IsLegal seen
  pub owed : SyncsAreOwed seen
  pub is_open : (s : ℕ) → current ≡ Some s → IsOpenFor seen caller s

-- ## The answers of the calls

abbrev pub fault_answer : DeskFault → Answer
fault_answer desk_fault.Memory = WantsMemory
fault_answer (desk_fault.Worn count) = Worn count

abbrev pub open_answer : Result ℕ DeskFault → Answer
open_answer (Ok session) = Replied (reply.Session session)
open_answer (Err refused) = fault_answer refused

abbrev pub insert_answer : Result Added InsertFault → Answer
insert_answer (Ok (New number)) = Replied (reply.Added number)
insert_answer (Ok (Seen mark)) = Replied (reply.Seen mark)
insert_answer (Err Spent) = Replied (reply.Refused refusal.Spent)
insert_answer (Err Rows) = Replied (reply.Refused refusal.Rows)
insert_answer (Err (Bytes sum)) = Replied (reply.Refused (refusal.Bytes sum))
insert_answer (Err (Desk refused)) = fault_answer refused

abbrev pub wait_answer : Result (Option ℕ) DeskFault → Answer
wait_answer (Ok (Some place)) = Replied (reply.Found place)
wait_answer (Ok None) = Replied reply.Nothing
wait_answer (Err refused) = fault_answer refused

abbrev pub mode_fault_answer : ModeFault → Answer
mode_fault_answer fault.NotOwner = Replied (reply.Refused refusal.NotOwner)
mode_fault_answer fault.NoRow = Replied (reply.Refused refusal.NoRow)
mode_fault_answer (fault.Desk refused) = fault_answer refused

-- the answer to an end and to an abort
abbrev pub mode_answer : Result (Unit {0}) ModeFault → Answer
mode_answer (Ok done) = Replied Done
mode_answer (Err refused) = mode_fault_answer refused

abbrev pub row_answer : Result ℕ ModeFault → Answer
row_answer (Ok number) = Replied (reply.Number number)
row_answer (Err refused) = mode_fault_answer refused

abbrev pub select_answer : Result (List NumberedRow) DeskFault → Answer
select_answer (Ok rows) = Replied (reply.Shown rows)
select_answer (Err refused) = fault_answer refused

-- ## What opens and closes

-- The opening made its one entry, where the history had room, and settled nothing.
pub record OpensAt (limit : ℕ) (before grown : List Entry) (caller session : ℕ) : Type 0 where
  pub front : List Entry
  pub back : List Entry
  pub cut : grown ≡ front ++ record { caller = caller; session = session; call = Open; reply = Session session } ∷ back
  pub none_front : of_caller caller front ≡ []
  pub none_back : of_caller caller back ≡ []
  pub room : IsWorn limit (before ++ front) → ⊥

-- What an opening adds: its one entry, or none where it was refused.
abbrev pub IsOpened : ℕ → List Entry → List Entry → ℕ → Result ℕ DeskFault → Type 0
IsOpened limit before grown caller (Ok s) = OpensAt limit before grown caller s
IsOpened limit before grown caller (Err desk_fault.Memory) = of_caller caller grown ≡ []
IsOpened limit before grown caller (Err (desk_fault.Worn count)) = (of_caller caller grown ≡ []) × WasWorn limit before grown count

-- The closing made its one entry.
abbrev pub IsClosed : ℕ → ℕ → List Entry → Type 0
IsClosed caller s grown = of_caller caller grown ≡ record { caller = caller; session = s; call = Close; reply = Done } ∷ []

-- ## What a wait makes of its patience

-- Where it was answered, the patience was started once, with these seconds, and asked; where the answer is that nothing
-- was found, the patience told that the time was over.
pub record Waits (before now : PatienceState) (seconds : ℕ) (answer : Answer) : Type 0 where
  pub given : now.given ≡ before.given
  pub started : IsSome (replied answer) → (now.starts ≡ counted before.starts) × (now.limit ≡ seconds)
  pub asked : IsSome (replied answer) → Rose before.asks now.asks
  pub spent : answer ≡ Replied reply.Nothing → Rose before.spent now.spent
