-- Where the entry of an answered line stands.
use Rattle.std.specs.Prelude.{◌≡◌, ◌++◌, ◌∷◌, List, Some, Ok, length}
use Rattle.q4_machine.specs.declared.entry.Entry.{Entry}
use Rattle.q4_machine.specs.History.{IsSettled}
use Rattle.q4_proto.specs.declared.command.Command.{Command}
use Rattle.q4_proto.specs.Commands.{Reads}
use Rattle.q4_proto.specs.Told.{Told, Ok as SaysOk, Number, Seen, Rows, Bye, Refused}
use Rattle.q4_session.specs.Exchanges.{Client, Exchange, call_of, reply_outcome}

-- The outcome is neither a refusal nor `bye`.
abbrev pub IsGranted : Told → Type 0
IsGranted SaysOk = Unit {0}
IsGranted (Number number) = Unit {0}
IsGranted (Seen mark) = Unit {0}
IsGranted (Rows rows) = Unit {0}
IsGranted Bye = ⊥
IsGranted (Refused code) = ⊥

-- The line spells a command, and what the history grew by behind `start` while it was answered has an entry of the client
-- for its call, whose reply gives the outcome. In the history that this went into, each change up to that entry is settled.
pub record IsDone (client : Client) (start history : List Entry) (exchange : Exchange) : Type 0 where
  pub command : Command
  pub spells : Reads client.defs exchange.line (Ok command)
  pub front : List Entry
  pub entry : Entry
  pub back : List Entry
  pub cut : exchange.grown ≡ front ++ entry ∷ back
  pub later : List Entry
  pub whole : history ≡ (start ++ exchange.grown) ++ later
  pub caller : entry.caller ≡ client.caller
  pub session : entry.session ≡ client.session
  pub call : call_of command ≡ Some entry.call
  pub told : exchange.outcome ≡ reply_outcome entry.reply
  pub settled : IsSettled history (length (start ++ front))
