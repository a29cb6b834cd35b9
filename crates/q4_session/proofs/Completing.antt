-- A line that spells a command is answered by its entry, or memory was wanted.
use Rattle.std.proofs.Common.{◌≡◌, [], List, ℕ, Option, None, Some, Result, Ok, Err, inl, inr, refl, sym, ap, subst, append-nil}
use Rattle.q4_def.specs.Tables.{AreDefs}
use Rattle.q4_machine.specs.declared.entry.Entry.{Entry}
use Rattle.q4_machine.specs.declared.entry.Call.{Call}
use Rattle.q4_machine.specs.Parts.{Answer, Replied, WantsMemory, Worn, IsPart, calls_of}
use Rattle.q4_machine.specs.Patience.{PatienceState}
use Rattle.q4_proto.specs.declared.command.Command.{Command}
use Rattle.q4_proto.specs.declared.command.CommandFault.{CommandFault}
use Rattle.q4_proto.specs.declared.command.CommandFault.TheVariants.{Memory}
use Rattle.q4_proto.specs.Commands.{Reads}
use Rattle.q4_proto.proofs.Apart.{spelled_not_refused}
use Rattle.q4_proto.proofs.Once.{command_once}
use Rattle.q4_session.specs.declared.answering.Answered.{Answered}
use Rattle.q4_session.specs.Exchanges.{Client, Exchange, Says, Obeys, Does, Completes, call_of, answer_outcome, fault_outcome}
use Rattle.q4_session.specs.Answering.{Answering, Obeying, Writes}

part_completes : (client : Client) (before : List Entry) (exchange : Exchange) (call : Call) (answer : Answer) → IsPart client.limit before exchange.grown client.caller client.session call answer
    → exchange.outcome ≡ answer_outcome answer → Completes client before exchange (Some call)
part_completes client before exchange call (Replied reply) part told = inl (record { reply = reply; stands = part.cases; told = told })
part_completes client before exchange call WantsMemory part told = inr (inl (record { told = told; none = part.cases }))
part_completes client before exchange call (Worn count) part told = inr (inr (record { count = count; told = told; worn = part.cases.0 }))

call_completes : (client : Client) (before : List Entry) (patience : PatienceState) (exchange : Exchange) (command : Command) (call : Option Call)
    → Obeys client before patience exchange command call → Completes client before exchange call
call_completes client before patience exchange command (Some call) calls = part_completes client before exchange call calls.answer calls.part calls.told
call_completes client before patience exchange command None says = inl says.told

memory_completes : (client : Client) (before : List Entry) (patience : PatienceState) (exchange : Exchange) (call : Option Call) → Says patience exchange (fault_outcome Memory) → Completes client before exchange call
memory_completes client before patience exchange (Some call) says = inr (inl (record { told = says.told; none = ap (calls_of client.caller) says.none }))
memory_completes client before patience exchange None says = inr (record { told = says.told; none = ap (calls_of client.caller) says.none })

does_complete : (client : Client) (before : List Entry) (patience : PatienceState) (exchange : Exchange) (read : Result Command CommandFault) → AreDefs client.defs → Reads client.defs exchange.line read
    → Does client before patience exchange read → (command : Command) → Reads client.defs exchange.line (Ok command) → Completes client before exchange (call_of command)
does_complete client before patience exchange (Ok one) defs reads does command spells =
    subst (λ (k : Command). Completes client before exchange (call_of k)) (command_once client.defs exchange.line one command defs reads spells)
    (call_completes client before patience exchange one (call_of one) does)
does_complete client before patience exchange (Err fault) defs reads does command spells =
    let memory : fault ≡ Memory = spelled_not_refused client.defs exchange.line command fault defs spells reads in
    memory_completes client before patience exchange (call_of command) (subst (λ (f : CommandFault). Says patience exchange (fault_outcome f)) memory does)

-- a command that a line spelled was done
pub answered_command : (client : Client) (label : Option ℕ) (seen seen' : List Entry) (patience patience' : PatienceState) (line : List ℕ) (command : Command) (written written' : Option (List ℕ)) (how : Answered)
    → AreDefs client.defs → Reads client.defs line (Ok command) → Obeying client label seen seen' patience patience' command written written' how → Answering client label seen seen' patience patience' line written written' how
answered_command client label seen seen' patience patience' line command written written' how defs reads obeying =
    let exchange : Exchange = record { line = line; grown = obeying.grown; outcome = obeying.outcome; patience = patience' } in
    record {
      grown = obeying.grown;
      outcome = obeying.outcome;
      history = obeying.history;
      exchange = record { defined = defs; read = Ok command; reads = reads; does = obeying.obeys line; complete = does_complete client seen patience exchange (Ok command) defs reads (obeying.obeys line) };
      writes = obeying.writes;
    }

-- a line that spells no command was answered its code
pub answered_fault : (client : Client) (label : Option ℕ) (seen : List Entry) (patience : PatienceState) (line : List ℕ) (fault : CommandFault) (written written' : Option (List ℕ)) (how : Answered)
    → AreDefs client.defs → Reads client.defs line (Err fault) → Writes label written written' (fault_outcome fault) how → Answering client label seen seen patience patience line written written' how
answered_fault client label seen patience line fault written written' how defs reads writes =
    let exchange : Exchange = record { line = line; grown = []; outcome = fault_outcome fault; patience = patience } in
    let does : Does client seen patience exchange (Err fault) = record { none = refl; told = refl; kept = refl } in
    record {
      grown = [];
      outcome = fault_outcome fault;
      history = sym (append-nil seen);
      exchange = record { defined = defs; read = Err fault; reads = reads; does = does; complete = does_complete client seen patience exchange (Err fault) defs reads does };
      writes = writes;
    }
