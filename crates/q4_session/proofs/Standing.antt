-- What was answered stands settled, whatever comes behind it.
use Rattle.std.proofs.Common.{◌≡◌, ◌+◌, ◌++◌, ◌∷◌, ◌∙◌, ◌<◌, [], List, ℕ, Option, None, Some, Result, Ok, Err, length, refl, sym, ap, subst, arith, append_assoc, append-nil}
use Rattle.std.specs.List.{Any}
use Rattle.std.proofs.Math.ListN.{get_or-append}
use Rattle.std.proofs.lemmas.List.{length-append}
use Rattle.q4_machine.specs.declared.entry.Entry.{Entry}
use Rattle.q4_machine.specs.declared.entry.Call.{Call}
use Rattle.q4_machine.specs.declared.entry.Call.TheVariants.{Sync}
use Rattle.q4_machine.specs.History.{IsSettled}
use Rattle.q4_machine.specs.Parts.{Answer, Replied, WantsMemory, Worn, IsPart}
use Rattle.q4_machine.specs.Patience.{PatienceState}
use Rattle.q4_machine.proofs.Histories.{cons_head, cons_tail}
use Rattle.q4_proto.specs.declared.command.Command.{Command}
use Rattle.q4_proto.specs.declared.command.CommandFault.{CommandFault}
use Rattle.q4_proto.specs.Commands.{Reads}
use Rattle.q4_session.specs.Exchanges.{Client, Exchange, Obeys, Does, IsExchange, AreExchanges, call_of, answer_outcome, grown_by}
use Rattle.q4_session.specs.Standing.{IsGranted, IsDone}

-- ## A settled place stays settled

-- a cut inside the front of a list is one of the front
record CutInside {X : Type 0} (xs more before : List X) (e : X) (later : List X) : Type 0 where
  rest : List X
  front : xs ≡ before ++ e ∷ rest
  back : later ≡ rest ++ more

cut_inside : {X : Type 0} (xs more before : List X) (e : X) (later : List X) → xs ++ more ≡ before ++ e ∷ later → length before < length xs → CutInside xs more before e later
cut_inside [] more before e later is short = absurd (omega arith)
cut_inside (x ∷ xs) more [] e later is short =
    record { rest = xs; front = ap (λ (y : _). y ∷ xs) (cons_head is); back = sym (cons_tail is) }
cut_inside (x ∷ xs) more (y ∷ before) e later is short =
    let shorter : length before < length xs = omega arith in
    let inside = cut_inside xs more before e later (cons_tail is) shorter in
    record { rest = inside.rest; front = ap (λ (z : _). z ∷ xs) (cons_head is) ∙ ap (λ (zs : List _). y ∷ zs) inside.front; back = inside.back }

any_more : (xs more : List Entry) → Any (λ (x : Entry). x.call ≡ Sync) xs → Any (λ (x : Entry). x.call ≡ Sync) (xs ++ more)
any_more xs more (k, x, inside, is, sync) =
    let size = length-append xs more in
    (k, x, omega (arith, inside, size), get_or-append xs more x k inside ∙ is, sync)

settled_more : (history more : List Entry) (place : ℕ) → place < length history → IsSettled history place → IsSettled (history ++ more) place
settled_more history more place inside settled before e later cut up_to change =
    let short : length before < length history = omega arith in
    let here = cut_inside history more before e later cut short in
    subst (λ (l : List Entry). Any (λ (x : Entry). x.call ≡ Sync) l) (sym here.back) (any_more here.rest more (settled before e here.rest here.front up_to change))

-- ## The entry of one line

-- the same of a line in the history that it left
part_done : (client : Client) (before : List Entry) (exchange : Exchange) (command : Command) (call : Call) (answer : Answer) → Reads client.defs exchange.line (Ok command) → call_of command ≡ Some call
    → IsPart client.limit before exchange.grown client.caller client.session call answer → exchange.outcome ≡ answer_outcome answer → IsGranted (answer_outcome answer) → IsDone client before (before ++ exchange.grown) exchange
part_done client before exchange command call (Replied reply) reads asks part told granted =
    let stands = part.cases in
    let e : Entry = record { caller = client.caller; session = client.session; call = call; reply = reply } in
    record {
      command = command;
      spells = reads;
      front = stands.front;
      entry = e;
      back = stands.back;
      cut = stands.cut;
      later = [];
      whole = sym (append-nil (before ++ exchange.grown));
      caller = refl;
      session = refl;
      call = asks;
      told = told;
      settled = stands.settled;
    }
part_done client before exchange command call WantsMemory reads asks part told granted = absurd granted
part_done client before exchange command call (Worn count) reads asks part told granted = absurd granted

obeyed_done : (client : Client) (before : List Entry) (patience : PatienceState) (exchange : Exchange) (command : Command) (call : Option Call) → Reads client.defs exchange.line (Ok command) → call_of command ≡ call
    → Obeys client before patience exchange command call → IsGranted exchange.outcome → IsDone client before (before ++ exchange.grown) exchange
obeyed_done client before patience exchange command (Some call) reads asks calls granted =
    part_done client before exchange command call calls.answer reads asks calls.part calls.told (subst IsGranted calls.told granted)
obeyed_done client before patience exchange command None reads asks says granted = absurd (subst IsGranted says.told granted)

read_done : (client : Client) (before : List Entry) (patience : PatienceState) (exchange : Exchange) (read : Result Command CommandFault) → Reads client.defs exchange.line read
    → Does client before patience exchange read → IsGranted exchange.outcome → IsDone client before (before ++ exchange.grown) exchange
read_done client before patience exchange (Ok command) reads does granted = obeyed_done client before patience exchange command (call_of command) reads refl does granted
read_done client before patience exchange (Err fault) reads does granted = absurd (subst IsGranted does.told granted)

line_done : (client : Client) (before : List Entry) (patience : PatienceState) (exchange : Exchange) → IsExchange client before patience exchange → IsGranted exchange.outcome → IsDone client before (before ++ exchange.grown) exchange
line_done client before patience exchange is granted = read_done client before patience exchange is.read is.reads is.does granted

-- ## The entry of a line among others

done_more : (client : Client) (start history more : List Entry) (exchange : Exchange) → IsDone client start history exchange → IsDone client start (history ++ more) exchange
done_more client start history more exchange done =
    let whole : length history ≡ length (start ++ exchange.grown) + length done.later = ap length done.whole ∙ length-append (start ++ exchange.grown) done.later in
    let front : length (start ++ done.front) ≡ length start + length done.front = length-append start done.front in
    let size : length (start ++ done.front) < length history =
    omega (arith, whole, front, length-append start exchange.grown, ap length done.cut, length-append done.front (done.entry ∷ done.back)) in
    record {
      command = done.command;
      spells = done.spells;
      front = done.front;
      entry = done.entry;
      back = done.back;
      cut = done.cut;
      later = done.later ++ more;
      whole = ap (λ (h : List Entry). h ++ more) done.whole ∙ append_assoc (start ++ exchange.grown) done.later more;
      caller = done.caller;
      session = done.session;
      call = done.call;
      told = done.told;
      settled = settled_more history more (length (start ++ done.front)) size done.settled;
    }

-- the same, said of the same parts
pub done_as : (client : Client) (start start' history history' : List Entry) (exchange : Exchange) → start ≡ start' → history ≡ history' → IsDone client start history exchange → IsDone client start' history' exchange
done_as client start start' history history' exchange here same done = subst (λ (s : List Entry). IsDone client s history' exchange) here (subst (λ (h : List Entry). IsDone client start h exchange) same done)

conversation_done : (client : Client) (before : List Entry) (patience : PatienceState) (exchanges front back : List Exchange) (e : Exchange)
    → AreExchanges client before patience exchanges → exchanges ≡ front ++ e ∷ back → IsGranted e.outcome → IsDone client (before ++ grown_by front) (before ++ grown_by exchanges) e
conversation_done client before patience [] [] back e are cut granted = cc cut
conversation_done client before patience [] (x ∷ front) back e are cut granted = cc cut
conversation_done client before patience (x ∷ xs) [] back e are cut granted =
    let same : x ≡ e = cons_head cut in
    let done : IsDone client before (before ++ x.grown) x = line_done client before patience x are.0 (subst (λ (y : Exchange). IsGranted y.outcome) (sym same) granted) in
    let more = done_more client before (before ++ x.grown) (grown_by xs) x done in
    subst (λ (y : Exchange). IsDone client (before ++ []) (before ++ (x.grown ++ grown_by xs)) y) same (done_as client before (before ++ []) ((before ++ x.grown) ++ grown_by xs) (before ++ (x.grown ++ grown_by xs)) x (sym (append-nil before)) (append_assoc before x.grown (grown_by xs)) more)
conversation_done client before patience (x ∷ xs) (y ∷ front) back e are cut granted =
    let same : x ≡ y = cons_head cut in
    let later = conversation_done client (before ++ x.grown) x.patience xs front back e are.1 (cons_tail cut) granted in
    done_as client ((before ++ x.grown) ++ grown_by front) (before ++ (y.grown ++ grown_by front)) ((before ++ x.grown) ++ grown_by xs) (before ++ (x.grown ++ grown_by xs)) e
    (append_assoc before x.grown (grown_by front) ∙ ap (λ (z : Exchange). before ++ (z.grown ++ grown_by front)) same) (append_assoc before x.grown (grown_by xs)) later

pub lines_done : (client : Client) (before : List Entry) (patience : PatienceState) (exchanges front back : List Exchange) (e : Exchange) (more : List Entry)
    → AreExchanges client before patience exchanges → exchanges ≡ front ++ e ∷ back → IsGranted e.outcome → IsDone client (before ++ grown_by front) ((before ++ grown_by exchanges) ++ more) e
lines_done client before patience exchanges front back e more are cut granted =
    done_more client (before ++ grown_by front) (before ++ grown_by exchanges) more e (conversation_done client before patience exchanges front back e are cut granted)
