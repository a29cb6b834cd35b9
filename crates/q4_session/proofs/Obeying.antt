-- A command that was done, and a line that was answered.
use Rattle.std.proofs.Common.{◌≡◌, [], List, ℕ, Option, Some, refl, sym, subst, append-nil}
use Rattle.q4_machine.specs.declared.entry.Entry.{Entry}
use Rattle.q4_machine.specs.declared.entry.Call.{Call}
use Rattle.q4_machine.specs.Parts.{Answer, IsPart, Grows}
use Rattle.q4_machine.specs.Patience.{PatienceState}
use Rattle.q4_proto.specs.declared.command.Command.{Command}
use Rattle.q4_proto.specs.declared.command.Command.TheVariants.{Quit}
use Rattle.q4_proto.specs.Told.{Told, Bye}
use Rattle.q4_session.specs.declared.answering.Answered.{Answered}
use Rattle.q4_session.specs.Exchanges.{Client, Obeys, Uses, call_of, answer_outcome}
use Rattle.q4_session.specs.Answering.{Obeying, Writes}

-- a call that the desk did, and what was written of its answer
pub obeyed : (client : Client) (label : Option ℕ) (seen seen' : List Entry) (patience patience' : PatienceState) (command done : Command) (call : Call) (answer : Answer) (outcome : Told) (written written' : Option (List ℕ)) (how : Answered)
    → command ≡ done → call_of done ≡ Some call → Grows seen seen' (λ grown. IsPart client.limit seen grown client.caller client.session call answer) → Uses done patience patience' answer
    → outcome ≡ answer_outcome answer → Writes label written written' outcome how → Obeying client label seen seen' patience patience' command written written' how
obeyed client label seen seen' patience patience' command done call answer outcome written written' how same is grows uses told writes =
    subst (λ (k : Command). Obeying client label seen seen' patience patience' k written written' how) (sym same) (record {
      grown = grows.0;
      outcome = outcome;
      history = grows.1;
      obeys = λ line. subst (λ (o : Option Call). Obeys client seen patience (record { line = line; grown = grows.0; outcome = outcome; patience = patience' }) done o) (sym is)
          (record { answer = answer; part = grows.2; told = told; uses = uses });
      writes = writes;
    })

-- to quit asks the desk for nothing
pub quits : (client : Client) (label : Option ℕ) (seen : List Entry) (patience : PatienceState) (command : Command) (written written' : Option (List ℕ)) (how : Answered)
    → command ≡ Quit → Writes label written written' Bye how → Obeying client label seen seen patience patience command written written' how
quits client label seen patience command written written' how same writes =
    subst (λ (k : Command). Obeying client label seen seen patience patience k written written' how) (sym same) (record {
      grown = [];
      outcome = Bye;
      history = sym (append-nil seen);
      obeys = λ line. record { none = refl; told = refl; kept = refl };
      writes = writes;
    })
