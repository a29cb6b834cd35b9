-- What was answered behind a label stands settled, whatever comes behind it.
use Rattle.std.specs.Bool.{IsTrue}
use Rattle.std.proofs.Common.{◌≡◌, ◌++◌, ◌∷◌, ◌∙◌, [], List, ℕ, Option, refl, sym, ap, subst, append_assoc, append-nil}
use Rattle.q4_machine.specs.declared.entry.Entry.{Entry}
use Rattle.q4_machine.specs.Patience.{PatienceState}
use Rattle.q4_machine.proofs.Histories.{cons_head, cons_tail}
use Rattle.q4_session.specs.Exchanges.{Client, Exchange, IsExchange}
use Rattle.q4_session.specs.Standing.{IsGranted, IsDone}
use Rattle.q4_session.specs.Sessions.{Around}
use Rattle.q4_session.proofs.Standing.{done_as, lines_done}
use Rattle.q4_play.specs.declared.plays.PlayEnd.{PlayEnd}
use Rattle.q4_play.specs.Labels.{nobody}
use Rattle.q4_play.specs.Plays.{Stop, CutSpoken, IsStop, Play, stop_grown}
use Rattle.q4_play.proofs.Wholes.{play_history}
use Rattle.q4_play.specs.Turns.{Host, Spoken, Turn, Spoke, IsTurn, IsSpoken, AreTurns, client_of, grown_of, grown_by, seating_behind, seating_after, patience_behind, patience_after}

-- one command, with what its closing and all later lines added
command_done : (client : Client) (before opening closing later : List Entry) (patience : PatienceState) (e : Exchange) → IsExchange client (before ++ opening) patience e → IsGranted e.outcome
    → IsDone client ((before ++ []) ++ opening) (before ++ (((opening ++ e.grown) ++ closing) ++ later)) e
command_done client before opening closing later patience e is granted =
    let done = lines_done client (before ++ opening) patience (e ∷ []) [] [] e (closing ++ later) (is, tt) refl granted in
    done_as client ((before ++ opening) ++ []) ((before ++ []) ++ opening) (((before ++ opening) ++ (e.grown ++ [])) ++ (closing ++ later)) (before ++ (((opening ++ e.grown) ++ closing) ++ later)) e
    (append-nil (before ++ opening) ∙ ap (λ (h : List Entry). h ++ opening) (sym (append-nil before)))
    (ap (λ (h : List Entry). ((before ++ opening) ++ h) ++ (closing ++ later)) (append-nil e.grown) ∙ ap (λ (h : List Entry). h ++ (closing ++ later)) (append_assoc before opening e.grown) ∙ append_assoc before (opening ++ e.grown) (closing ++ later)
    ∙ ap (λ (h : List Entry). before ++ h) (sym (append_assoc (opening ++ e.grown) closing later))) done

turns_done : (host : Host) (before : List Entry) (seating : List (Option ℕ)) (patience : PatienceState) (turns front back : List Turn) (spoken : Spoken) (closing more : List Entry)
    → AreTurns host before seating patience turns → turns ≡ front ++ Spoke spoken closing ∷ back → IsGranted spoken.exchange.outcome
    → IsDone (client_of host spoken.session) ((before ++ grown_by front) ++ spoken.opening) (before ++ (grown_by turns ++ more)) spoken.exchange
turns_done host before seating patience [] [] back spoken closing more are cut granted = cc cut
turns_done host before seating patience [] (x ∷ front) back spoken closing more are cut granted = cc cut
turns_done host before seating patience (x ∷ xs) [] back spoken closing more are cut granted =
    let same : x ≡ Spoke spoken closing = cons_head cut in
    let is = subst (IsTurn host before seating patience) same are.0 in
    let done = command_done (client_of host spoken.session) before spoken.opening closing (grown_by xs ++ more) patience spoken.exchange is.0.exchanges granted in
    done_as (client_of host spoken.session) ((before ++ []) ++ spoken.opening) ((before ++ []) ++ spoken.opening) (before ++ (grown_of (Spoke spoken closing) ++ (grown_by xs ++ more))) (before ++ ((grown_of x ++ grown_by xs) ++ more)) spoken.exchange refl
    (ap (λ (h : List Entry). before ++ h) (sym (append_assoc (grown_of (Spoke spoken closing)) (grown_by xs) more)) ∙ ap (λ (t : Turn). before ++ ((grown_of t ++ grown_by xs) ++ more)) (sym same)) done
turns_done host before seating patience (x ∷ xs) (y ∷ front) back spoken closing more are cut granted =
    let same : x ≡ y = cons_head cut in
    let later = turns_done host (before ++ grown_of x) (seating_behind seating x) (patience_behind patience x) xs front back spoken closing more are.1 (cons_tail cut) granted in
    done_as (client_of host spoken.session) (((before ++ grown_of x) ++ grown_by front) ++ spoken.opening) ((before ++ (grown_of y ++ grown_by front)) ++ spoken.opening)
    ((before ++ grown_of x) ++ (grown_by xs ++ more)) (before ++ ((grown_of x ++ grown_by xs) ++ more)) spoken.exchange
    (ap (λ (h : List Entry). h ++ spoken.opening) (append_assoc before (grown_of x) (grown_by front)) ∙ ap (λ (t : Turn). (before ++ (grown_of t ++ grown_by front)) ++ spoken.opening) same)
    (append_assoc before (grown_of x) (grown_by xs ++ more) ∙ ap (λ (h : List Entry). before ++ h) (sym (append_assoc (grown_of x) (grown_by xs) more))) later

-- in every history that goes on from the turns
pub commands_done : (host : Host) (before : List Entry) (seating : List (Option ℕ)) (patience : PatienceState) (turns front back : List Turn) (spoken : Spoken) (closing more : List Entry)
    → AreTurns host before seating patience turns → turns ≡ front ++ Spoke spoken closing ∷ back → IsGranted spoken.exchange.outcome
    → IsDone (client_of host spoken.session) ((before ++ grown_by front) ++ spoken.opening) ((before ++ grown_by turns) ++ more) spoken.exchange
commands_done host before seating patience turns front back spoken closing more are cut granted =
    done_as (client_of host spoken.session) ((before ++ grown_by front) ++ spoken.opening) ((before ++ grown_by front) ++ spoken.opening) (before ++ (grown_by turns ++ more)) ((before ++ grown_by turns) ++ more) spoken.exchange refl
    (sym (append_assoc before (grown_by turns) more)) (turns_done host before seating patience turns front back spoken closing more are cut granted)

-- the command whose reply the sink did not take
pub cut_done : (host : Host) (old new : Around) (ended : _) (how : PlayEnd) (play : Play host old new (IsTrue ended) how) (spoken : Spoken) → play.lined.stop ≡ CutSpoken spoken → IsGranted spoken.exchange.outcome
    → IsDone (client_of host spoken.session) ((old.seen ++ grown_by play.lined.turns) ++ spoken.opening) new.seen spoken.exchange
cut_done host old new ended how play spoken stop_is granted =
    let lined = play.lined in
    let turns = lined.turns in
    let before : List Entry = old.seen ++ grown_by turns in
    let e = spoken.exchange in
    let is : IsSpoken host before (seating_after nobody turns) (patience_after old.patience turns) spoken =
    subst (IsStop host before (seating_after nobody turns) (patience_after old.patience turns) lined.rest (IsTrue ended)) stop_is lined.stops in
    let whole : new.seen ≡ before ++ ((spoken.opening ++ e.grown) ++ play.closing) =
    play_history old.seen (grown_by turns) (stop_grown lined.stop) play.closing new.seen play.before_closing lined.history play.history ∙ ap (λ (s : Stop). before ++ (stop_grown s ++ play.closing)) stop_is in
    done_as (client_of host spoken.session) ((before ++ spoken.opening) ++ []) (before ++ spoken.opening) (((before ++ spoken.opening) ++ (e.grown ++ [])) ++ play.closing) new.seen e (append-nil (before ++ spoken.opening))
    (ap (λ (h : List Entry). ((before ++ spoken.opening) ++ h) ++ play.closing) (append-nil e.grown) ∙ ap (λ (h : List Entry). h ++ play.closing) (append_assoc before spoken.opening e.grown)
    ∙ append_assoc before (spoken.opening ++ e.grown) play.closing ∙ sym whole)
    (lines_done (client_of host spoken.session) (before ++ spoken.opening) (patience_after old.patience turns) (e ∷ []) [] [] e play.closing (is.exchanges, tt) refl granted)
