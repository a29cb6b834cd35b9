-- A line that was taken: a turn, or a stop.
use Rattle.std.proofs.Common.{◌≡◌, ◌≢◌, ◌++◌, ◌∷◌, ◌∙◌, [], List, ℕ, Option, None, Some, Result, Ok, Err, All, refl, sym, ap, subst, inl, inr, append_assoc, append-nil}
use Rattle.std.proofs.lemmas.List.Elements.{All-nil}
use Rattle.q4_flow.specs.Flow.{Took, TookFront}
use Rattle.q4_def.specs.declared.table_def.TableDef.{TableDef}
use Rattle.q4_machine.specs.declared.entry.Entry.{Entry}
use Rattle.q4_machine.specs.declared.entry.Call.{Call}
use Rattle.q4_machine.specs.declared.desk.DeskFault.{DeskFault}
use Rattle.q4_machine.specs.History.{IsLegal, IsOpenFor}
use Rattle.q4_machine.specs.Parts.{Grows, IsClosed, of_caller, fault_answer}
use Rattle.q4_machine.specs.Patience.{PatienceState}
use Rattle.q4_proto.specs.declared.command.Command.{Command}
use Rattle.q4_proto.specs.declared.command.CommandFault.{CommandFault}
use Rattle.q4_proto.specs.Told as told
use Rattle.q4_proto.specs.Told.{Told, Bye, Refused}
use Rattle.q4_proto.specs.Text.{text_behind, code}
use Rattle.q4_session.specs.declared.answering.Answered.{Answered}
use Rattle.q4_session.specs.declared.answering.Answered.TheVariants as answered
use Rattle.q4_session.specs.Exchanges.{Client, Exchange, Obeys, Does, IsExchange, call_of, answer_outcome}
use Rattle.q4_session.specs.Answering.{Answering}
use Rattle.q4_play.specs.declared.turns.Turned.{Turned}
use Rattle.q4_play.specs.declared.turns.Turned.TheVariants.{Next, Stops}
use Rattle.q4_play.specs.declared.plays.PlayEnd.{PlayEnd}
use Rattle.q4_play.specs.declared.plays.PlayEnd.TheVariants.{WriteFault}
use Rattle.q4_play.specs.Labels.{IsLabel, IsUnlabelled, alone_line, command_line, session_at, with_seat}
use Rattle.q4_play.specs.Seated.{IsSeated}
use Rattle.q4_play.specs.Turns.{Host, client_of, Spoken, Unlabelled, Left, Spoke, IsSpoken, Leaves, Closes, bad_label, behind_outcome, spoken_grown, spoken_text, spoken_seating}
use Rattle.q4_play.specs.Plays.{Refuses, CutUnlabelled, CutSpoken, WroteSome, refused_end}
use Rattle.q4_play.specs.Playing.{Scene, Turning, Stopping, TurnsTo, Seats, Refused as SeatRefused, Says}
use Rattle.q4_play.proofs.Placing.{seated_part}

-- ## Texts have bytes

some_more : (xs ys : List ℕ) → (xs ≡ [] → ⊥) → xs ++ ys ≡ [] → ⊥
some_more [] ys some is = some refl
some_more (x ∷ xs) ys some is = cc is

front_some : (xs : List ℕ) → xs ++ 32 ∷ [] ≡ [] → ⊥
front_some [] is = cc is
front_some (x ∷ xs) is = cc is

pub text_some : (label : ℕ) (outcome : Told) → text_behind (Some label) outcome ≢ []
text_some label told.Ok = some_more _ _ (front_some _)
text_some label (told.Number number) = some_more _ _ (front_some _)
text_some label (told.Seen mark) = some_more _ _ (front_some _)
text_some label (told.Rows rows) = some_more _ _ (some_more _ _ (some_more _ _ (some_more _ _ (front_some _))))
text_some label told.Bye = some_more _ _ (front_some _)
text_some label (told.Refused c) = some_more _ _ (front_some _)

-- a front of a text was written, and nothing before it
pub wrote_some : (old new : Option (List ℕ)) (label : ℕ) (outcome : Told) → TookFront old new (text_behind (Some label) outcome) → WroteSome old new [] (text_behind (Some label) outcome) WriteFault
wrote_some old new label outcome took = record { end = refl; some = text_some label outcome; wrote = record { front = took.front; is_front = took.is_front; took = took.took } }

-- ## The entries of one exchange are of the session

obeys_session : (client : Client) (before : List Entry) (patience : PatienceState) (e : Exchange) (command : Command) (call : Option Call) → Obeys client before patience e command call → All (λ (x : Entry). x.session ≡ client.session) (of_caller client.caller e.grown)
obeys_session client before patience e command (Some call) calls = calls.part.session_is
obeys_session client before patience e command None says = subst (λ (grown : List Entry). All (λ (x : Entry). x.session ≡ client.session) (of_caller client.caller grown)) (sym says.none) (All-nil (λ (x : Entry). x.session ≡ client.session))

pub does_session : (client : Client) (before : List Entry) (patience : PatienceState) (e : Exchange) (read : Result Command CommandFault) → Does client before patience e read → All (λ (x : Entry). x.session ≡ client.session) (of_caller client.caller e.grown)
does_session client before patience e (Ok command) does = obeys_session client before patience e command (call_of command) does
does_session client before patience e (Err fault) says = subst (λ (grown : List Entry). All (λ (x : Entry). x.session ≡ client.session) (of_caller client.caller grown)) (sym says.none) (All-nil (λ (x : Entry). x.session ≡ client.session))

-- the labels' sessions stay open while one of them answers a line
pub seated_answer : (client : Client) (label : Option ℕ) (seen seen' : List Entry) (patience patience' : PatienceState) (line : List ℕ) (written written' : Option (List ℕ)) (how : Answered) (seating : List (Option ℕ)) (caller' : ℕ)
    → Answering client label seen seen' patience patience' line written written' how → IsLegal seen' → IsOpenFor seen' client.caller client.session → caller' ≡ client.caller → IsSeated seen client.caller seating → IsSeated seen' caller' seating
seated_answer client label seen seen' patience patience' line written written' how seating caller' answering legal still by seated =
    subst (λ (c : ℕ). IsSeated seen' c seating) (sym by)
    (seated_part seen answering.grown seen' client.caller client.session seating answering.history legal still
    (does_session client seen patience (record { line = line; grown = answering.grown; outcome = answering.outcome; patience = patience' }) answering.exchange.read answering.exchange.does) seated)

-- the definitions, the limit and the caller of a desk don't change
pub answering_as : (d e : List TableDef) (l m a b s : ℕ) (label : Option ℕ) (seen seen' : List Entry) (patience patience' : PatienceState) (line : List ℕ) (written written' : Option (List ℕ)) (how : Answered) → d ≡ e → l ≡ m → a ≡ b
    → Answering (record { defs = d; limit = l; caller = a; session = s }) label seen seen' patience patience' line written written' how → Answering (record { defs = e; limit = m; caller = b; session = s }) label seen seen' patience patience' line written written' how
answering_as d e l m a b s label seen seen' patience patience' line written written' how defined limit caller answering =
    subst (λ (k : ℕ). Answering (record { defs = e; limit = m; caller = k; session = s }) label seen seen' patience patience' line written written' how) caller
    (subst (λ (n : ℕ). Answering (record { defs = e; limit = n; caller = a; session = s }) label seen seen' patience patience' line written written' how) limit
    (subst (λ (ds : List TableDef). Answering (record { defs = ds; limit = l; caller = a; session = s }) label seen seen' patience patience' line written written' how) defined answering))

-- ## A command behind its label

-- the label's session was seated, and answered the line
pub record Heard (host : Host) (old new : Scene) (label s : ℕ) (command : List ℕ) (how : Answered) : Type 0 where
  pub here : List Entry
  pub is_label : IsLabel label
  pub seats : Seats host old.seen here old.seating new.seating label s
  pub answering : Answering (client_of host s) (Some label) here new.seen old.patience new.patience command old.written new.written how

abbrev spoken_of : (host : Host) (old new : Scene) (label s : ℕ) (command : List ℕ) (how : Answered) → Heard host old new label s command how → Spoken
spoken_of host old new label s command how heard =
    record { label = label; session = s; opening = heard.seats.opening; exchange = record { line = command; grown = heard.answering.grown; outcome = heard.answering.outcome; patience = new.patience } }

is_spoken : (host : Host) (old new : Scene) (label s : ℕ) (command : List ℕ) (how : Answered) (heard : Heard host old new label s command how) → IsSpoken host old.seen old.seating old.patience (spoken_of host old new label s command how heard)
is_spoken host old new label s command how heard = record {
  is_label = heard.is_label;
  takes = heard.seats.takes;
  exchanges = subst (λ (h : List Entry). IsExchange (client_of host s) h old.patience (spoken_of host old new label s command how heard).exchange) heard.seats.history heard.answering.exchange;
}

spoken_history : (host : Host) (old new : Scene) (label s : ℕ) (command : List ℕ) (how : Answered) (heard : Heard host old new label s command how) → new.seen ≡ old.seen ++ spoken_grown (spoken_of host old new label s command how heard)
spoken_history host old new label s command how heard =
    heard.answering.history ∙ ap (λ (h : List Entry). h ++ heard.answering.grown) heard.seats.history ∙ append_assoc old.seen heard.seats.opening heard.answering.grown

stays_seated : (seating : List (Option ℕ)) (label : ℕ) (outcome : Told) → outcome ≢ Bye → seating ≡ behind_outcome seating label outcome
stays_seated seating label told.Ok other = refl
stays_seated seating label (told.Number number) other = refl
stays_seated seating label (told.Seen mark) other = refl
stays_seated seating label (told.Rows rows) other = refl
stays_seated seating label told.Bye other = absurd (other refl)
stays_seated seating label (told.Refused c) other = refl

leaves_none : (caller s : ℕ) (outcome : Told) → outcome ≢ Bye → Leaves caller s outcome []
leaves_none caller s told.Ok other = refl
leaves_none caller s (told.Number number) other = refl
leaves_none caller s (told.Seen mark) other = refl
leaves_none caller s (told.Rows rows) other = refl
leaves_none caller s told.Bye other = absurd (other refl)
leaves_none caller s (told.Refused c) other = refl

-- the session goes on
pub turn_next : (host : Host) (old new : Scene) (label s : ℕ) (command : List ℕ) → Heard host old new label s command answered.Next → Turning host old new (command_line label command)
turn_next host old new label s command heard =
    let spoken = spoken_of host old new label s command answered.Next heard in
    let other = heard.answering.writes.1 in
    record {
      turn = Spoke spoken [];
      line_is = refl;
      is = (is_spoken host old new label s command answered.Next heard, leaves_none host.caller s heard.answering.outcome other);
      history = spoken_history host old new label s command answered.Next heard ∙ ap (λ (h : List Entry). old.seen ++ h) (sym (append-nil (spoken_grown spoken)));
      seating = heard.seats.seating_is ∙ stays_seated (spoken_seating old.seating spoken) label heard.answering.outcome other;
      patience = refl;
      wrote = heard.answering.writes.0;
    }

-- the session was answered `bye`, and closed
pub turn_quit : (host : Host) (old mid new : Scene) (label s : ℕ) (command : List ℕ) → Heard host old mid label s command answered.Quit → Grows mid.seen new.seen (λ closing. IsClosed host.caller s closing)
    → new.seating ≡ with_seat mid.seating label None → new.patience ≡ mid.patience → new.written ≡ mid.written → Turning host old new (command_line label command)
turn_quit host old mid new label s command heard closes seats patience written =
    let spoken = spoken_of host old mid label s command answered.Quit heard in
    let bye = heard.answering.writes.1 in
    record {
      turn = Spoke spoken closes.0;
      line_is = refl;
      is = (is_spoken host old mid label s command answered.Quit heard, subst (λ (o : Told). Leaves host.caller s o closes.0) (sym bye) closes.2);
      history = closes.1 ∙ ap (λ (h : List Entry). h ++ closes.0) (spoken_history host old mid label s command answered.Quit heard) ∙ append_assoc old.seen (spoken_grown spoken) closes.0;
      seating = seats ∙ ap (λ (x : List (Option ℕ)). with_seat x label None) heard.seats.seating_is ∙ ap (λ (o : Told). behind_outcome (spoken_seating old.seating spoken) label o) (sym bye);
      patience = patience;
      wrote = subst (λ (w : Option (List ℕ)). Took old.written w (spoken_text spoken)) (sym written) heard.answering.writes.0;
    }

-- the sink failed at the reply
pub stop_cut : (host : Host) (old new : Scene) (label s : ℕ) (command : List ℕ) → Heard host old new label s command answered.WriteFault → Stopping host old new (command_line label command) WriteFault
stop_cut host old new label s command heard =
    let spoken = spoken_of host old new label s command answered.WriteFault heard in
    record {
      stop = CutSpoken spoken;
      line_is = refl;
      is = is_spoken host old new label s command answered.WriteFault heard;
      history = spoken_history host old new label s command answered.WriteFault heard;
      seating = heard.seats.seating_is;
      patience = refl;
      wrote = inr (wrote_some old.written new.written label heard.answering.outcome heard.answering.writes);
    }

-- ## Other lines

-- the opening was refused
stop_refused : (host : Host) (old new : Scene) (label : ℕ) (command : List ℕ) (fault : DeskFault) (result : Turned) → IsLabel label → SeatRefused host old.seen new.seen old.seating new.seating label fault → new.patience ≡ old.patience
    → Says old.written new.written (text_behind (Some label) (answer_outcome (fault_answer fault))) (Stops (refused_end fault)) (Stops WriteFault) result → TurnsTo host old new (command_line label command) result
stop_refused host old new label command fault result is_label refused patience (inl said) =
    subst (λ (r : Turned). TurnsTo host old new (command_line label command) r) (sym said.0) (record {
      stop = Refuses (record { label = label; command = command; grown = refused.grown; fault = fault });
      line_is = refl;
      is = record { is_label = is_label; none = refused.none; opens = refused.opens };
      history = refused.history;
      seating = refused.seating_is;
      patience = patience;
      wrote = inl (refl, said.1);
    })
stop_refused host old new label command fault result is_label refused patience (inr cut) =
    subst (λ (r : Turned). TurnsTo host old new (command_line label command) r) (sym cut.0) (record {
      stop = Refuses (record { label = label; command = command; grown = refused.grown; fault = fault });
      line_is = refl;
      is = record { is_label = is_label; none = refused.none; opens = refused.opens };
      history = refused.history;
      seating = refused.seating_is;
      patience = patience;
      wrote = inr (wrote_some old.written new.written label (answer_outcome (fault_answer fault)) cut.1);
    })

pub stop_unopened : (host : Host) (old new : Scene) (label : ℕ) (command : List ℕ) (fault : DeskFault) (outcome : Told) (end : PlayEnd) (result : Turned) → IsLabel label → SeatRefused host old.seen new.seen old.seating new.seating label fault → new.patience ≡ old.patience
    → outcome ≡ answer_outcome (fault_answer fault) → end ≡ refused_end fault → Says old.written new.written (text_behind (Some label) outcome) (Stops end) (Stops WriteFault) result → TurnsTo host old new (command_line label command) result
stop_unopened host old new label command fault outcome end result is_label refused patience told_is end_is says =
    stop_refused host old new label command fault result is_label refused patience
    (subst (λ (e : PlayEnd). Says old.written new.written (text_behind (Some label) (answer_outcome (fault_answer fault))) (Stops e) (Stops WriteFault) result) end_is
    (subst (λ (o : Told). Says old.written new.written (text_behind (Some label) o) (Stops end) (Stops WriteFault) result) told_is says))

unlabelled : (host : Host) (old new : Scene) (line : List ℕ) (result : Turned) → IsUnlabelled line → new.seen ≡ old.seen → new.seating ≡ old.seating → new.patience ≡ old.patience
    → Says old.written new.written bad_label Next (Stops WriteFault) result → TurnsTo host old new line result
unlabelled host old new line result is seen seating patience (inl said) =
    subst (λ (r : Turned). TurnsTo host old new line r) (sym said.0)
    (record { turn = Unlabelled line; line_is = refl; is = is; history = seen ∙ sym (append-nil old.seen); seating = seating; patience = patience; wrote = said.1 })
unlabelled host old new line result is seen seating patience (inr cut) =
    subst (λ (r : Turned). TurnsTo host old new line r) (sym cut.0)
    (record { stop = CutUnlabelled line; line_is = refl; is = is; history = seen ∙ sym (append-nil old.seen); seating = seating; patience = patience; wrote = inr (wrote_some old.written new.written 0 (Refused (code 15)) cut.1) })

-- a line of no label
pub turn_unlabelled : (host : Host) (old new : Scene) (line : List ℕ) (outcome : Told) (result : Turned) → IsUnlabelled line → new.seen ≡ old.seen → new.seating ≡ old.seating → new.patience ≡ old.patience → outcome ≡ Refused (code 15)
    → Says old.written new.written (text_behind (Some 0) outcome) Next (Stops WriteFault) result → TurnsTo host old new line result
turn_unlabelled host old new line outcome result is seen seating patience told_is says =
    unlabelled host old new line result is seen seating patience (subst (λ (o : Told). Says old.written new.written (text_behind (Some 0) o) Next (Stops WriteFault) result) told_is says)

-- a label alone
pub turn_left : (host : Host) (old new : Scene) (line : List ℕ) (label : ℕ) → IsLabel label → line ≡ alone_line label → Grows old.seen new.seen (λ closing. Closes host.caller (session_at old.seating label) closing)
    → new.seating ≡ with_seat old.seating label None → new.patience ≡ old.patience → Took old.written new.written [] → Turning host old new line
turn_left host old new line label is_label line_is closes seats patience took = record {
  turn = Left label closes.0;
  line_is = sym line_is;
  is = (is_label, closes.2);
  history = closes.1;
  seating = seats;
  patience = patience;
  wrote = took;
}
