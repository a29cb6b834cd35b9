-- What the turns of a label in its session make up: commands of the session, and its calls up to its closing.
use Rattle.std.proofs.Common.{◌≡◌, ◌<◌, ◌-◌, ◌++◌, ◌∷◌, ◌∙◌, ◌⊎◌, [], List, ℕ, Bool, cond, Option, Some, None, All, length, refl, sym, ap, subst, inl, inr, append_assoc, append-nil}
use Rattle.std.specs.List.{flat_map}
use Rattle.std.proofs.lemmas.Bool.{cases_eq, eq-eqb, ne_eqb}
use Rattle.std.proofs.lemmas.Grind.{flat_map-append}
use Rattle.std.proofs.lemmas.List.{length-set}
use Rattle.std.proofs.lemmas.List.Elements.{All-cons, All-nil, All-append}
use Rattle.q4_machine.specs.declared.entry.Entry.{Entry}
use Rattle.q4_machine.specs.Parts.{of_caller, calls_of}
use Rattle.q4_machine.specs.Patience.{PatienceState}
use Rattle.q4_proto.specs.Told as told
use Rattle.q4_proto.specs.Told.{Told, Bye}
use Rattle.q4_session.specs.Exchanges.{IsExchange}
use Rattle.q4_play.specs.Labels.{IsLabel, last_label, session_at, with_seat}
use Rattle.q4_play.specs.Turns.{Host, Spoken, Turn, Unlabelled, Left, Spoke, IsTurn, IsSpoken, AreTurns, Takes, Leaves, client_of, spoken_grown, spoken_seating, grown_of, grown_by, behind_outcome, seating_behind, seating_after, patience_behind}
use Rattle.q4_play.specs.Plays.{Stop, Input, Refuses, CutUnlabelled, CutSpoken, IsStop, AreClosed, stop_grown, stop_seating}
use Rattle.q4_play.specs.Whole.{cut_turn, up_to_bye, commands_of, closing_entry, AreAnswered}
use Rattle.q4_play.proofs.Placing.{inside_seats, none_opened}
use Rattle.q4_play.proofs.Fresh.{IsOwn, all_front, all_back}
use Rattle.q4_play.proofs.Own.{own_calls, own_append, own_none, own_empty, own_other, own_all, own_closed, own_closed_other, closes_other, opening_session, opening_other, exchange_session}
use Rattle.q4_play.proofs.Seats.{Nowhere, AtMost, OnlyAt, only_set, nowhere_unset, only_other, nowhere_other, apart_labels, closes_own, closed_nowhere, closed_only}

-- ## Outcomes

-- what is so at any outcome but `bye`
pub record GoesOn (outcome : Told) : Type 0 where
  pub closes : (caller session : ℕ) (closing : List Entry) → Leaves caller session outcome closing → closing ≡ []
  pub seats : (seating : List (Option ℕ)) (label : ℕ) → behind_outcome seating label outcome ≡ seating
  pub more : (rest : List Spoken) → up_to_bye outcome rest ≡ rest

pub bye_or : (outcome : Told) → (outcome ≡ Bye) ⊎ GoesOn outcome
bye_or Bye = inl refl
bye_or told.Ok = inr (record { closes = λ caller session closing is. is; seats = λ seating label. refl; more = λ rest. refl })
bye_or (told.Number n) = inr (record { closes = λ caller session closing is. is; seats = λ seating label. refl; more = λ rest. refl })
bye_or (told.Seen mark) = inr (record { closes = λ caller session closing is. is; seats = λ seating label. refl; more = λ rest. refl })
bye_or (told.Rows rows) = inr (record { closes = λ caller session closing is. is; seats = λ seating label. refl; more = λ rest. refl })
bye_or (told.Refused code) = inr (record { closes = λ caller session closing is. is; seats = λ seating label. refl; more = λ rest. refl })

-- no command follows where there is none
pub bye_last : (outcome : Told) → up_to_bye outcome [] ≡ []
bye_last outcome = elim (bye_or outcome) [ inl bye ↦ ap (λ (o : Told). up_to_bye o []) bye | inr goes ↦ goes.more [] ]

-- ## Seats

size_outcome : (seating : List (Option ℕ)) (label : ℕ) (outcome : Told) → length (behind_outcome seating label outcome) ≡ length seating
size_outcome seating label outcome = elim (bye_or outcome) [
  | inl bye ↦ ap (λ (o : Told). length (behind_outcome seating label o)) bye ∙ length-set seating (label - 1) None
  | inr goes ↦ ap length (goes.seats seating label)
]

pub size_behind : (seating : List (Option ℕ)) (turn : Turn) → length (seating_behind seating turn) ≡ length seating
size_behind seating (Unlabelled line) = refl
size_behind seating (Left label closing) = length-set seating (label - 1) None
size_behind seating (Spoke spoken closing) = size_outcome (spoken_seating seating spoken) spoken.label spoken.exchange.outcome ∙ length-set seating (spoken.label - 1) (Some spoken.session)

only_outcome : (s place label : ℕ) (seating : List (Option ℕ)) (outcome : Told) → label - 1 < length seating → (label - 1 ≡ place → ⊥) → OnlyAt s place seating → OnlyAt s place (behind_outcome seating label outcome)
only_outcome s place label seating outcome inside apart only = elim (bye_or outcome) [
  | inl bye ↦ subst (λ (o : Told). OnlyAt s place (behind_outcome seating label o)) (sym bye) (only_other s place (label - 1) seating None inside apart (λ is. cc is) only)
  | inr goes ↦ subst (OnlyAt s place) (sym (goes.seats seating label)) only
]

nowhere_outcome : (s label : ℕ) (seating : List (Option ℕ)) (outcome : Told) → label - 1 < length seating → Nowhere s seating → Nowhere s (behind_outcome seating label outcome)
nowhere_outcome s label seating outcome inside nowhere = elim (bye_or outcome) [
  | inl bye ↦ subst (λ (o : Told). Nowhere s (behind_outcome seating label o)) (sym bye) (nowhere_other s (label - 1) seating None inside (λ is. cc is) nowhere)
  | inr goes ↦ subst (Nowhere s) (sym (goes.seats seating label)) nowhere
]

-- ## Turns of other sessions

-- a command is not of a session that opened before and that its label does not have
pub takes_other : (host : Host) (before opening : List Entry) (seat : Option ℕ) (s k : ℕ) → Takes host before opening seat k → All (IsOwn host.caller s) opening → (seat ≡ Some s → ⊥) → k ≡ s → ⊥
takes_other host before opening None s k opens own other = opening_other host.limit before opening host.caller s k opens own
takes_other host before opening (Some seated) s k takes own other = λ same. other (ap Some (takes.0 ∙ same))

takes_session : (host : Host) (before opening : List Entry) (seat : Option ℕ) (k : ℕ) → Takes host before opening seat k → All (λ (e : Entry). e.session ≡ k) (of_caller host.caller opening)
takes_session host before opening None k opens = opening_session host.limit before opening host.caller k opens
takes_session host before opening (Some seated) k takes = subst (λ (h : List Entry). All (λ (e : Entry). e.session ≡ k) (of_caller host.caller h)) (sym takes.1) (All-nil (λ (e : Entry). e.session ≡ k))

pub spoken_other : (host : Host) (before : List Entry) (seating : List (Option ℕ)) (patience : PatienceState) (spoken : Spoken) (s : ℕ) → IsSpoken host before seating patience spoken → (spoken.session ≡ s → ⊥) → own_calls s host.caller (spoken_grown spoken) ≡ []
spoken_other host before seating patience spoken s is other =
    let opened = takes_session host before spoken.opening (session_at seating spoken.label) spoken.session is.takes in
    let answered = exchange_session (client_of host spoken.session) (before ++ spoken.opening) patience spoken.exchange is.exchanges in
    own_append s host.caller spoken.opening spoken.exchange.grown
    ∙ ap (λ (h : List Entry). h ++ own_calls s host.caller spoken.exchange.grown) (own_other s host.caller spoken.session spoken.opening opened other)
    ∙ own_other s host.caller spoken.session spoken.exchange.grown answered other

leaves_other : (s c k : ℕ) (outcome : Told) (closing : List Entry) → Leaves c k outcome closing → (k ≡ s → ⊥) → own_calls s c closing ≡ []
leaves_other s c k outcome closing leaves other = elim (bye_or outcome) [
  | inl bye ↦ own_closed_other s c k closing (subst (λ (o : Told). Leaves c k o closing) bye leaves) other
  | inr goes ↦ own_empty s c closing (goes.closes c k closing leaves)
]

turn_other : (host : Host) (before : List Entry) (seating : List (Option ℕ)) (patience : PatienceState) (spoken : Spoken) (closing : List Entry) (s : ℕ) → IsTurn host before seating patience (Spoke spoken closing) → (spoken.session ≡ s → ⊥)
    → own_calls s host.caller (grown_of (Spoke spoken closing)) ≡ []
turn_other host before seating patience spoken closing s is other =
    own_append s host.caller (spoken_grown spoken) closing
    ∙ ap (λ (h : List Entry). h ++ own_calls s host.caller closing) (spoken_other host before seating patience spoken s is.0 other)
    ∙ leaves_other s host.caller spoken.session spoken.exchange.outcome closing is.1 other

-- ## A session that is gone

-- a turn has no call of it
record Gone (host : Host) (s : ℕ) (seating : List (Option ℕ)) (grown : List Entry) : Type 0 where
  calls : own_calls s host.caller grown ≡ []
  gone : Nowhere s seating

gone_turn : (host : Host) (before : List Entry) (seating : List (Option ℕ)) (patience : PatienceState) (turn : Turn) (s : ℕ) → length seating ≡ last_label → IsTurn host before seating patience turn → All (IsOwn host.caller s) (grown_of turn)
    → Nowhere s seating → Gone host s (seating_behind seating turn) (grown_of turn)
gone_turn host before seating patience (Unlabelled line) s size is own nowhere = record { calls = refl; gone = nowhere }
gone_turn host before seating patience (Left label closing) s size is own nowhere = record {
  calls = closes_other s host.caller (session_at seating label) closing is.1 (nowhere (label - 1));
  gone = nowhere_other s (label - 1) seating None (inside_seats seating label size is.0) (λ none. cc none) nowhere;
}
gone_turn host before seating patience (Spoke spoken closing) s size is own nowhere =
    let c = host.caller in
    let opening : All (IsOwn c s) spoken.opening = all_front (IsOwn c s) spoken.opening spoken.exchange.grown (all_front (IsOwn c s) (spoken_grown spoken) closing own) in
    let other : spoken.session ≡ s → ⊥ = takes_other host before spoken.opening (session_at seating spoken.label) s spoken.session is.0.takes opening (nowhere (spoken.label - 1)) in
    let inside = inside_seats seating spoken.label size is.0.is_label in
    let inside' = inside_seats (spoken_seating seating spoken) spoken.label (length-set seating (spoken.label - 1) (Some spoken.session) ∙ size) is.0.is_label in
    record {
      calls = turn_other host before seating patience spoken closing s is other;
      gone = nowhere_outcome s spoken.label (spoken_seating seating spoken) spoken.exchange.outcome inside' (nowhere_other s (spoken.label - 1) seating (Some spoken.session) inside (λ same. other (cc same)) nowhere);
    }

-- no turn has a call of it
pub gone_run : (host : Host) (s : ℕ) (tail : List Entry) (before : List Entry) (seating : List (Option ℕ)) (patience : PatienceState) (turns : List Turn) → length seating ≡ last_label → AreTurns host before seating patience turns
    → All (IsOwn host.caller s) (grown_by turns ++ tail) → Nowhere s seating → (Nowhere s (seating_after seating turns) → own_calls s host.caller tail ≡ []) → own_calls s host.caller (grown_by turns ++ tail) ≡ []
gone_run host s tail before seating patience [] size are own nowhere ends = ends nowhere
gone_run host s tail before seating patience (turn ∷ turns) size are own nowhere ends =
    let c = host.caller in
    let join : (grown_of turn ++ grown_by turns) ++ tail ≡ grown_of turn ++ (grown_by turns ++ tail) = append_assoc (grown_of turn) (grown_by turns) tail in
    let all : All (IsOwn c s) (grown_of turn ++ (grown_by turns ++ tail)) = subst (All (IsOwn c s)) join own in
    let here : Gone host s (seating_behind seating turn) (grown_of turn) = gone_turn host before seating patience turn s size are.0 (all_front (IsOwn c s) (grown_of turn) (grown_by turns ++ tail) all) nowhere in
    let later = gone_run host s tail (before ++ grown_of turn) (seating_behind seating turn) (patience_behind patience turn) turns (size_behind seating turn ∙ size) are.1 (all_back (IsOwn c s) (grown_of turn) (grown_by turns ++ tail) all) here.gone ends in
    ap (own_calls s c) join ∙ own_append s c (grown_of turn) (grown_by turns ++ tail) ∙ ap (λ (h : List Entry). h ++ own_calls s c (grown_by turns ++ tail)) here.calls ∙ later

-- ## A label in its session

-- what commands add to the calls of their session
abbrev pub said : ℕ → List Spoken → List Entry
said caller commands = flat_map (λ (spoken : Spoken). calls_of caller spoken.exchange.grown) commands

-- a command of the session behind the first
pub record IsLater (s : ℕ) (spoken : Spoken) : Type 0 where
  pub same : spoken.session ≡ s
  pub once : spoken.opening ≡ []

-- The label stays in its session over this turn.
record Stays (host : Host) (history : List Entry) (s label : ℕ) (seating : List (Option ℕ)) (before grown : List Entry) (turn : Turn) : Type 0 where
  some : List Spoken
  are : All (IsLater s) some
  answered : (rest : List Spoken) → AreAnswered host history s (before ++ grown) rest → AreAnswered host history s before (some ++ rest)
  calls : own_calls s host.caller grown ≡ said host.caller some
  seat : OnlyAt s (label - 1) seating
  commands : (rest : List Turn) → commands_of label (turn ∷ rest) ≡ some ++ commands_of label rest

-- It leaves the session at this turn.
record Quits (host : Host) (history : List Entry) (s label : ℕ) (seating : List (Option ℕ)) (before grown : List Entry) (turn : Turn) : Type 0 where
  some : List Spoken
  are : All (IsLater s) some
  answered : AreAnswered host history s before some
  calls : own_calls s host.caller grown ≡ said host.caller some ++ closing_entry host.caller s ∷ []
  gone : Nowhere s seating
  commands : (rest : List Turn) → commands_of label (turn ∷ rest) ≡ some

-- From here on to the end of the play: some commands, and the closing.
pub record Ends (host : Host) (history : List Entry) (s label : ℕ) (before grown : List Entry) (turns : List Turn) : Type 0 where
  pub some : List Spoken
  pub are : All (IsLater s) some
  pub answered : AreAnswered host history s before some
  pub calls : own_calls s host.caller grown ≡ said host.caller some ++ closing_entry host.caller s ∷ []
  pub commands : commands_of label turns ≡ some

stays_ends : (host : Host) (history : List Entry) (s label : ℕ) (seating : List (Option ℕ)) (before grown more : List Entry) (turn : Turn) (turns : List Turn) → Stays host history s label seating before grown turn → Ends host history s label (before ++ grown) more turns
    → Ends host history s label before (grown ++ more) (turn ∷ turns)
stays_ends host history s label seating before grown more turn turns stays ends =
    let c = host.caller in
    let close : List Entry = closing_entry c s ∷ [] in
    record {
      some = stays.some ++ ends.some;
      are = All-append (IsLater s) stays.some ends.some stays.are ends.are;
      answered = stays.answered ends.some ends.answered;
      calls = own_append s c grown more ∙ ap (λ (h : List Entry). h ++ own_calls s c more) stays.calls ∙ ap (λ (h : List Entry). said c stays.some ++ h) ends.calls ∙ sym (append_assoc (said c stays.some) (said c ends.some) close)
          ∙ ap (λ (h : List Entry). h ++ close) (sym (flat_map-append (λ (spoken : Spoken). calls_of c spoken.exchange.grown) stays.some ends.some));
      commands = stays.commands turns ∙ ap (λ (rest : List Spoken). stays.some ++ rest) ends.commands;
    }

quits_ends : (host : Host) (history : List Entry) (s label : ℕ) (seating : List (Option ℕ)) (before grown more : List Entry) (turn : Turn) (turns : List Turn) → Quits host history s label seating before grown turn → own_calls s host.caller more ≡ []
    → Ends host history s label before (grown ++ more) (turn ∷ turns)
quits_ends host history s label seating before grown more turn turns quits none = record {
  some = quits.some;
  are = quits.are;
  answered = quits.answered;
  calls = own_append s host.caller grown more ∙ ap (λ (h : List Entry). own_calls s host.caller grown ++ h) none ∙ append-nil (own_calls s host.caller grown) ∙ quits.calls;
  commands = quits.commands turns;
}

-- ## A command of the session

-- The session goes on behind it.
pub record SaidMore (host : Host) (s : ℕ) (seating : List (Option ℕ)) (spoken : Spoken) (closing : List Entry) : Type 0 where
  pub calls : own_calls s host.caller (spoken.exchange.grown ++ closing) ≡ calls_of host.caller spoken.exchange.grown
  pub seat : OnlyAt s (spoken.label - 1) seating
  pub more : (rest : List Spoken) → up_to_bye spoken.exchange.outcome rest ≡ rest

-- It was the last.
pub record SaidBye (host : Host) (s : ℕ) (seating : List (Option ℕ)) (spoken : Spoken) (closing : List Entry) : Type 0 where
  pub calls : own_calls s host.caller (spoken.exchange.grown ++ closing) ≡ calls_of host.caller spoken.exchange.grown ++ closing_entry host.caller s ∷ []
  pub gone : Nowhere s seating
  pub last : (rest : List Spoken) → up_to_bye spoken.exchange.outcome rest ≡ []

-- the calls of its exchange
pub said_calls : (host : Host) (before : List Entry) (patience : PatienceState) (spoken : Spoken) (s : ℕ) → IsExchange (client_of host spoken.session) before patience spoken.exchange → spoken.session ≡ s
    → own_calls s host.caller spoken.exchange.grown ≡ calls_of host.caller spoken.exchange.grown
said_calls host before patience spoken s answers same =
    own_all s host.caller spoken.exchange.grown (subst (λ (k : ℕ). All (λ (e : Entry). e.session ≡ k) (of_caller host.caller spoken.exchange.grown)) same
    (exchange_session (client_of host spoken.session) before patience spoken.exchange answers))

pub said_turn : (host : Host) (before : List Entry) (patience : PatienceState) (seating : List (Option ℕ)) (spoken : Spoken) (closing : List Entry) (s : ℕ) → length seating ≡ last_label → IsLabel spoken.label
    → IsExchange (client_of host spoken.session) before patience spoken.exchange → Leaves host.caller spoken.session spoken.exchange.outcome closing → spoken.session ≡ s → AtMost s (spoken.label - 1) seating
    → SaidMore host s (seating_behind seating (Spoke spoken closing)) spoken closing ⊎ SaidBye host s (seating_behind seating (Spoke spoken closing)) spoken closing
said_turn host before patience seating spoken closing s size is_label answers leaves same only =
    let c = host.caller in
    let at = spoken.label - 1 in
    let exchange = spoken.exchange in
    let calls : own_calls s c exchange.grown ≡ calls_of c exchange.grown = said_calls host before patience spoken s answers same in
    let inside = inside_seats seating spoken.label size is_label in
    let inside' = inside_seats (spoken_seating seating spoken) spoken.label (length-set seating at (Some spoken.session) ∙ size) is_label in
    let seated : OnlyAt s at (spoken_seating seating spoken) = subst (λ (k : ℕ). OnlyAt s at (with_seat seating spoken.label (Some k))) (sym same) (only_set s at seating inside only) in
    let both : own_calls s c (exchange.grown ++ closing) ≡ calls_of c exchange.grown ++ own_calls s c closing = own_append s c exchange.grown closing ∙ ap (λ (h : List Entry). h ++ own_calls s c closing) calls in
    elim (bye_or exchange.outcome) [
      | inl bye ↦ inr (record {
        calls = both ∙ ap (λ (h : List Entry). calls_of c exchange.grown ++ h) (own_closed s c closing (subst (λ (k : ℕ). Leaves c k Bye closing) same (subst (λ (o : Told). Leaves c spoken.session o closing) bye leaves)));
        gone = subst (λ (o : Told). Nowhere s (behind_outcome (spoken_seating seating spoken) spoken.label o)) (sym bye) (nowhere_unset s at (spoken_seating seating spoken) inside' seated.only);
        last = λ rest. ap (λ (o : Told). up_to_bye o rest) bye;
      })
      | inr goes ↦ inl (record {
        calls = both ∙ ap (λ (h : List Entry). calls_of c exchange.grown ++ h) (own_empty s c closing (goes.closes c spoken.session closing leaves)) ∙ append-nil (calls_of c exchange.grown);
        seat = subst (OnlyAt s at) (sym (goes.seats (spoken_seating seating spoken) spoken.label)) seated;
        more = goes.more;
      })
    ]

-- the label has this session, so nothing opened
takes_seated : (host : Host) (before opening : List Entry) (seat : Option ℕ) (s k : ℕ) → seat ≡ Some s → Takes host before opening seat k → (k ≡ s) × (opening ≡ [])
takes_seated host before opening None s k is takes = absurd (cc is)
takes_seated host before opening (Some seated) s k is takes = (sym takes.0 ∙ cc is, takes.1)

-- what was answered behind more, was answered behind less
pub answered_front : (host : Host) (history : List Entry) (s : ℕ) (front more : List Entry) (commands : List Spoken) → AreAnswered host history s (front ++ more) commands → AreAnswered host history s front commands
answered_front host history s front more [] all = tt
answered_front host history s front more (spoken ∷ rest) (here, behind) =
    let join : (front ++ more) ++ here.between ≡ front ++ (more ++ here.between) = append_assoc front more here.between in (
      record {
        between = more ++ here.between;
        patience = here.patience;
        later = here.later;
        cut = here.cut ∙ ap (λ (h : List Entry). h ++ spoken.exchange.grown ++ here.later) join;
        answers = subst (λ (h : List Entry). IsExchange (client_of host s) h here.patience spoken.exchange) join here.answers;
      },
      subst (λ (h : List Entry). AreAnswered host history s (h ++ spoken.exchange.grown) rest) join behind,
    )

-- a command, and what was answered behind it
pub answered_now : (host : Host) (history front : List Entry) (patience : PatienceState) (spoken : Spoken) (s : ℕ) (after : List Entry) (rest : List Spoken) → history ≡ front ++ (spoken.exchange.grown ++ after)
    → IsExchange (client_of host spoken.session) front patience spoken.exchange → spoken.session ≡ s → AreAnswered host history s (front ++ spoken.exchange.grown) rest → AreAnswered host history s front (spoken ∷ rest)
answered_now host history front patience spoken s after rest cut answers same behind =
    let empty : front ≡ front ++ [] = sym (append-nil front) in (
      record {
        between = [];
        patience = patience;
        later = after;
        cut = cut ∙ sym (append_assoc front spoken.exchange.grown after) ∙ ap (λ (h : List Entry). h ++ spoken.exchange.grown ++ after) empty;
        answers = subst (λ (h : List Entry). IsExchange (client_of host s) h patience spoken.exchange) empty (subst (λ (k : ℕ). IsExchange (client_of host k) front patience spoken.exchange) same answers);
      },
      subst (λ (h : List Entry). AreAnswered host history s (h ++ spoken.exchange.grown) rest) empty behind,
    )

-- the same behind its opening, and before a closing
pub answered_turn : (host : Host) (history before : List Entry) (patience : PatienceState) (spoken : Spoken) (s : ℕ) (closing after : List Entry) (rest : List Spoken) → history ≡ before ++ (spoken.opening ++ (spoken.exchange.grown ++ (closing ++ after)))
    → IsExchange (client_of host spoken.session) (before ++ spoken.opening) patience spoken.exchange → spoken.session ≡ s → AreAnswered host history s (before ++ (spoken_grown spoken ++ closing)) rest → AreAnswered host history s (before ++ spoken.opening) (spoken ∷ rest)
answered_turn host history before patience spoken s closing after rest cut answers same behind =
    let front : List Entry = before ++ spoken.opening in
    let grown : List Entry = spoken.exchange.grown in
    let join : before ++ (spoken_grown spoken ++ closing) ≡ (front ++ grown) ++ closing = sym (append_assoc before (spoken_grown spoken) closing) ∙ ap (λ (h : List Entry). h ++ closing) (sym (append_assoc before spoken.opening grown)) in
    answered_now host history front patience spoken s (closing ++ after) rest (cut ∙ sym (append_assoc before spoken.opening (grown ++ (closing ++ after)))) answers same
    (answered_front host history s (front ++ grown) closing rest (subst (λ (h : List Entry). AreAnswered host history s h rest) join behind))

turn_parts : (history before opening grown closing after : List Entry) → history ≡ before ++ (((opening ++ grown) ++ closing) ++ after) → history ≡ before ++ (opening ++ (grown ++ (closing ++ after)))
turn_parts history before opening grown closing after cut = cut ∙ ap (λ (h : List Entry). before ++ h) (parts opening grown closing after) where
  parts : (opening grown closing after : List Entry) → ((opening ++ grown) ++ closing) ++ after ≡ opening ++ (grown ++ (closing ++ after))
  parts opening grown closing after = simp append_assoc

is_later : (host : Host) (before : List Entry) (seating : List (Option ℕ)) (patience : PatienceState) (spoken : Spoken) (s : ℕ) → IsSpoken host before seating patience spoken → session_at seating spoken.label ≡ Some s → IsLater s spoken
is_later host before seating patience spoken s is at =
    let takes = takes_seated host before spoken.opening (session_at seating spoken.label) s spoken.session at is.takes in
    record { same = takes.0; once = takes.1 }

-- ## One turn of the label, or of another

label_seat : (seating : List (Option ℕ)) (label other s : ℕ) → other ≡ label → OnlyAt s (label - 1) seating → session_at seating other ≡ Some s
label_seat seating label other s same only = ap (session_at seating) same ∙ only.here

label_most : (seating : List (Option ℕ)) (label other s : ℕ) → other ≡ label → OnlyAt s (label - 1) seating → AtMost s (other - 1) seating
label_most seating label other s same only place is = only.only place is ∙ ap (λ (x : ℕ). x - 1) (sym same)

-- the label alone, or another label alone
left_course : (host : Host) (history : List Entry) (s label : ℕ) (seating : List (Option ℕ)) (other : ℕ) (closing : List Entry) (before : List Entry) (patience : PatienceState) → length seating ≡ last_label → IsLabel label
    → IsTurn host before seating patience (Left other closing) → OnlyAt s (label - 1) seating
    → Stays host history s label (with_seat seating other None) before closing (Left other closing) ⊎ Quits host history s label (with_seat seating other None) before closing (Left other closing)
left_course host history s label seating other closing before patience size is_label is only =
    let c = host.caller in
    let inside = inside_seats seating other size is.0 in
    elim (cases_eq other label) [
      | inl same ↦ inr (record {
        some = [];
        are = All-nil (IsLater s);
        answered = tt;
        calls = closes_own s c (session_at seating other) closing (label_seat seating label other s same only) is.1;
        gone = nowhere_unset s (other - 1) seating inside (label_most seating label other s same only);
        commands = λ rest. ap (λ (b : Bool). cond b [] (commands_of label rest)) (eq-eqb other label same);
      })
      | inr different ↦
          let apart : other - 1 ≡ label - 1 → ⊥ = apart_labels label other is_label is.0 different in
          inl (record {
            some = [];
            are = All-nil (IsLater s);
            answered = answered_front host history s before closing;
            calls = closes_other s c (session_at seating other) closing is.1 (λ at. apart (only.only (other - 1) at));
            seat = only_other s (label - 1) (other - 1) seating None inside apart (λ none. cc none) only;
            commands = λ rest. ap (λ (b : Bool). cond b [] (commands_of label rest)) (ne_eqb other label different);
          })
    ]

-- how the commands begin with one of the label
pub own_commands : (label : ℕ) (spoken : Spoken) (closing : List Entry) (rest : List Turn) → spoken.label ≡ label → commands_of label (Spoke spoken closing ∷ rest) ≡ spoken ∷ up_to_bye spoken.exchange.outcome (commands_of label rest)
own_commands label spoken closing rest same =
    ap (λ (b : Bool). cond b (spoken ∷ up_to_bye spoken.exchange.outcome (commands_of label rest)) (commands_of label rest)) (eq-eqb spoken.label label same)

-- a command of another label is none of this one
pub other_commands : (label : ℕ) (spoken : Spoken) (closing : List Entry) (rest : List Turn) → (spoken.label ≡ label → ⊥) → commands_of label (Spoke spoken closing ∷ rest) ≡ commands_of label rest
other_commands label spoken closing rest different =
    ap (λ (b : Bool). cond b (spoken ∷ up_to_bye spoken.exchange.outcome (commands_of label rest)) (commands_of label rest)) (ne_eqb spoken.label label different)

-- a command of the label
own_course : (host : Host) (history : List Entry) (s label : ℕ) (seating : List (Option ℕ)) (spoken : Spoken) (closing : List Entry) (before after : List Entry) (patience : PatienceState) → length seating ≡ last_label
    → IsTurn host before seating patience (Spoke spoken closing) → history ≡ before ++ ((spoken_grown spoken ++ closing) ++ after) → OnlyAt s (label - 1) seating → spoken.label ≡ label
    → Stays host history s label (seating_behind seating (Spoke spoken closing)) before (spoken_grown spoken ++ closing) (Spoke spoken closing) ⊎ Quits host history s label (seating_behind seating (Spoke spoken closing)) before (spoken_grown spoken ++ closing) (Spoke spoken closing)
own_course host history s label seating spoken closing before after patience size is cut only same =
    let c = host.caller in
    let outcome = spoken.exchange.outcome in
    let later : IsLater s spoken = is_later host before seating patience spoken s is.0 (label_seat seating label spoken.label s same only) in
    let parts : history ≡ before ++ (spoken.opening ++ (spoken.exchange.grown ++ (closing ++ after))) = turn_parts history before spoken.opening spoken.exchange.grown closing after cut in
    let answered : (rest : List Spoken) → AreAnswered host history s (before ++ (spoken_grown spoken ++ closing)) rest → AreAnswered host history s before (spoken ∷ rest) = λ rest behind.
    answered_front host history s before spoken.opening (spoken ∷ rest) (answered_turn host history before patience spoken s closing after rest parts is.0.exchanges later.same behind) in
    let are : All (IsLater s) (spoken ∷ []) = All-cons (IsLater s) spoken [] later (All-nil (IsLater s)) in
    let shorter : own_calls s c (spoken_grown spoken ++ closing) ≡ own_calls s c (spoken.exchange.grown ++ closing) = ap (λ (h : List Entry). own_calls s c ((h ++ spoken.exchange.grown) ++ closing)) later.once in
    let alone : calls_of c spoken.exchange.grown ≡ said c (spoken ∷ []) = sym (append-nil (calls_of c spoken.exchange.grown)) in
    elim (said_turn host (before ++ spoken.opening) patience seating spoken closing s size is.0.is_label is.0.exchanges is.1 later.same (label_most seating label spoken.label s same only)) [
      | inl goes ↦ inl (record {
        some = spoken ∷ [];
        are = are;
        answered = answered;
        calls = shorter ∙ goes.calls ∙ alone;
        seat = subst (λ (l : ℕ). OnlyAt s (l - 1) (seating_behind seating (Spoke spoken closing))) same goes.seat;
        commands = λ rest. own_commands label spoken closing rest same ∙ ap (λ (xs : List Spoken). spoken ∷ xs) (goes.more (commands_of label rest));
      })
      | inr bye ↦ inr (record {
        some = spoken ∷ [];
        are = are;
        answered = answered [] tt;
        calls = shorter ∙ bye.calls ∙ ap (λ (h : List Entry). h ++ closing_entry c s ∷ []) alone;
        gone = bye.gone;
        commands = λ rest. own_commands label spoken closing rest same ∙ ap (λ (xs : List Spoken). spoken ∷ xs) (bye.last (commands_of label rest));
      })
    ]

-- a command of another label
other_course : (host : Host) (history : List Entry) (s label : ℕ) (seating : List (Option ℕ)) (spoken : Spoken) (closing : List Entry) (before : List Entry) (patience : PatienceState) → length seating ≡ last_label → IsLabel label
    → IsTurn host before seating patience (Spoke spoken closing) → All (IsOwn host.caller s) spoken.opening → OnlyAt s (label - 1) seating → (spoken.label ≡ label → ⊥)
    → Stays host history s label (seating_behind seating (Spoke spoken closing)) before (spoken_grown spoken ++ closing) (Spoke spoken closing)
other_course host history s label seating spoken closing before patience size is_label is own only different =
    let at = spoken.label - 1 in
    let apart : at ≡ label - 1 → ⊥ = apart_labels label spoken.label is_label is.0.is_label different in
    let other : spoken.session ≡ s → ⊥ = takes_other host before spoken.opening (session_at seating spoken.label) s spoken.session is.0.takes own (λ here. apart (only.only at here)) in
    let inside = inside_seats seating spoken.label size is.0.is_label in
    let inside' = inside_seats (spoken_seating seating spoken) spoken.label (length-set seating at (Some spoken.session) ∙ size) is.0.is_label in
    record {
      some = [];
      are = All-nil (IsLater s);
      answered = answered_front host history s before (spoken_grown spoken ++ closing);
      calls = turn_other host before seating patience spoken closing s is other;
      seat = only_outcome s (label - 1) spoken.label (spoken_seating seating spoken) spoken.exchange.outcome inside' apart (only_other s (label - 1) at seating (Some spoken.session) inside apart (λ same. other (cc same)) only);
      commands = λ rest. other_commands label spoken closing rest different;
    }

course : (host : Host) (history : List Entry) (s label : ℕ) (seating : List (Option ℕ)) (turn : Turn) (before after : List Entry) (patience : PatienceState) → length seating ≡ last_label → IsLabel label
    → IsTurn host before seating patience turn → history ≡ before ++ (grown_of turn ++ after) → All (IsOwn host.caller s) (grown_of turn) → OnlyAt s (label - 1) seating
    → Stays host history s label (seating_behind seating turn) before (grown_of turn) turn ⊎ Quits host history s label (seating_behind seating turn) before (grown_of turn) turn
course host history s label seating (Unlabelled line) before after patience size is_label is cut own only = inl (record { some = []; are = All-nil (IsLater s); answered = answered_front host history s before []; calls = refl; seat = only; commands = λ rest. refl })
course host history s label seating (Left other closing) before after patience size is_label is cut own only = left_course host history s label seating other closing before patience size is_label is only
course host history s label seating (Spoke spoken closing) before after patience size is_label is cut own only =
    let c = host.caller in
    let opening : All (IsOwn c s) spoken.opening = all_front (IsOwn c s) spoken.opening spoken.exchange.grown (all_front (IsOwn c s) (spoken_grown spoken) closing own) in
    elim (cases_eq spoken.label label) [
      | inl same ↦ own_course host history s label seating spoken closing before after patience size is cut only same
      | inr different ↦ inl (other_course host history s label seating spoken closing before patience size is_label is opening only different)
    ]

-- ## All turns of the label in its session

-- what the turns make up, where this is said of what stands behind them
pub run : (host : Host) (history : List Entry) (s label : ℕ) (at tail : List Entry) (cut : List Turn) (before : List Entry) (seating : List (Option ℕ)) (patience : PatienceState) (turns : List Turn) → length seating ≡ last_label → IsLabel label
    → AreTurns host before seating patience turns → history ≡ before ++ (grown_by turns ++ tail) → All (IsOwn host.caller s) (grown_by turns ++ tail) → OnlyAt s (label - 1) seating
    → (OnlyAt s (label - 1) (seating_after seating turns) → Ends host history s label at tail cut) → (Nowhere s (seating_after seating turns) → own_calls s host.caller tail ≡ [])
    → at ≡ before ++ grown_by turns → Ends host history s label before (grown_by turns ++ tail) (turns ++ cut)
run host history s label at tail cut before seating patience [] size is_label are is own only ends gone place = subst (λ (h : List Entry). Ends host history s label h tail cut) (place ∙ append-nil before) (ends only)
run host history s label at tail cut before seating patience (turn ∷ turns) size is_label are is own only ends gone place =
    let P = IsOwn host.caller s in
    let after : List Entry = grown_by turns ++ tail in
    let join : (grown_of turn ++ grown_by turns) ++ tail ≡ grown_of turn ++ after = append_assoc (grown_of turn) (grown_by turns) tail in
    let whole : history ≡ before ++ (grown_of turn ++ after) = is ∙ ap (λ (h : List Entry). before ++ h) join in
    let all : All P (grown_of turn ++ after) = subst (All P) join own in
    let behind : All P after = all_back P (grown_of turn) after all in
    let size' : length (seating_behind seating turn) ≡ last_label = size_behind seating turn ∙ size in
    subst (λ (h : List Entry). Ends host history s label before h (turn ∷ (turns ++ cut))) (sym join)
    (elim (course host history s label seating turn before after patience size is_label are.0 whole (all_front P (grown_of turn) after all) only) [
      | inl stays ↦ stays_ends host history s label (seating_behind seating turn) before (grown_of turn) after turn (turns ++ cut) stays
          (run host history s label at tail cut (before ++ grown_of turn) (seating_behind seating turn) (patience_behind patience turn) turns size' is_label are.1 (whole ∙ sym (append_assoc before (grown_of turn) after)) behind stays.seat ends gone (place ∙ sym (append_assoc before (grown_of turn) (grown_by turns))))
      | inr quits ↦ quits_ends host history s label (seating_behind seating turn) before (grown_of turn) after turn (turns ++ cut) quits
          (gone_run host s tail (before ++ grown_of turn) (seating_behind seating turn) (patience_behind patience turn) turns size' are.1 behind quits.gone gone)
    ])

-- ## The end of the play

-- the label still has its session when all close
closing_ends : (host : Host) (history : List Entry) (s label : ℕ) (seating : List (Option ℕ)) (before grown closing : List Entry) → own_calls s host.caller grown ≡ [] → AreClosed host.caller seating closing → OnlyAt s (label - 1) seating
    → (cut : List Turn) → commands_of label cut ≡ [] → Ends host history s label before (grown ++ closing) cut
closing_ends host history s label seating before grown closing none closed only cut silent = record {
  some = [];
  are = All-nil (IsLater s);
  answered = tt;
  calls = own_append s host.caller grown closing ∙ ap (λ (h : List Entry). h ++ own_calls s host.caller closing) none ∙ closed_only s host.caller (label - 1) seating closing closed only;
  commands = silent;
}

-- the last command is one of the label
own_cut : (host : Host) (history : List Entry) (s label : ℕ) (before : List Entry) (seating : List (Option ℕ)) (patience : PatienceState) (spoken : Spoken) (closing : List Entry) → length seating ≡ last_label
    → IsSpoken host before seating patience spoken → AreClosed host.caller (spoken_seating seating spoken) closing → history ≡ before ++ (spoken_grown spoken ++ closing) → OnlyAt s (label - 1) seating → spoken.label ≡ label
    → Ends host history s label before (spoken_grown spoken ++ closing) (Spoke spoken [] ∷ [])
own_cut host history s label before seating patience spoken closing size is closed cut only same =
    let c = host.caller in
    let at = spoken.label - 1 in
    let later : IsLater s spoken = is_later host before seating patience spoken s is (label_seat seating label spoken.label s same only) in
    let behind : history ≡ (before ++ spoken.opening) ++ (spoken.exchange.grown ++ closing) = cut ∙ ap (λ (h : List Entry). before ++ h) (append_assoc spoken.opening spoken.exchange.grown closing) ∙ sym (append_assoc before spoken.opening (spoken.exchange.grown ++ closing)) in
    let seated : OnlyAt s at (spoken_seating seating spoken) = subst (λ (k : ℕ). OnlyAt s at (with_seat seating spoken.label (Some k))) (sym later.same)
    (only_set s at seating (inside_seats seating spoken.label size is.is_label) (label_most seating label spoken.label s same only)) in
    record {
      some = spoken ∷ [];
      are = All-cons (IsLater s) spoken [] later (All-nil (IsLater s));
      answered = answered_front host history s before spoken.opening (spoken ∷ []) (answered_now host history (before ++ spoken.opening) patience spoken s closing [] behind is.exchanges later.same tt);
      calls = ap (λ (h : List Entry). own_calls s c ((h ++ spoken.exchange.grown) ++ closing)) later.once
          ∙ own_append s c spoken.exchange.grown closing
          ∙ ap (λ (h : List Entry). h ++ own_calls s c closing) (said_calls host (before ++ spoken.opening) patience spoken s is.exchanges later.same ∙ sym (append-nil (calls_of c spoken.exchange.grown)))
          ∙ ap (λ (h : List Entry). said c (spoken ∷ []) ++ h) (closed_only s c at (spoken_seating seating spoken) closing closed seated);
      commands = own_commands label spoken [] [] same ∙ ap (λ (xs : List Spoken). spoken ∷ xs) (bye_last spoken.exchange.outcome);
    }

pub stop_ends : (host : Host) (history : List Entry) (s label : ℕ) (before : List Entry) (seating : List (Option ℕ)) (patience : PatienceState) (rest : List ℕ) (ended : Type 0) (stop : Stop) (closing : List Entry) → length seating ≡ last_label → IsLabel label
    → IsStop host before seating patience rest ended stop → AreClosed host.caller (stop_seating seating stop) closing → history ≡ before ++ (stop_grown stop ++ closing) → All (IsOwn host.caller s) (stop_grown stop ++ closing) → OnlyAt s (label - 1) seating
    → Ends host history s label before (stop_grown stop ++ closing) (cut_turn stop)
stop_ends host history s label before seating patience rest ended (Input how) closing size is_label is closed cut own only = closing_ends host history s label seating before [] closing refl closed only [] refl
stop_ends host history s label before seating patience rest ended (CutUnlabelled line) closing size is_label is closed cut own only = closing_ends host history s label seating before [] closing refl closed only [] refl
stop_ends host history s label before seating patience rest ended (Refuses refused) closing size is_label is closed cut own only =
    closing_ends host history s label seating before refused.grown closing (own_none s host.caller refused.grown (none_opened host.limit host.caller before refused.grown refused.fault is.opens)) closed only [] refl
stop_ends host history s label before seating patience rest ended (CutSpoken spoken) closing size is_label is closed cut own only =
    let P = IsOwn host.caller s in
    let opening : All P spoken.opening = all_front P spoken.opening spoken.exchange.grown (all_front P (spoken_grown spoken) closing own) in
    elim (cases_eq spoken.label label) [
      | inl same ↦ own_cut host history s label before seating patience spoken closing size is closed cut only same
      | inr different ↦
          let at = spoken.label - 1 in
          let apart : at ≡ label - 1 → ⊥ = apart_labels label spoken.label is_label is.is_label different in
          let other : spoken.session ≡ s → ⊥ = takes_other host before spoken.opening (session_at seating spoken.label) s spoken.session is.takes opening (λ here. apart (only.only at here)) in
          let inside = inside_seats seating spoken.label size is.is_label in
          let seated : OnlyAt s (label - 1) (spoken_seating seating spoken) = only_other s (label - 1) at seating (Some spoken.session) inside apart (λ same. other (cc same)) only in
          closing_ends host history s label (spoken_seating seating spoken) before (spoken_grown spoken) closing (spoken_other host before seating patience spoken s is other) closed seated (Spoke spoken [] ∷ []) (other_commands label spoken [] [] different)
    ]

closing_gone : (s c : ℕ) (seating : List (Option ℕ)) (grown closing : List Entry) → own_calls s c grown ≡ [] → AreClosed c seating closing → Nowhere s seating → own_calls s c (grown ++ closing) ≡ []
closing_gone s c seating grown closing none closed nowhere =
    own_append s c grown closing ∙ ap (λ (h : List Entry). h ++ own_calls s c closing) none ∙ closed_nowhere s c seating closing closed nowhere

-- no label has the session when all close
pub stop_gone : (host : Host) (s : ℕ) (before : List Entry) (seating : List (Option ℕ)) (patience : PatienceState) (rest : List ℕ) (ended : Type 0) (stop : Stop) (closing : List Entry) → length seating ≡ last_label
    → IsStop host before seating patience rest ended stop → AreClosed host.caller (stop_seating seating stop) closing → All (IsOwn host.caller s) (stop_grown stop ++ closing) → Nowhere s seating → own_calls s host.caller (stop_grown stop ++ closing) ≡ []
stop_gone host s before seating patience rest ended (Input how) closing size is closed own nowhere = closing_gone s host.caller seating [] closing refl closed nowhere
stop_gone host s before seating patience rest ended (CutUnlabelled line) closing size is closed own nowhere = closing_gone s host.caller seating [] closing refl closed nowhere
stop_gone host s before seating patience rest ended (Refuses refused) closing size is closed own nowhere =
    closing_gone s host.caller seating refused.grown closing (own_none s host.caller refused.grown (none_opened host.limit host.caller before refused.grown refused.fault is.opens)) closed nowhere
stop_gone host s before seating patience rest ended (CutSpoken spoken) closing size is closed own nowhere =
    let P = IsOwn host.caller s in
    let opening : All P spoken.opening = all_front P spoken.opening spoken.exchange.grown (all_front P (spoken_grown spoken) closing own) in
    let at = spoken.label - 1 in
    let other : spoken.session ≡ s → ⊥ = takes_other host before spoken.opening (session_at seating spoken.label) s spoken.session is.takes opening (nowhere at) in
    closing_gone s host.caller (spoken_seating seating spoken) (spoken_grown spoken) closing (spoken_other host before seating patience spoken s is other) closed
    (nowhere_other s at seating (Some spoken.session) (inside_seats seating spoken.label size is.is_label) (λ same. other (cc same)) nowhere)
