-- Each command is of a session that a command of its label opened.
use Rattle.std.proofs.Common.{◌≡◌, ◌-◌, ◌++◌, ◌∷◌, ◌∙◌, ◌⊎◌, [], List, ℕ, Bool, cond, Option, Some, None, length, refl, sym, ap, subst, arith, inl, inr, append_assoc, append-nil}
use Rattle.std.specs.Bool.{IsTrue}
use Rattle.std.proofs.lemmas.Bool.{ne_eqb}
use Rattle.std.proofs.lemmas.List.{length-set}
use Rattle.q4_machine.specs.declared.entry.Entry.{Entry}
use Rattle.q4_machine.specs.Patience.{PatienceState}
use Rattle.q4_session.specs.Sessions.{Around}
use Rattle.q4_play.specs.declared.plays.PlayEnd.{PlayEnd}
use Rattle.q4_play.specs.Labels.{IsLabel, last_label, nobody, session_at, with_seat}
use Rattle.q4_play.specs.Turns.{Host, Spoken, Turn, Unlabelled, Left, Spoke, IsTurn, IsSpoken, AreTurns, Takes, spoken_seating, grown_of, grown_by, behind_outcome, seating_behind, seating_after, patience_behind, patience_after}
use Rattle.q4_play.specs.Plays.{IsStop, Play}
use Rattle.q4_play.specs.Whole.{cut_turn, all_turns, HasNone, up_to_bye, commands_of, commands_behind, IsInSession}
use Rattle.q4_play.proofs.Placing.{none_some, some_is, nobody_at, read_set, inside_seats}
use Rattle.q4_play.proofs.Taking.{seating_push}
use Rattle.q4_play.proofs.Course.{bye_or, GoesOn, bye_last, own_commands, other_commands}
use Rattle.q4_play.proofs.Wholes.{append_cut, cut_is, turns_split, size_nobody}

-- The label has had this session since a command opened it, and given these commands from there on.
pub record Since (label k : ℕ) (front : List Turn) : Type 0 where
  pub start : List Turn
  pub first : Spoken
  pub closing : List Entry
  pub between : List Turn
  pub cut : front ≡ start ++ Spoke first closing ∷ between
  pub opens : HasNone start label
  pub label_is : first.label ≡ label
  pub session_is : first.session ≡ k
  pub earlier : List Spoken
  pub commands : (rest : List Turn) → commands_of label (Spoke first closing ∷ (between ++ rest)) ≡ earlier ++ commands_of label rest

-- each label's session
abbrev pub AllSince : List Turn → List (Option ℕ) → Type 0
AllSince front seating = (label k : ℕ) → IsLabel label → session_at seating label ≡ Some k → Since label k front

-- one more turn, with some commands of the label
since_more : (label k : ℕ) (front : List Turn) (turn : Turn) (some : List Spoken) → ((rest : List Turn) → commands_of label (turn ∷ rest) ≡ some ++ commands_of label rest) → Since label k front → Since label k (front ++ turn ∷ [])
since_more label k front turn some says since = record {
  start = since.start;
  first = since.first;
  closing = since.closing;
  between = since.between ++ turn ∷ [];
  cut = ap (λ (ts : List Turn). ts ++ turn ∷ []) since.cut ∙ append_assoc since.start (Spoke since.first since.closing ∷ since.between) (turn ∷ []);
  opens = since.opens;
  label_is = since.label_is;
  session_is = since.session_is;
  earlier = since.earlier ++ some;
  commands = λ rest. ap (λ (ts : List Turn). commands_of label (Spoke since.first since.closing ∷ ts)) (append_assoc since.between (turn ∷ []) rest)
      ∙ since.commands (turn ∷ rest) ∙ ap (λ (xs : List Spoken). since.earlier ++ xs) (says rest) ∙ sym (append_assoc since.earlier some (commands_of label rest));
}

-- the command that opens
since_opening : (label k : ℕ) (front : List Turn) (spoken : Spoken) (closing : List Entry) → HasNone front label → spoken.label ≡ label → spoken.session ≡ k
    → ((rest : List Turn) → commands_of label (Spoke spoken closing ∷ rest) ≡ (spoken ∷ []) ++ commands_of label rest) → Since label k (front ++ Spoke spoken closing ∷ [])
since_opening label k front spoken closing none same session says = record {
  start = front;
  first = spoken;
  closing = closing;
  between = [];
  cut = refl;
  opens = none;
  label_is = same;
  session_is = session;
  earlier = spoken ∷ [];
  commands = says;
}

-- a command of the label that had this seat
since_taken : (host : Host) (before opening : List Entry) (label k : ℕ) (front : List Turn) (seat : Option ℕ) (spoken : Spoken) (closing : List Entry) → session_at (seating_after nobody front) label ≡ seat → Takes host before opening seat spoken.session → spoken.label ≡ label
    → spoken.session ≡ k → ((rest : List Turn) → commands_of label (Spoke spoken closing ∷ rest) ≡ (spoken ∷ []) ++ commands_of label rest) → (seat ≡ Some k → Since label k front) → Since label k (front ++ Spoke spoken closing ∷ [])
since_taken host before opening label k front None spoken closing at takes same session says since = since_opening label k front spoken closing at same session says
since_taken host before opening label k front (Some seated) spoken closing at takes same session says since = since_more label k front (Spoke spoken closing) (spoken ∷ []) says (since (ap Some (takes.0 ∙ session)))

-- what a label has behind a command, where it was answered otherwise than `bye` or the label is another
outcome_seat : (seating : List (Option ℕ)) (spoken : Spoken) (closing : List Entry) (label k : ℕ) → length seating ≡ last_label → IsLabel spoken.label → session_at (seating_behind seating (Spoke spoken closing)) label ≡ Some k
    → ((label - 1 ≡ spoken.label - 1) × (spoken.session ≡ k) × GoesOn spoken.exchange.outcome) ⊎ ((label - 1 ≡ spoken.label - 1 → ⊥) × (session_at seating label ≡ Some k))
outcome_seat seating spoken closing label k size is_label at =
    let inside = inside_seats seating spoken.label size is_label in
    let inside' = inside_seats (spoken_seating seating spoken) spoken.label (length-set seating (spoken.label - 1) (Some spoken.session) ∙ size) is_label in
    elim (bye_or spoken.exchange.outcome) [
      | inl bye ↦ elim (read_set (spoken_seating seating spoken) (spoken.label - 1) (label - 1) k None inside' (ap (λ o. session_at (behind_outcome (spoken_seating seating spoken) spoken.label o) label) (sym bye) ∙ at)) [
        | inl here ↦ absurd (none_some k here.1)
        | inr there ↦ elim (read_set seating (spoken.label - 1) (label - 1) k (Some spoken.session) inside there.1) [ inl here ↦ absurd (there.0 here.0) | inr old ↦ inr old ]
      ]
      | inr goes ↦ elim (read_set seating (spoken.label - 1) (label - 1) k (Some spoken.session) inside (ap (λ (x : List (Option ℕ)). session_at x label) (sym (goes.seats (spoken_seating seating spoken) spoken.label)) ∙ at)) [
        | inl here ↦ inl (here.0, some_is spoken.session k here.1, goes)
        | inr old ↦ inr old
      ]
    ]

-- labels with one place are one
same_labels : (label other : ℕ) → IsLabel label → IsLabel other → label - 1 ≡ other - 1 → other ≡ label
same_labels label other is_label also same = omega (arith, is_label, also, same)

left_commands : (label other : ℕ) (closing : List Entry) (rest : List Turn) → (other ≡ label → ⊥) → commands_of label (Left other closing ∷ rest) ≡ commands_of label rest
left_commands label other closing rest different = ap (λ (b : Bool). cond b [] (commands_of label rest)) (ne_eqb other label different)

since_spoken : (host : Host) (before : List Entry) (patience : PatienceState) (front : List Turn) (spoken : Spoken) (closing : List Entry) → IsSpoken host before (seating_after nobody front) patience spoken → AllSince front (seating_after nobody front)
    → AllSince (front ++ Spoke spoken closing ∷ []) (seating_behind (seating_after nobody front) (Spoke spoken closing))
since_spoken host before patience front spoken closing is since label k is_label at = elim (outcome_seat (seating_after nobody front) spoken closing label k (size_nobody front) is.is_label at) [
  | inl here ↦
      let same : spoken.label ≡ label = same_labels label spoken.label is_label is.is_label here.0 in
      let takes : Takes host before spoken.opening (session_at (seating_after nobody front) label) spoken.session = subst (λ (l : ℕ). Takes host before spoken.opening (session_at (seating_after nobody front) l) spoken.session) same is.takes in
      since_taken host before spoken.opening label k front (session_at (seating_after nobody front) label) spoken closing refl takes same here.1
      (λ rest. own_commands label spoken closing rest same ∙ ap (λ (xs : List Spoken). spoken ∷ xs) (here.2.more (commands_of label rest))) (since label k is_label)
  | inr there ↦ since_more label k front (Spoke spoken closing) [] (λ rest. other_commands label spoken closing rest (λ same. there.0 (ap (λ (l : ℕ). l - 1) (sym same)))) (since label k is_label there.1)
]

since_left : (front : List Turn) (other : ℕ) (closing : List Entry) → IsLabel other → AllSince front (seating_after nobody front) → AllSince (front ++ Left other closing ∷ []) (with_seat (seating_after nobody front) other None)
since_left front other closing is since label k is_label at = elim (read_set (seating_after nobody front) (other - 1) (label - 1) k None (inside_seats (seating_after nobody front) other (size_nobody front) is) at) [
  | inl here ↦ absurd (none_some k here.1)
  | inr there ↦ since_more label k front (Left other closing) [] (λ rest. left_commands label other closing rest (λ same. there.0 (ap (λ (l : ℕ). l - 1) (sym same)))) (since label k is_label there.1)
]

since_turn : (host : Host) (before : List Entry) (patience : PatienceState) (front : List Turn) (turn : Turn) → IsTurn host before (seating_after nobody front) patience turn → AllSince front (seating_after nobody front)
    → AllSince (front ++ turn ∷ []) (seating_behind (seating_after nobody front) turn)
since_turn host before patience front (Unlabelled line) is since = λ label k is_label at. since_more label k front (Unlabelled line) [] (λ rest. refl) (since label k is_label at)
since_turn host before patience front (Left other closing) is since = since_left front other closing is.0 since
since_turn host before patience front (Spoke spoken closing) is since = since_spoken host before patience front spoken closing is.0 since

since_walk : (host : Host) (before : List Entry) (patience : PatienceState) (front turns : List Turn) → AreTurns host before (seating_after nobody front) patience turns → AllSince front (seating_after nobody front) → AllSince (front ++ turns) (seating_after nobody (front ++ turns))
since_walk host before patience front [] are since = subst (λ (ts : List Turn). AllSince ts (seating_after nobody ts)) (sym (append-nil front)) since
since_walk host before patience front (turn ∷ turns) are since =
    let seats : seating_behind (seating_after nobody front) turn ≡ seating_after nobody (front ++ turn ∷ []) = sym (seating_push nobody front turn) in
    let here : AllSince (front ++ turn ∷ []) (seating_after nobody (front ++ turn ∷ [])) = subst (AllSince (front ++ turn ∷ [])) seats (since_turn host before patience front turn are.0 since) in
    subst (λ (ts : List Turn). AllSince ts (seating_after nobody ts)) (append_assoc front (turn ∷ []) turns)
    (since_walk host (before ++ grown_of turn) (patience_behind patience turn) (front ++ turn ∷ []) turns (subst (λ (x : List (Option ℕ)). AreTurns host (before ++ grown_of turn) x (patience_behind patience turn) turns) seats are.1) here)

-- after any turns of a play
pub since_nobody : (host : Host) (before : List Entry) (patience : PatienceState) (turns : List Turn) → AreTurns host before nobody patience turns → AllSince turns (seating_after nobody turns)
since_nobody host before patience turns are = since_walk host before patience [] turns are (λ label k is_label at. absurd (none_some k (sym (nobody_at (label - 1)) ∙ at)))

-- ## The session of a command

by_itself : (front : List Turn) (spoken : Spoken) (closing : List Entry) (later : List Turn) → HasNone front spoken.label → IsInSession front spoken closing later
by_itself front spoken closing later none = record {
  start = front;
  first = spoken;
  first_closing = closing;
  between = [];
  cut = refl;
  all = refl;
  opens = none;
  label = refl;
  session = refl;
  earlier = [];
  up_to = ap (λ (xs : List Spoken). spoken ∷ xs) (bye_last spoken.exchange.outcome);
  among = refl;
}

-- the first command, and those up to one that is given now
first_says : (label k : ℕ) (front : List Turn) (since : Since label k front) (spoken : Spoken) (closing : List Entry) (rest : List Turn) → spoken.label ≡ label
    → since.first ∷ commands_behind since.first (since.between ++ Spoke spoken closing ∷ rest) ≡ since.earlier ++ spoken ∷ commands_behind spoken rest
first_says label k front since spoken closing rest same =
    let first = since.first in
    let turns : List Turn = since.between ++ Spoke spoken closing ∷ rest in
    ap (λ (l : ℕ). first ∷ up_to_bye first.exchange.outcome (commands_of l turns)) since.label_is
    ∙ sym (own_commands label first since.closing turns since.label_is)
    ∙ since.commands (Spoke spoken closing ∷ rest)
    ∙ ap (λ (xs : List Spoken). since.earlier ++ xs) (own_commands label spoken closing rest same)
    ∙ ap (λ (l : ℕ). since.earlier ++ spoken ∷ up_to_bye spoken.exchange.outcome (commands_of l rest)) (sym same)

by_earlier : (front : List Turn) (spoken : Spoken) (closing : List Entry) (later : List Turn) → Since spoken.label spoken.session front → IsInSession front spoken closing later
by_earlier front spoken closing later since =
    let this : List Turn = Spoke spoken closing ∷ [] in
    let begun : List Turn = Spoke since.first since.closing ∷ since.between in
    let join : (since.between ++ this) ++ later ≡ since.between ++ Spoke spoken closing ∷ later = append_assoc since.between this later in
    record {
      start = since.start;
      first = since.first;
      first_closing = since.closing;
      between = since.between ++ this;
      cut = ap (λ (ts : List Turn). ts ++ this) since.cut ∙ append_assoc since.start begun this;
      all = ap (λ (ts : List Turn). ts ++ Spoke spoken closing ∷ later) since.cut ∙ append_assoc since.start begun (Spoke spoken closing ∷ later)
          ∙ ap (λ (ts : List Turn). since.start ++ Spoke since.first since.closing ∷ ts) (sym join);
      opens = subst (HasNone since.start) (sym since.label_is) since.opens;
      label = since.label_is;
      session = since.session_is;
      earlier = since.earlier;
      up_to = first_says spoken.label spoken.session front since spoken closing [] refl ∙ ap (λ (xs : List Spoken). since.earlier ++ spoken ∷ xs) (bye_last spoken.exchange.outcome);
      among = ap (λ (ts : List Turn). since.first ∷ commands_behind since.first ts) join ∙ first_says spoken.label spoken.session front since spoken closing later refl;
    }

by_seat : (host : Host) (before : List Entry) (front : List Turn) (spoken : Spoken) (closing : List Entry) (later : List Turn) (seat : Option ℕ) → session_at (seating_after nobody front) spoken.label ≡ seat → Takes host before spoken.opening seat spoken.session
    → IsLabel spoken.label → AllSince front (seating_after nobody front) → IsInSession front spoken closing later
by_seat host before front spoken closing later None at takes is_label since = by_itself front spoken closing later at
by_seat host before front spoken closing later (Some seated) at takes is_label since = by_earlier front spoken closing later (since spoken.label spoken.session is_label (at ∙ ap Some takes.0))

in_session : (host : Host) (before before' : List Entry) (patience patience' : PatienceState) (front : List Turn) (spoken : Spoken) (closing : List Entry) (later : List Turn) → AreTurns host before nobody patience front → IsSpoken host before' (seating_after nobody front) patience' spoken
    → IsInSession front spoken closing later
in_session host before before' patience patience' front spoken closing later are is =
    by_seat host before' front spoken closing later (session_at (seating_after nobody front) spoken.label) refl is.takes is.is_label (since_nobody host before patience front are)

-- every command of a play is of a session that its label opened
pub every_command : (host : Host) (old new : Around) (ended : Bool) (how : PlayEnd) (play : Play host old new (IsTrue ended) how) (front later : List Turn) (spoken : Spoken) (closing : List Entry)
    → all_turns play.lined.turns play.lined.stop ≡ front ++ Spoke spoken closing ∷ later → IsInSession front spoken closing later
every_command host old new ended how play front later spoken closing cut =
    let lined = play.lined in
    let turns = lined.turns in
    elim (append_cut turns (cut_turn lined.stop) front (Spoke spoken closing) later cut) [
      | inl within ↦
          let both = turns_split host old.seen nobody old.patience front (Spoke spoken closing ∷ within.0) (subst (AreTurns host old.seen nobody old.patience) within.1 lined.are) in
          in_session host old.seen (old.seen ++ grown_by front) old.patience (patience_after old.patience front) front spoken closing later both.0 both.1.0.0
      | inr behind ↦
          let at = cut_is lined.stop behind.0 spoken closing later behind.2 in
          let same : turns ≡ front = sym (behind.1 ∙ ap (λ (ts : List Turn). turns ++ ts) at.first ∙ append-nil turns) in
          let is : IsSpoken host (old.seen ++ grown_by turns) (seating_after nobody turns) (patience_after old.patience turns) spoken =
          subst (IsStop host (old.seen ++ grown_by turns) (seating_after nobody turns) (patience_after old.patience turns) lined.rest (IsTrue ended)) at.stop_is lined.stops in
          in_session host old.seen (old.seen ++ grown_by turns) old.patience (patience_after old.patience turns) front spoken closing later (subst (AreTurns host old.seen nobody old.patience) same lined.are)
          (subst (λ (ts : List Turn). IsSpoken host (old.seen ++ grown_by turns) (seating_after nobody ts) (patience_after old.patience turns) spoken) same is)
    ]
