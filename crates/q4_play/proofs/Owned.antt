-- Each entry of the caller is of a session that a command of the play opened.
use Rattle.std.proofs.Common.{◌≡◌, ◌<◌, ◌+◌, ◌-◌, ◌++◌, ◌∷◌, ◌∙◌, ◌⊎◌, [], List, ℕ, suc, Option, Some, None, Ok, Err, All, length, drop, get_or, refl, sym, ap, subst, arith, inl, inr, append_assoc, append-nil}
use Rattle.std.specs.Bool.{IsTrue}
use Rattle.std.specs.List.{flat_map}
use Rattle.std.proofs.Math.Seq.{drop-append_seam}
use Rattle.std.proofs.lemmas.Bool.{cases_lt}
use Rattle.std.proofs.lemmas.List.{get_or_past, length-set}
use Rattle.std.proofs.lemmas.List.Elements.{All-append, All-nil, All-cons, All-weaker}
use Rattle.q4_machine.specs.declared.entry.Entry.{Entry}
use Rattle.q4_machine.specs.declared.desk.DeskFault.{DeskFault}
use Rattle.q4_machine.specs.declared.desk.DeskFault.TheVariants as fault
use Rattle.q4_machine.specs.Parts.{of_caller, IsOpened, IsClosed}
use Rattle.q4_machine.specs.Patience.{PatienceState}
use Rattle.q4_proto.specs.Told as told
use Rattle.q4_proto.specs.Told.{Told, Bye}
use Rattle.q4_session.specs.Sessions.{Around}
use Rattle.q4_play.specs.declared.plays.PlayEnd.{PlayEnd}
use Rattle.q4_play.specs.Labels.{IsLabel, last_label, nobody, session_at}
use Rattle.q4_play.specs.Turns.{Host, Spoken, Turn, Unlabelled, Left, Spoke, IsTurn, IsSpoken, AreTurns, Takes, Closes, Leaves, client_of, spoken_grown, grown_of, grown_by, spoken_seating, seating_after, patience_after}
use Rattle.q4_play.specs.Plays.{Stop, Input, Refuses, CutUnlabelled, CutSpoken, IsStop, AreClosed, Play, stop_grown, stop_seating}
use Rattle.q4_play.specs.Whole.{cut_turn, all_turns, closing_entry, IsInSession, WasOpened, AreOfSessions}
use Rattle.q4_play.proofs.Staying.{of_all}
use Rattle.q4_play.proofs.Placing.{none_some, some_is, read_set, inside_seats}
use Rattle.q4_play.proofs.Closing.{seat_at}
use Rattle.q4_play.proofs.Own.{opening_session, exchange_session}
use Rattle.q4_play.proofs.Wholes.{turns_split, size_nobody, play_history}
use Rattle.q4_play.proofs.Since.{Since, since_nobody, every_command}

-- ## Slices

-- the caller's entries of a slice are of one session
slice_owned : (turns : List Turn) (caller k : ℕ) (slice : List Entry) → All (λ (e : Entry). e.session ≡ k) (of_caller caller slice) → WasOpened turns k → AreOfSessions caller turns slice
slice_owned turns caller k slice all opened =
    of_all (λ (e : Entry). WasOpened turns e.session) caller slice
    (All-weaker (λ (e : Entry). e.session ≡ k) (λ (e : Entry). WasOpened turns e.session) (λ e is. subst (WasOpened turns) (sym is) opened) (of_caller caller slice) all)

-- or there are none
none_owned : (turns : List Turn) (caller : ℕ) (slice : List Entry) → of_caller caller slice ≡ [] → AreOfSessions caller turns slice
none_owned turns caller slice none =
    of_all (λ (e : Entry). WasOpened turns e.session) caller slice (subst (All (λ (e : Entry). WasOpened turns e.session)) (sym none) (All-nil (λ (e : Entry). WasOpened turns e.session)))

empty_owned : (turns : List Turn) (caller : ℕ) (slice : List Entry) → slice ≡ [] → AreOfSessions caller turns slice
empty_owned turns caller slice none = none_owned turns caller slice (ap (of_caller caller) none)

both_owned : (turns : List Turn) (caller : ℕ) (xs ys : List Entry) → AreOfSessions caller turns xs → AreOfSessions caller turns ys → AreOfSessions caller turns (xs ++ ys)
both_owned turns caller xs ys one two = All-append (λ (e : Entry). e.caller ≡ caller → WasOpened turns e.session) xs ys one two

-- ## Openings and closings

opening_owned : (turns : List Turn) (host : Host) (before opening : List Entry) (seat : Option ℕ) (k : ℕ) → Takes host before opening seat k → WasOpened turns k → AreOfSessions host.caller turns opening
opening_owned turns host before opening None k opens opened = slice_owned turns host.caller k opening (opening_session host.limit before opening host.caller k opens) opened
opening_owned turns host before opening (Some seated) k takes opened = empty_owned turns host.caller opening takes.1

closing_owned : (turns : List Turn) (caller k : ℕ) (closing : List Entry) → IsClosed caller k closing → WasOpened turns k → AreOfSessions caller turns closing
closing_owned turns caller k closing closed opened =
    slice_owned turns caller k closing (subst (All (λ (e : Entry). e.session ≡ k)) (sym closed) (All-cons (λ (e : Entry). e.session ≡ k) (closing_entry caller k) [] refl (All-nil (λ (e : Entry). e.session ≡ k)))) opened

closes_owned : (turns : List Turn) (caller : ℕ) (seat : Option ℕ) (closing : List Entry) → Closes caller seat closing → ((k : ℕ) → seat ≡ Some k → WasOpened turns k) → AreOfSessions caller turns closing
closes_owned turns caller None closing none opened = empty_owned turns caller closing none
closes_owned turns caller (Some k) closing closed opened = closing_owned turns caller k closing closed (opened k refl)

leaves_owned : (turns : List Turn) (caller k : ℕ) (outcome : Told) (closing : List Entry) → Leaves caller k outcome closing → WasOpened turns k → AreOfSessions caller turns closing
leaves_owned turns caller k Bye closing closed opened = closing_owned turns caller k closing closed opened
leaves_owned turns caller k told.Ok closing none opened = empty_owned turns caller closing none
leaves_owned turns caller k (told.Number number) closing none opened = empty_owned turns caller closing none
leaves_owned turns caller k (told.Seen mark) closing none opened = empty_owned turns caller closing none
leaves_owned turns caller k (told.Rows rows) closing none opened = empty_owned turns caller closing none
leaves_owned turns caller k (told.Refused code) closing none opened = empty_owned turns caller closing none

-- ## Sessions that a command opened

-- the session of a label, in all turns
since_opened : (label k : ℕ) (front rest : List Turn) → Since label k front → WasOpened (front ++ rest) k
since_opened label k front rest since = record {
  front = since.start;
  first = since.first;
  closing = since.closing;
  later = since.between ++ rest;
  cut = ap (λ (ts : List Turn). ts ++ rest) since.cut ∙ append_assoc since.start (Spoke since.first since.closing ∷ since.between) rest;
  opens = subst (λ (l : ℕ). session_at (seating_after nobody since.start) l ≡ None) (sym since.label_is) since.opens;
  session_is = since.session_is;
}

-- the session of a command
in_opened : (turns front : List Turn) (spoken : Spoken) (closing : List Entry) (later : List Turn) → turns ≡ front ++ Spoke spoken closing ∷ later → IsInSession front spoken closing later → WasOpened turns spoken.session
in_opened turns front spoken closing later cut is = record {
  front = is.start;
  first = is.first;
  closing = is.first_closing;
  later = is.between ++ later;
  cut = cut ∙ is.all;
  opens = is.opens;
  session_is = is.session;
}

spoken_owned : (turns : List Turn) (host : Host) (before : List Entry) (seating : List (Option ℕ)) (patience : PatienceState) (spoken : Spoken) → IsSpoken host before seating patience spoken → WasOpened turns spoken.session → AreOfSessions host.caller turns (spoken_grown spoken)
spoken_owned turns host before seating patience spoken is opened =
    both_owned turns host.caller spoken.opening spoken.exchange.grown (opening_owned turns host before spoken.opening (session_at seating spoken.label) spoken.session is.takes opened)
    (slice_owned turns host.caller spoken.session spoken.exchange.grown (exchange_session (client_of host spoken.session) (before ++ spoken.opening) patience spoken.exchange is.exchanges) opened)

-- ## Turns and stops

-- what holds of what each element gives
all_flat : {X : Type 0} (P : Entry → Type 0) (f : X → List Entry) (xs : List X) → ((front : List X) (x : X) (later : List X) → xs ≡ front ++ x ∷ later → All P (f x)) → All P (flat_map f xs)
all_flat P f [] each = All-nil P
all_flat {X = X} P f (x ∷ xs) each = All-append P (f x) (flat_map f xs) (each [] x xs refl) (all_flat P f xs (λ front y later is. each (x ∷ front) y later (ap (λ (zs : List X). x ∷ zs) is)))

refused_none : (limit : ℕ) (before grown : List Entry) (caller : ℕ) (why : DeskFault) → IsOpened limit before grown caller (Err why) → of_caller caller grown ≡ []
refused_none limit before grown caller fault.Memory none = none
refused_none limit before grown caller (fault.Worn count) refused = refused.0

-- a stop leaves as many seats
size_stop : (seating : List (Option ℕ)) (stop : Stop) → length seating ≡ last_label → length (stop_seating seating stop) ≡ last_label
size_stop seating (Input end) size = size
size_stop seating (Refuses refused) size = size
size_stop seating (CutUnlabelled line) size = size
size_stop seating (CutSpoken spoken) size = length-set seating (spoken.label - 1) (Some spoken.session) ∙ size

module _ (host : Host) (old new : Around) (ended : _) (how : PlayEnd) (play : Play host old new (IsTrue ended) how) where
  abbrev turns : List Turn
  turns = play.lined.turns

  abbrev every_turn : List Turn
  every_turn = all_turns turns play.lined.stop

  -- a turn's place among all
  place : (front : List Turn) (turn : Turn) (later : List Turn) → turns ≡ front ++ turn ∷ later → every_turn ≡ front ++ turn ∷ (later ++ cut_turn play.lined.stop)
  place front turn later cut = ap (λ (ts : List Turn). ts ++ cut_turn play.lined.stop) cut ∙ append_assoc front (turn ∷ later) (cut_turn play.lined.stop)

  command_opened : (front : List Turn) (spoken : Spoken) (closing : List Entry) (later : List Turn) → every_turn ≡ front ++ Spoke spoken closing ∷ later → WasOpened every_turn spoken.session
  command_opened front spoken closing later cut = in_opened every_turn front spoken closing later cut (every_command host old new ended how play front later spoken closing cut)

  turn_owned : (front : List Turn) (turn : Turn) (later : List Turn) → turns ≡ front ++ turn ∷ later → AreTurns host old.seen nobody old.patience front
      → IsTurn host (old.seen ++ grown_by front) (seating_after nobody front) (patience_after old.patience front) turn → AreOfSessions host.caller every_turn (grown_of turn)
  turn_owned front (Unlabelled line) later cut are is = All-nil (λ (e : Entry). e.caller ≡ host.caller → WasOpened every_turn e.session)
  turn_owned front (Left label closing) later cut are is =
      closes_owned every_turn host.caller (session_at (seating_after nobody front) label) closing is.1 (λ k at.
      subst (λ (ts : List Turn). WasOpened ts k) (sym (place front (Left label closing) later cut)) (since_opened label k front (Left label closing ∷ (later ++ cut_turn play.lined.stop)) (since_nobody host old.seen old.patience front are label k is.0 at)))
  turn_owned front (Spoke spoken closing) later cut are is =
      let opened = command_opened front spoken closing (later ++ cut_turn play.lined.stop) (place front (Spoke spoken closing) later cut) in
      both_owned every_turn host.caller (spoken_grown spoken) closing
      (spoken_owned every_turn host (old.seen ++ grown_by front) (seating_after nobody front) (patience_after old.patience front) spoken is.0 opened)
      (leaves_owned every_turn host.caller spoken.session spoken.exchange.outcome closing is.1 opened)

  turns_owned : AreOfSessions host.caller every_turn (grown_by turns)
  turns_owned = all_flat (λ (e : Entry). e.caller ≡ host.caller → WasOpened every_turn e.session) grown_of turns (λ front turn later cut.
      let both = turns_split host old.seen nobody old.patience front (turn ∷ later) (subst (AreTurns host old.seen nobody old.patience) cut play.lined.are) in
      turn_owned front turn later cut both.0 both.1.0)

  stop_owned : (stop : Stop) → play.lined.stop ≡ stop → IsStop host (old.seen ++ grown_by turns) (seating_after nobody turns) (patience_after old.patience turns) play.lined.rest (IsTrue ended) stop → AreOfSessions host.caller every_turn (stop_grown stop)
  stop_owned (Input end) same stops = All-nil (λ (e : Entry). e.caller ≡ host.caller → WasOpened every_turn e.session)
  stop_owned (Refuses refused) same stops = none_owned every_turn host.caller refused.grown (refused_none host.limit (old.seen ++ grown_by turns) refused.grown host.caller refused.fault stops.opens)
  stop_owned (CutUnlabelled line) same stops = All-nil (λ (e : Entry). e.caller ≡ host.caller → WasOpened every_turn e.session)
  stop_owned (CutSpoken spoken) same stops =
      spoken_owned every_turn host (old.seen ++ grown_by turns) (seating_after nobody turns) (patience_after old.patience turns) spoken stops
      (command_opened turns spoken [] [] (ap (λ (s : Stop). turns ++ cut_turn s) same))

  -- ## The sessions that are left

  cut_seat : (stop : Stop) → play.lined.stop ≡ stop → IsStop host (old.seen ++ grown_by turns) (seating_after nobody turns) (patience_after old.patience turns) play.lined.rest (IsTrue ended) stop
      → (label k : ℕ) → IsLabel label → session_at (stop_seating (seating_after nobody turns) stop) label ≡ Some k → WasOpened every_turn k
  cut_seat (Input end) same stops label k is at = since_opened label k turns (cut_turn play.lined.stop) (since_nobody host old.seen old.patience turns play.lined.are label k is at)
  cut_seat (Refuses refused) same stops label k is at = since_opened label k turns (cut_turn play.lined.stop) (since_nobody host old.seen old.patience turns play.lined.are label k is at)
  cut_seat (CutUnlabelled line) same stops label k is at = since_opened label k turns (cut_turn play.lined.stop) (since_nobody host old.seen old.patience turns play.lined.are label k is at)
  cut_seat (CutSpoken spoken) same stops label k is at = elim (read_set (seating_after nobody turns) (spoken.label - 1) (label - 1) k (Some spoken.session) (inside_seats (seating_after nobody turns) spoken.label (size_nobody turns) stops.is_label) at) [
    | inl here ↦ subst (WasOpened every_turn) (some_is spoken.session k here.1) (command_opened turns spoken [] [] (ap (λ (s : Stop). turns ++ cut_turn s) same))
    | inr there ↦ since_opened label k turns (cut_turn play.lined.stop) (since_nobody host old.seen old.patience turns play.lined.are label k is there.1)
  ]

  seats_owned : (seats : List (Option ℕ)) (closing : List Entry) → AreClosed host.caller seats closing → ((at k : ℕ) → get_or seats at None ≡ Some k → WasOpened every_turn k) → AreOfSessions host.caller every_turn closing
  seats_owned [] closing none opened = empty_owned every_turn host.caller closing none
  seats_owned (seat ∷ seats) closing (first, later, cut, closes, rest) opened =
      subst (AreOfSessions host.caller every_turn) (sym cut) (both_owned every_turn host.caller first later
      (closes_owned every_turn host.caller seat first closes (λ k is. opened 0 k is)) (seats_owned seats later rest (λ at k is. opened (suc at) k is)))

  -- the seat at a place is a label's
  seat_label : (seating : List (Option ℕ)) → length seating ≡ last_label → ((label k : ℕ) → IsLabel label → session_at seating label ≡ Some k → WasOpened every_turn k)
      → (at k : ℕ) → get_or seating at None ≡ Some k → WasOpened every_turn k
  seat_label seating size opened at k is = elim (cases_lt at last_label) [
    | inl inside ↦ opened (at + 1) k (omega arith, omega (arith, inside)) (seat_at seating at ∙ is)
    | inr outside ↦ absurd (none_some k (sym (get_or_past seating at None (omega (arith, size, outside))) ∙ is))
  ]

  -- each entry of the caller in what a play added
  pub all_owned : (grown : List Entry) → new.seen ≡ old.seen ++ grown → AreOfSessions host.caller every_turn grown
  all_owned grown is =
      let lined = play.lined in
      let seats = seating_after nobody turns in
      let here = cut_seat lined.stop refl lined.stops in
      let closed = seats_owned play.seating play.closing play.closed (seat_label play.seating (ap length lined.seating ∙ size_stop seats lined.stop (size_nobody turns))
      (λ label k is_label at. here label k is_label (ap (λ (x : List (Option ℕ)). session_at x label) (sym lined.seating) ∙ at))) in
      let added : List Entry = grown_by turns ++ (stop_grown lined.stop ++ play.closing) in
      let whole : old.seen ++ grown ≡ old.seen ++ added =
      sym is ∙ play_history old.seen (grown_by turns) (stop_grown lined.stop) play.closing new.seen play.before_closing lined.history play.history ∙ append_assoc old.seen (grown_by turns) (stop_grown lined.stop ++ play.closing) in
      let same : grown ≡ added = sym (drop-append_seam old.seen grown) ∙ ap (drop (length old.seen)) whole ∙ drop-append_seam old.seen added in
      subst (AreOfSessions host.caller every_turn) (sym same)
      (both_owned every_turn host.caller (grown_by turns) (stop_grown lined.stop ++ play.closing) turns_owned
      (both_owned every_turn host.caller (stop_grown lined.stop) play.closing (stop_owned lined.stop refl lined.stops) closed))
