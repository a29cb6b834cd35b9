-- A command that opens its label's session begins a whole session.
use Rattle.std.proofs.Common.{◌≡◌, ◌<◌, ◌-◌, ◌&&◌, ◌++◌, ◌∷◌, ◌∙◌, ◌⊎◌, [], List, ℕ, Bool, true, cond, Option, Some, None, All, length, get_or, refl, sym, ap, subst, inl, inr, append_assoc, append-nil}
use Rattle.std.specs.Bool.{IsTrue}
use Rattle.std.proofs.lemmas.Bool.{eq-eqb}
use Rattle.std.proofs.lemmas.Grind.{flat_map-append}
use Rattle.std.proofs.lemmas.List.{length-set, length-replicate}
use Rattle.std.proofs.lemmas.List.Elements.{All-cons, All-nil, All-weaker}
use Rattle.q4_machine.specs.declared.entry.Entry.{Entry}
use Rattle.q4_machine.specs.History.{IsLegal}
use Rattle.q4_machine.specs.Parts.{OpensAt, calls_of}
use Rattle.q4_machine.specs.Patience.{PatienceState}
use Rattle.q4_machine.proofs.Histories.{cons_head, cons_tail}
use Rattle.q4_proto.specs.Told as told
use Rattle.q4_proto.specs.Told.{Told, Bye}
use Rattle.q4_session.specs.Exchanges.{IsExchange}
use Rattle.q4_session.specs.Sessions.{Around}
use Rattle.q4_play.specs.declared.plays.PlayEnd.{PlayEnd}
use Rattle.q4_play.specs.Labels.{last_label, nobody, session_at, with_seat}
use Rattle.q4_play.specs.Turns.{Host, Spoken, Turn, Unlabelled, Left, Spoke, IsTurn, IsSpoken, AreTurns, Takes, client_of, spoken_grown, spoken_seating, grown_of, grown_by, behind_outcome, seating_behind, seating_after, patience_behind, patience_after}
use Rattle.q4_play.specs.Plays.{Stop, Input, Refuses, CutUnlabelled, CutSpoken, IsStop, AreClosed, Play, stop_grown, stop_seating}
use Rattle.q4_play.specs.Whole.{cut_turn, all_turns, HasNone, commands_of, commands_behind, calls_in, opening_entry, closing_entry, AreAnswered, IsWholeSession}
use Rattle.q4_play.proofs.Placing.{none_some, some_is, nobody_at, read_set, inside_seats}
use Rattle.q4_play.proofs.Fresh.{AreOthers, IsOwn, all_front, all_back, all_middle, fresh, own_behind}
use Rattle.q4_play.proofs.Own.{own_calls, own_append, own_none, calls_append, calls_others, calls_own}
use Rattle.q4_play.proofs.Seats.{Nowhere, OnlyAt, only_set, closed_only}
use Rattle.q4_play.proofs.Course.{IsLater, Ends, SaidMore, SaidBye, said, said_turn, said_calls, bye_last, size_behind, answered_now, answered_turn, run, gone_run, stop_ends, stop_gone}

-- ## Where a turn stands

-- a cut of two lists is in the first or in the second
pub append_cut : {X : Type 0} (xs ys front : List X) (x : X) (later : List X) → xs ++ ys ≡ front ++ x ∷ later
    → ((mid : List X) × (xs ≡ front ++ x ∷ mid) × (later ≡ mid ++ ys)) ⊎ ((mid : List X) × (front ≡ xs ++ mid) × (ys ≡ mid ++ x ∷ later))
append_cut [] ys front x later is = inr (front, refl, is)
append_cut {X = X} (y ∷ xs) ys [] x later is = inl (xs, ap (λ (z : X). z ∷ xs) (cons_head is), sym (cons_tail is))
append_cut {X = X} (y ∷ xs) ys (f ∷ front) x later is = elim (append_cut xs ys front x later (cons_tail is)) [
  | inl within ↦ inl (within.0, ap (λ (z : X). z ∷ xs) (cons_head is) ∙ ap (λ (zs : List X). f ∷ zs) within.1, within.2)
  | inr behind ↦ inr (behind.0, ap (λ (z : X). z ∷ front) (sym (cons_head is)) ∙ ap (λ (zs : List X). y ∷ zs) behind.1, behind.2)
]

-- the one cut of the command that a stop leaves
pub record CutIs (stop : Stop) (mid : List Turn) (spoken : Spoken) (closing : List Entry) (later : List Turn) : Type 0 where
  pub first : mid ≡ []
  pub stop_is : stop ≡ CutSpoken spoken
  pub none : closing ≡ []
  pub last : later ≡ []

no_middle : {X : Type 0} (mid : List X) (x : X) (later : List X) → [] ≡ mid ++ x ∷ later → ⊥
no_middle [] x later is = cc is
no_middle (m ∷ mid) x later is = cc is

spoken_is : (a b : Spoken) (x y : List Entry) → Spoke a x ≡ Spoke b y → (a ≡ b) × (x ≡ y)
spoken_is a b x y is = (cc is, cc is)

cut_one : (last spoken : Spoken) (mid : List Turn) (closing : List Entry) (later : List Turn) → Spoke last [] ∷ [] ≡ mid ++ Spoke spoken closing ∷ later → CutIs (CutSpoken last) mid spoken closing later
cut_one last spoken [] closing later is =
    let same = spoken_is last spoken [] closing (cons_head is) in
    record { first = refl; stop_is = ap CutSpoken same.0; none = sym same.1; last = sym (cons_tail is) }
cut_one last spoken (m ∷ mid) closing later is = absurd (no_middle mid (Spoke spoken closing) later (cons_tail is))

-- where it stands
pub cut_is : (stop : Stop) (mid : List Turn) (spoken : Spoken) (closing : List Entry) (later : List Turn) → cut_turn stop ≡ mid ++ Spoke spoken closing ∷ later → CutIs stop mid spoken closing later
cut_is (Input how) mid spoken closing later is = absurd (no_middle mid (Spoke spoken closing) later is)
cut_is (Refuses refused) mid spoken closing later is = absurd (no_middle mid (Spoke spoken closing) later is)
cut_is (CutUnlabelled line) mid spoken closing later is = absurd (no_middle mid (Spoke spoken closing) later is)
cut_is (CutSpoken last) mid spoken closing later is = cut_one last spoken mid closing later is

-- the turns before a cut, and those behind it
pub turns_split : (host : Host) (before : List Entry) (seating : List (Option ℕ)) (patience : PatienceState) (front rest : List Turn) → AreTurns host before seating patience (front ++ rest)
    → AreTurns host before seating patience front × AreTurns host (before ++ grown_by front) (seating_after seating front) (patience_after patience front) rest
turns_split host before seating patience [] rest are = (tt, subst (λ (h : List Entry). AreTurns host h seating patience rest) (sym (append-nil before)) are)
turns_split host before seating patience (turn ∷ front) rest are =
    let behind = turns_split host (before ++ grown_of turn) (seating_behind seating turn) (patience_behind patience turn) front rest are.1 in
    ((are.0, behind.0), subst (λ (h : List Entry). AreTurns host h (seating_after (seating_behind seating turn) front) (patience_after (patience_behind patience turn) front) rest) (append_assoc before (grown_of turn) (grown_by front)) behind.1)

seating_split : (seating : List (Option ℕ)) (front rest : List Turn) → seating_after seating (front ++ rest) ≡ seating_after (seating_after seating front) rest
seating_split seating [] rest = refl
seating_split seating (turn ∷ front) rest = seating_split (seating_behind seating turn) front rest

pub size_after : (seating : List (Option ℕ)) (turns : List Turn) → length (seating_after seating turns) ≡ length seating
size_after seating [] = refl
size_after seating (turn ∷ turns) = size_after (seating_behind seating turn) turns ∙ size_behind seating turn

pub size_nobody : (turns : List Turn) → length (seating_after nobody turns) ≡ last_label
size_nobody turns = size_after nobody turns ∙ length-replicate {A = Option ℕ} last_label None

-- ## The sessions that labels have are in the history

-- Each label's session has an entry.
abbrev Known : List Entry → List (Option ℕ) → Type 0
Known history seating = (place k : ℕ) → get_or seating place None ≡ Some k → AreOthers k history → ⊥

known_more : (history more : List Entry) (seating : List (Option ℕ)) → Known history seating → Known (history ++ more) seating
known_more history more seating known place k is others = known place k is (all_front (λ (e : Entry). e.session ≡ k → ⊥) history more others)

known_unset : (history : List Entry) (seating : List (Option ℕ)) (label : ℕ) → label - 1 < length seating → Known history seating → Known history (with_seat seating label None)
known_unset history seating label inside known place k is others = elim (read_set seating (label - 1) place k None inside is) [
  | inl here ↦ none_some k here.1
  | inr there ↦ known place k there.1 others
]

known_outcome : (history : List Entry) (seating : List (Option ℕ)) (label : ℕ) (outcome : Told) → label - 1 < length seating → Known history seating → Known history (behind_outcome seating label outcome)
known_outcome history seating label Bye inside known = known_unset history seating label inside known
known_outcome history seating label told.Ok inside known = known
known_outcome history seating label (told.Number n) inside known = known
known_outcome history seating label (told.Seen mark) inside known = known
known_outcome history seating label (told.Rows rows) inside known = known
known_outcome history seating label (told.Refused code) inside known = known

-- an opening leaves an entry of its session
pub opening_known : (limit : ℕ) (before opening more : List Entry) (c s : ℕ) → OpensAt limit before opening c s → AreOthers s (before ++ (opening ++ more)) → ⊥
opening_known limit before opening more c s opens others =
    let P = λ (e : Entry). e.session ≡ s → ⊥ in
    let here : AreOthers s opening = all_front P opening more (all_back P before (opening ++ more) others) in
    all_middle P opens.front (opening_entry c s) opens.back (subst (AreOthers s) opens.cut here) refl

taken_known : (host : Host) (before opening more : List Entry) (seating : List (Option ℕ)) (place : ℕ) (seat : Option ℕ) (k : ℕ) → get_or seating place None ≡ seat → Takes host before opening seat k → Known before seating
    → AreOthers k (before ++ (opening ++ more)) → ⊥
taken_known host before opening more seating place None k is opens known others = opening_known host.limit before opening more host.caller k opens others
taken_known host before opening more seating place (Some seated) k is takes known others =
    known place k (is ∙ ap Some takes.0) (all_front (λ (e : Entry). e.session ≡ k → ⊥) before (opening ++ more) others)

known_spoken : (host : Host) (before : List Entry) (seating : List (Option ℕ)) (patience : PatienceState) (spoken : Spoken) (closing : List Entry) → length seating ≡ last_label → IsSpoken host before seating patience spoken → Known before seating
    → Known (before ++ grown_of (Spoke spoken closing)) (spoken_seating seating spoken)
known_spoken host before seating patience spoken closing size is known place k at others = elim (read_set seating (spoken.label - 1) place k (Some spoken.session) (inside_seats seating spoken.label size is.is_label) at) [
  | inl here ↦ taken_known host before spoken.opening (spoken.exchange.grown ++ closing) seating (spoken.label - 1) (session_at seating spoken.label) spoken.session refl is.takes known
      (subst (λ (s : ℕ). AreOthers s (before ++ (spoken.opening ++ (spoken.exchange.grown ++ closing)))) (sym (some_is spoken.session k here.1))
      (subst (λ (h : List Entry). AreOthers k (before ++ h)) (append_assoc spoken.opening spoken.exchange.grown closing) others))
  | inr there ↦ known_more before (grown_of (Spoke spoken closing)) seating known place k there.1 others
]

known_turn : (host : Host) (before : List Entry) (seating : List (Option ℕ)) (patience : PatienceState) (turn : Turn) → length seating ≡ last_label → IsTurn host before seating patience turn → Known before seating → Known (before ++ grown_of turn) (seating_behind seating turn)
known_turn host before seating patience (Unlabelled line) size is known = known_more before [] seating known
known_turn host before seating patience (Left label closing) size is known = known_unset (before ++ closing) seating label (inside_seats seating label size is.0) (known_more before closing seating known)
known_turn host before seating patience (Spoke spoken closing) size is known =
    known_outcome (before ++ grown_of (Spoke spoken closing)) (spoken_seating seating spoken) spoken.label spoken.exchange.outcome
    (inside_seats (spoken_seating seating spoken) spoken.label (length-set seating (spoken.label - 1) (Some spoken.session) ∙ size) is.0.is_label)
    (known_spoken host before seating patience spoken closing size is.0 known)

known_turns : (host : Host) (before : List Entry) (seating : List (Option ℕ)) (patience : PatienceState) (turns : List Turn) → length seating ≡ last_label → AreTurns host before seating patience turns → Known before seating
    → Known (before ++ grown_by turns) (seating_after seating turns)
known_turns host before seating patience [] size are known = known_more before [] seating known
known_turns host before seating patience (turn ∷ turns) size are known =
    subst (λ (h : List Entry). Known h (seating_after (seating_behind seating turn) turns)) (append_assoc before (grown_of turn) (grown_by turns))
    (known_turns host (before ++ grown_of turn) (seating_behind seating turn) (patience_behind patience turn) turns (size_behind seating turn ∙ size) are.1 (known_turn host before seating patience turn size are.0 known))

-- at the end of any turns of a play
known_nobody : (host : Host) (before : List Entry) (patience : PatienceState) (turns : List Turn) → AreTurns host before nobody patience turns → Known (before ++ grown_by turns) (seating_after nobody turns)
known_nobody host before patience turns are =
    known_turns host before nobody patience turns (length-replicate {A = Option ℕ} last_label None) are (λ place k is others. none_some k (sym (nobody_at place) ∙ is))

-- ## From the opening on

-- an opening, the first command, and what stands behind them
record Begins (host : Host) (history : List Entry) (first : Spoken) (rest : List Spoken) : Type 0 where
  before : List Entry
  after : List Entry
  cut : history ≡ before ++ (first.opening ++ (first.exchange.grown ++ after))
  opens : OpensAt host.limit before first.opening host.caller first.session
  answered : AreAnswered host history first.session (before ++ first.opening) (first ∷ rest)
  later : All (IsLater first.session) rest
  calls : own_calls first.session host.caller (first.exchange.grown ++ after) ≡ said host.caller (first ∷ rest) ++ closing_entry host.caller first.session ∷ []

-- the history cut at the entry of the opening
pub opening_cut : (limit : ℕ) (history before opening after : List Entry) (c s : ℕ) (opens : OpensAt limit before opening c s) → history ≡ before ++ (opening ++ after)
    → history ≡ (before ++ opens.front) ++ opening_entry c s ∷ (opens.back ++ after)
opening_cut limit history before opening after c s opens is =
    is ∙ ap (λ (h : List Entry). before ++ (h ++ after)) opens.cut ∙ ap (λ (h : List Entry). before ++ h) (append_assoc opens.front (opening_entry c s ∷ opens.back) after)
    ∙ sym (append_assoc before opens.front (opening_entry c s ∷ (opens.back ++ after)))

-- the entries of the session behind its opening are its opener's
opened_own : (limit : ℕ) (history before opening after : List Entry) (c s : ℕ) → IsLegal history → OpensAt limit before opening c s → history ≡ before ++ (opening ++ after) → All (IsOwn c s) after
opened_own limit history before opening after c s legal opens is =
    all_back (IsOwn c s) opens.back after (own_behind history legal (before ++ opens.front) (opening_entry c s) (opens.back ++ after) (opening_cut limit history before opening after c s opens is) refl)

-- the calls of the session are its opening and what is behind
opened_calls : (limit : ℕ) (history before opening after : List Entry) (c s : ℕ) → IsLegal history → OpensAt limit before opening c s → history ≡ before ++ (opening ++ after) → calls_in s history ≡ opening_entry c s ∷ own_calls s c after
opened_calls limit history before opening after c s legal opens is =
    let e : Entry = opening_entry c s in
    let behind : List Entry = opens.back ++ after in
    let whole : history ≡ (before ++ opens.front) ++ e ∷ behind = opening_cut limit history before opening after c s opens is in
    let none : calls_in s (before ++ opens.front) ≡ [] = calls_others s (before ++ opens.front) (fresh history legal (before ++ opens.front) e behind whole refl) in
    let own : calls_in s behind ≡ own_calls s c behind = calls_own s c behind (own_behind history legal (before ++ opens.front) e behind whole refl) in
    ap (calls_in s) whole ∙ calls_append s (before ++ opens.front) (e ∷ behind) ∙ ap (λ (h : List Entry). h ++ calls_in s (e ∷ behind)) none
    ∙ ap (λ (b : Bool). cond (b && true) (e ∷ calls_in s behind) (calls_in s behind)) (eq-eqb s s refl)
    ∙ ap (λ (h : List Entry). e ∷ h) (own ∙ own_append s c opens.back after ∙ ap (λ (h : List Entry). h ++ own_calls s c after) (own_none s c opens.back opens.none_back))

whole_of : (host : Host) (history : List Entry) (first : Spoken) (rest : List Spoken) → IsLegal history → Begins host history first rest → IsWholeSession host history first.session first rest
whole_of host history first rest legal begins =
    let s = first.session in
    let after : List Entry = first.exchange.grown ++ begins.after in
    record {
      same = All-cons (λ (x : Spoken). x.session ≡ s) first rest refl (All-weaker (IsLater s) (λ (x : Spoken). x.session ≡ s) (λ x is. is.same) rest begins.later);
      opened = record { before = begins.before; later = after; cut = begins.cut ∙ sym (append_assoc begins.before first.opening after); opens = begins.opens };
      once = All-weaker (IsLater s) (λ (x : Spoken). x.opening ≡ []) (λ x is. is.once) rest begins.later;
      answered = begins.answered;
      calls = opened_calls host.limit history begins.before first.opening after host.caller s legal begins.opens begins.cut ∙ ap (λ (h : List Entry). opening_entry host.caller s ∷ h) begins.calls;
    }

-- the parts of a turn, and what is behind it
pub regroup : (history before opening answered closing grown tail : List Entry) → history ≡ before ++ ((((opening ++ answered) ++ closing) ++ grown) ++ tail) → history ≡ before ++ (opening ++ (answered ++ (closing ++ (grown ++ tail))))
regroup history before opening answered closing grown tail is = is ∙ ap (λ (h : List Entry). before ++ h) (parts opening answered closing grown tail) where
  parts : (opening answered closing grown tail : List Entry) → (((opening ++ answered) ++ closing) ++ grown) ++ tail ≡ opening ++ (answered ++ (closing ++ (grown ++ tail)))
  parts opening answered closing grown tail = simp append_assoc

-- a session that opens here is no label's
fresh_seat : (limit : ℕ) (history before opening after : List Entry) (seating : List (Option ℕ)) (c s : ℕ) → IsLegal history → OpensAt limit before opening c s → history ≡ before ++ (opening ++ after) → Known before seating → Nowhere s seating
fresh_seat limit history before opening after seating c s legal opens is known place at =
    known place s at (all_front (λ (e : Entry). e.session ≡ s → ⊥) before opens.front
    (fresh history legal (before ++ opens.front) (opening_entry c s) (opens.back ++ after) (opening_cut limit history before opening after c s opens is) refl))

-- the first command, and what ends behind it
calls_more : (s c : ℕ) (grown closing more : List Entry) (first : Spoken) (some : List Spoken) → grown ≡ first.exchange.grown → own_calls s c (grown ++ closing) ≡ calls_of c first.exchange.grown
    → own_calls s c more ≡ said c some ++ closing_entry c s ∷ [] → own_calls s c (grown ++ (closing ++ more)) ≡ said c (first ∷ some) ++ closing_entry c s ∷ []
calls_more s c grown closing more first some is here later =
    ap (own_calls s c) (sym (append_assoc grown closing more)) ∙ own_append s c (grown ++ closing) more
    ∙ ap (λ (h : List Entry). h ++ own_calls s c more) here ∙ ap (λ (h : List Entry). calls_of c first.exchange.grown ++ h) later
    ∙ sym (append_assoc (calls_of c first.exchange.grown) (said c some) (closing_entry c s ∷ []))

calls_last : (s c : ℕ) (grown closing more : List Entry) (first : Spoken) → own_calls s c (grown ++ closing) ≡ calls_of c first.exchange.grown ++ closing_entry c s ∷ []
    → own_calls s c more ≡ [] → own_calls s c (grown ++ (closing ++ more)) ≡ said c (first ∷ []) ++ closing_entry c s ∷ []
calls_last s c grown closing more first here none =
    ap (own_calls s c) (sym (append_assoc grown closing more)) ∙ own_append s c (grown ++ closing) more
    ∙ ap (λ (h : List Entry). own_calls s c (grown ++ closing) ++ h) none ∙ append-nil (own_calls s c (grown ++ closing))
    ∙ here ∙ ap (λ (h : List Entry). h ++ closing_entry c s ∷ []) (sym (append-nil (calls_of c first.exchange.grown)))

-- what stands behind the turns of a play: its stop and the closing of all labels
record Stopped (host : Host) (history before : List Entry) (seating : List (Option ℕ)) (stop : Stop) (closing : List Entry) : Type 1 where
  patience : PatienceState
  rest : List ℕ
  ended : Type 0
  stops : IsStop host before seating patience rest ended stop
  closed : AreClosed host.caller (stop_seating seating stop) closing
  cut : history ≡ before ++ (stop_grown stop ++ closing)

turn_behind : (history before here grown tail : List Entry) → history ≡ before ++ ((here ++ grown) ++ tail) → history ≡ (before ++ here) ++ (grown ++ tail)
turn_behind history before here grown tail is = is ∙ ap (λ (h : List Entry). before ++ h) (append_assoc here grown tail) ∙ sym (append_assoc before here (grown ++ tail))

-- the session goes on behind its first command
begins_more : (host : Host) (history before : List Entry) (patience : PatienceState) (seats : List (Option ℕ)) (first : Spoken) (closing more : List Entry) (turns : List Turn) → history ≡ before ++ (first.opening ++ (first.exchange.grown ++ (closing ++ more)))
    → OpensAt host.limit before first.opening host.caller first.session → IsExchange (client_of host first.session) (before ++ first.opening) patience first.exchange → SaidMore host first.session seats first closing → Ends host history first.session first.label (before ++ grown_of (Spoke first closing)) more turns
    → Begins host history first (commands_behind first turns)
begins_more host history before patience seats first closing more turns cut opens answers goes ends = subst (Begins host history first) (sym (goes.more (commands_of first.label turns) ∙ ends.commands)) (record {
  before = before;
  after = closing ++ more;
  cut = cut;
  opens = opens;
  answered = answered_turn host history before patience first first.session closing more ends.some cut answers refl ends.answered;
  later = ends.are;
  calls = calls_more first.session host.caller first.exchange.grown closing more first ends.some refl goes.calls ends.calls;
})

-- its first command is its last
begins_bye : (host : Host) (history before : List Entry) (patience : PatienceState) (seats : List (Option ℕ)) (first : Spoken) (closing more : List Entry) (turns : List Turn) → history ≡ before ++ (first.opening ++ (first.exchange.grown ++ (closing ++ more)))
    → OpensAt host.limit before first.opening host.caller first.session → IsExchange (client_of host first.session) (before ++ first.opening) patience first.exchange → SaidBye host first.session seats first closing → own_calls first.session host.caller more ≡ []
    → Begins host history first (commands_behind first turns)
begins_bye host history before patience seats first closing more turns cut opens answers bye over = subst (Begins host history first) (sym (bye.last (commands_of first.label turns))) (record {
  before = before;
  after = closing ++ more;
  cut = cut;
  opens = opens;
  answered = answered_turn host history before patience first first.session closing more [] cut answers refl tt;
  later = All-nil (IsLater first.session);
  calls = calls_last first.session host.caller first.exchange.grown closing more first bye.calls over;
})

-- the opening command is one of the turns
begins_turns : (host : Host) (history before : List Entry) (seating : List (Option ℕ)) (patience : PatienceState) (first : Spoken) (closing : List Entry) (turns : List Turn) (stop : Stop) (end : List Entry) → IsLegal history → length seating ≡ last_label
    → AreTurns host before seating patience (Spoke first closing ∷ turns) → Stopped host history (before ++ grown_by (Spoke first closing ∷ turns)) (seating_after seating (Spoke first closing ∷ turns)) stop end
    → history ≡ before ++ (grown_by (Spoke first closing ∷ turns) ++ (stop_grown stop ++ end)) → Known before seating → session_at seating first.label ≡ None
    → Begins host history first (commands_behind first (turns ++ cut_turn stop))
begins_turns host history before seating patience first closing turns stop end legal size are stopped is known none =
    let c = host.caller in
    let s = first.session in
    let label = first.label in
    let P = IsOwn c s in
    let exchange = first.exchange in
    let tail : List Entry = stop_grown stop ++ end in
    let more : List Entry = grown_by turns ++ tail in
    let at : List Entry = before ++ grown_by (Spoke first closing ∷ turns) in
    let here : List Entry = grown_of (Spoke first closing) in
    let opens : OpensAt host.limit before first.opening c s = subst (λ (seat : Option ℕ). Takes host before first.opening seat s) none are.0.0.takes in
    let cut : history ≡ before ++ (first.opening ++ (exchange.grown ++ (closing ++ more))) = regroup history before first.opening exchange.grown closing (grown_by turns) tail is in
    let own : All P (exchange.grown ++ (closing ++ more)) = opened_own host.limit history before first.opening (exchange.grown ++ (closing ++ more)) c s legal opens cut in
    let own_more : All P more = all_back P closing more (all_back P exchange.grown (closing ++ more) own) in
    let own_tail : All P tail = all_back P (grown_by turns) tail own_more in
    let nowhere : Nowhere s seating = fresh_seat host.limit history before first.opening (exchange.grown ++ (closing ++ more)) seating c s legal opens cut known in
    let seating' : List (Option ℕ) = seating_behind seating (Spoke first closing) in
    let size' : length seating' ≡ last_label = size_behind seating (Spoke first closing) ∙ size in
    let size_end : length (seating_after seating' turns) ≡ last_label = size_after seating' turns ∙ size' in
    let behind : history ≡ (before ++ here) ++ more = turn_behind history before here (grown_by turns) tail is in
    let gone : Nowhere s (seating_after seating' turns) → own_calls s c tail ≡ [] = stop_gone host s at (seating_after seating' turns) stopped.patience stopped.rest stopped.ended stop end size_end stopped.stops stopped.closed own_tail in
    let ends : OnlyAt s (label - 1) (seating_after seating' turns) → Ends host history s label at tail (cut_turn stop) =
    stop_ends host history s label at (seating_after seating' turns) stopped.patience stopped.rest stopped.ended stop end size_end are.0.0.is_label stopped.stops stopped.closed stopped.cut own_tail in
    elim (said_turn host (before ++ first.opening) patience seating first closing s size are.0.0.is_label are.0.0.exchanges are.0.1 refl (λ place at. absurd (nowhere place at))) [
      | inl goes ↦ begins_more host history before patience seating' first closing more (turns ++ cut_turn stop) cut opens are.0.0.exchanges goes
          (run host history s label at tail (cut_turn stop) (before ++ here) seating' (patience_behind patience (Spoke first closing)) turns size' are.0.0.is_label are.1 behind own_more goes.seat ends gone (sym (append_assoc before here (grown_by turns))))
      | inr bye ↦ begins_bye host history before patience seating' first closing more (turns ++ cut_turn stop) cut opens are.0.0.exchanges bye
          (gone_run host s tail (before ++ here) seating' (patience_behind patience (Spoke first closing)) turns size' are.1 own_more bye.gone gone)
    ]

-- the opening command is the one whose reply the sink did not take
begins_cut : (host : Host) (history before : List Entry) (seating : List (Option ℕ)) (patience : PatienceState) (first : Spoken) (end : List Entry) → IsLegal history → length seating ≡ last_label → IsSpoken host before seating patience first
    → AreClosed host.caller (spoken_seating seating first) end → history ≡ before ++ (spoken_grown first ++ end) → Known before seating → session_at seating first.label ≡ None → Begins host history first []
begins_cut host history before seating patience first end legal size is closed cut known none =
    let c = host.caller in
    let s = first.session in
    let at = first.label - 1 in
    let exchange = first.exchange in
    let opens : OpensAt host.limit before first.opening c s = subst (λ (seat : Option ℕ). Takes host before first.opening seat s) none is.takes in
    let whole : history ≡ before ++ (first.opening ++ (exchange.grown ++ end)) = cut ∙ ap (λ (h : List Entry). before ++ h) (append_assoc first.opening exchange.grown end) in
    let nowhere : Nowhere s seating = fresh_seat host.limit history before first.opening (exchange.grown ++ end) seating c s legal opens whole known in
    let seated : OnlyAt s at (spoken_seating seating first) = only_set s at seating (inside_seats seating first.label size is.is_label) (λ place here. absurd (nowhere place here)) in
    record {
      before = before;
      after = end;
      cut = whole;
      opens = opens;
      answered = answered_now host history (before ++ first.opening) patience first s end [] (whole ∙ sym (append_assoc before first.opening (exchange.grown ++ end))) is.exchanges refl tt;
      later = All-nil (IsLater s);
      calls = own_append s c exchange.grown end
          ∙ ap (λ (h : List Entry). h ++ own_calls s c end) (said_calls host (before ++ first.opening) patience first s is.exchanges refl ∙ sym (append-nil (calls_of c exchange.grown)))
          ∙ ap (λ (h : List Entry). said c (first ∷ []) ++ h) (closed_only s c at (spoken_seating seating first) end closed seated);
    }

-- ## Any play

-- the history of a play cut behind its turns
pub play_history : (old grown stopped closing new before : List Entry) → before ≡ (old ++ grown) ++ stopped → new ≡ before ++ closing → new ≡ (old ++ grown) ++ (stopped ++ closing)
play_history old grown stopped closing new before is more = more ∙ ap (λ (h : List Entry). h ++ closing) is ∙ append_assoc (old ++ grown) stopped closing

-- the history cut at a turn
pub moved : (old front here grown tail new : List Entry) → new ≡ (old ++ grown) ++ tail → grown ≡ front ++ here → new ≡ (old ++ front) ++ (here ++ tail)
moved old front here grown tail new is cut =
    is ∙ ap (λ (h : List Entry). (old ++ h) ++ tail) cut ∙ ap (λ (h : List Entry). h ++ tail) (sym (append_assoc old front here)) ∙ append_assoc (old ++ front) here tail

in_turns : (host : Host) (old : Around) (history : List Entry) (turns : List Turn) (stop : Stop) (end : List Entry) (front mid : List Turn) (first : Spoken) (closing : List Entry) → IsLegal history → AreTurns host old.seen nobody old.patience turns
    → Stopped host history (old.seen ++ grown_by turns) (seating_after nobody turns) stop end → history ≡ (old.seen ++ grown_by turns) ++ (stop_grown stop ++ end) → turns ≡ front ++ Spoke first closing ∷ mid → HasNone front first.label
    → Begins host history first (commands_behind first (mid ++ cut_turn stop))
in_turns host old history turns stop end front mid first closing legal are stopped is cut none =
    let here : List Turn = Spoke first closing ∷ mid in
    let both = turns_split host old.seen nobody old.patience front here (subst (AreTurns host old.seen nobody old.patience) cut are) in
    let seats : seating_after nobody turns ≡ seating_after (seating_after nobody front) here = ap (seating_after nobody) cut ∙ seating_split nobody front here in
    let grown : grown_by turns ≡ grown_by front ++ grown_by here = ap grown_by cut ∙ flat_map-append grown_of front here in
    begins_turns host history (old.seen ++ grown_by front) (seating_after nobody front) (patience_after old.patience front) first closing mid stop end legal (size_nobody front) both.1
    (subst (λ (h : List Entry). Stopped host history h (seating_after (seating_after nobody front) here) stop end) (ap (λ (h : List Entry). old.seen ++ h) grown ∙ sym (append_assoc old.seen (grown_by front) (grown_by here)))
    (subst (λ (x : List (Option ℕ)). Stopped host history (old.seen ++ grown_by turns) x stop end) seats stopped))
    (moved old.seen (grown_by front) (grown_by here) (grown_by turns) (stop_grown stop ++ end) history is grown) (known_nobody host old.seen old.patience front both.0) none

in_cut : (host : Host) (old : Around) (history : List Entry) (turns : List Turn) (stop : Stop) (end : List Entry) (front : List Turn) (first : Spoken) → IsLegal history → AreTurns host old.seen nobody old.patience turns → (patience : PatienceState)
    → IsSpoken host (old.seen ++ grown_by turns) (seating_after nobody turns) patience first → AreClosed host.caller (spoken_seating (seating_after nobody turns) first) end → history ≡ (old.seen ++ grown_by turns) ++ (spoken_grown first ++ end)
    → front ≡ turns → HasNone front first.label → Begins host history first []
in_cut host old history turns stop end front first legal are patience is closed cut same none =
    begins_cut host history (old.seen ++ grown_by turns) (seating_after nobody turns) patience first end legal (size_nobody turns) is closed cut (known_nobody host old.seen old.patience turns are) (subst (λ (ts : List Turn). HasNone ts first.label) same none)

-- every opening command begins a whole session
pub whole_session : (host : Host) (old new : Around) (ended : Bool) (how : PlayEnd) (play : Play host old new (IsTrue ended) how) (front later : List Turn) (first : Spoken) (closing : List Entry) → IsLegal new.seen
    → all_turns play.lined.turns play.lined.stop ≡ front ++ Spoke first closing ∷ later → HasNone front first.label → IsWholeSession host new.seen first.session first (commands_behind first later)
whole_session host old new ended how play front later first closing legal cut none =
    let lined = play.lined in
    let turns = lined.turns in
    let stop = lined.stop in
    let seats : List (Option ℕ) = seating_after nobody turns in
    let is : new.seen ≡ (old.seen ++ grown_by turns) ++ (stop_grown stop ++ play.closing) = play_history old.seen (grown_by turns) (stop_grown stop) play.closing new.seen play.before_closing lined.history play.history in
    let closed : AreClosed host.caller (stop_seating seats stop) play.closing = subst (λ (x : List (Option ℕ)). AreClosed host.caller x play.closing) lined.seating play.closed in
    let rest = commands_behind first in
    whole_of host new.seen first (rest later) legal (elim (append_cut turns (cut_turn stop) front (Spoke first closing) later cut) [
      | inl within ↦
          let stopped : Stopped host new.seen (old.seen ++ grown_by turns) seats stop play.closing = record {
            patience = patience_after old.patience turns;
            rest = lined.rest;
            ended = IsTrue ended;
            stops = lined.stops;
            closed = closed;
            cut = is;
          } in
          subst (λ (ts : List Turn). Begins host new.seen first (rest ts)) (sym within.2) (in_turns host old new.seen turns stop play.closing front within.0 first closing legal lined.are stopped is within.1 none)
      | inr behind ↦
          let at = cut_is stop behind.0 first closing later behind.2 in
          let spoken : IsSpoken host (old.seen ++ grown_by turns) seats (patience_after old.patience turns) first = subst (IsStop host (old.seen ++ grown_by turns) seats (patience_after old.patience turns) lined.rest (IsTrue ended)) at.stop_is lined.stops in
          let last : Begins host new.seen first [] = in_cut host old new.seen turns stop play.closing front first legal lined.are (patience_after old.patience turns) spoken
          (subst (λ (x : Stop). AreClosed host.caller (stop_seating seats x) play.closing) at.stop_is closed) (subst (λ (x : Stop). new.seen ≡ (old.seen ++ grown_by turns) ++ (stop_grown x ++ play.closing)) at.stop_is is)
          (behind.1 ∙ ap (λ (ts : List Turn). turns ++ ts) at.first ∙ append-nil turns) none in
          subst (Begins host new.seen first) (sym (ap rest at.last ∙ bye_last first.exchange.outcome)) last
    ])
