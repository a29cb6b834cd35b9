-- Two commands that open sessions open two.
use Rattle.std.proofs.Common.{◌≡◌, ◌++◌, ◌∷◌, ◌∙◌, ◌⊎◌, [], List, ℕ, Bool, Option, refl, sym, ap, subst, inl, inr, append_assoc, append-nil}
use Rattle.std.specs.Bool.{IsTrue}
use Rattle.std.proofs.lemmas.Grind.{flat_map-append}
use Rattle.q4_machine.specs.declared.entry.Entry.{Entry}
use Rattle.q4_machine.specs.History.{IsLegal}
use Rattle.q4_machine.specs.Parts.{OpensAt}
use Rattle.q4_machine.proofs.Histories.{cons_head, cons_tail}
use Rattle.q4_session.specs.Sessions.{Around}
use Rattle.q4_play.specs.declared.plays.PlayEnd.{PlayEnd}
use Rattle.q4_play.specs.Labels.{nobody}
use Rattle.q4_play.specs.Turns.{Host, Spoken, Turn, Spoke, IsSpoken, AreTurns, Takes, spoken_grown, grown_of, grown_by, seating_after, patience_after}
use Rattle.q4_play.specs.Plays.{Stop, IsStop, Play, stop_grown}
use Rattle.q4_play.specs.Whole.{cut_turn, all_turns, HasNone, opening_entry}
use Rattle.q4_play.proofs.Fresh.{AreOthers, all_front, fresh}
use Rattle.q4_play.proofs.Wholes.{append_cut, cut_is, turns_split, regroup, moved, play_history, opening_cut, opening_known}

-- two cuts of one list are one, or one is before the other
cuts_apart : {X : Type 0} (front other : List X) (x y : X) (later more : List X) → front ++ x ∷ later ≡ other ++ y ∷ more
    → (front ≡ other) ⊎ (((mid : List X) × (other ≡ front ++ x ∷ mid)) ⊎ ((mid : List X) × (front ≡ other ++ y ∷ mid)))
cuts_apart [] [] x y later more is = inl refl
cuts_apart {X = X} [] (o ∷ other) x y later more is = inr (inl (other, ap (λ (z : X). z ∷ other) (sym (cons_head is))))
cuts_apart {X = X} (f ∷ front) [] x y later more is = inr (inr (front, ap (λ (z : X). z ∷ front) (cons_head is)))
cuts_apart {X = X} (f ∷ front) (o ∷ other) x y later more is = elim (cuts_apart front other x y later more (cons_tail is)) [
  | inl same ↦ inl (ap (λ (z : X). z ∷ front) (cons_head is) ∙ ap (λ (zs : List X). o ∷ zs) same)
  | inr apart ↦ inr (elim apart [
    | inl behind ↦ inl (behind.0, ap (λ (z : X). z ∷ other) (sym (cons_head is)) ∙ ap (λ (zs : List X). f ∷ zs) behind.1)
    | inr behind ↦ inr (behind.0, ap (λ (z : X). z ∷ front) (cons_head is) ∙ ap (λ (zs : List X). o ∷ zs) behind.1)
  ])
]

-- where a command opened its session
record OpenedAt (host : Host) (history before : List Entry) (first : Spoken) : Type 0 where
  after : List Entry
  cut : history ≡ before ++ (first.opening ++ after)
  opens : OpensAt host.limit before first.opening host.caller first.session

in_turns : (host : Host) (old : Around) (history : List Entry) (turns : List Turn) (tail : List Entry) (front mid : List Turn) (first : Spoken) (closing : List Entry) → AreTurns host old.seen nobody old.patience turns
    → history ≡ (old.seen ++ grown_by turns) ++ tail → turns ≡ front ++ Spoke first closing ∷ mid → HasNone front first.label → OpenedAt host history (old.seen ++ grown_by front) first
in_turns host old history turns tail front mid first closing are is cut none =
    let here : List Turn = Spoke first closing ∷ mid in
    let both = turns_split host old.seen nobody old.patience front here (subst (AreTurns host old.seen nobody old.patience) cut are) in
    let grown : grown_by turns ≡ grown_by front ++ grown_by here = ap grown_by cut ∙ flat_map-append grown_of front here in
    record {
      after = first.exchange.grown ++ (closing ++ (grown_by mid ++ tail));
      cut = regroup history (old.seen ++ grown_by front) first.opening first.exchange.grown closing (grown_by mid) tail (moved old.seen (grown_by front) (grown_by here) (grown_by turns) tail history is grown);
      opens = subst (λ (seat : Option ℕ). Takes host (old.seen ++ grown_by front) first.opening seat first.session) none both.1.0.0.takes;
    }

in_cut : (host : Host) (old : Around) (history : List Entry) (turns front : List Turn) (end : List Entry) (first : Spoken) → IsSpoken host (old.seen ++ grown_by turns) (seating_after nobody turns) (patience_after old.patience turns) first
    → history ≡ (old.seen ++ grown_by turns) ++ (spoken_grown first ++ end) → turns ≡ front → HasNone front first.label → OpenedAt host history (old.seen ++ grown_by front) first
in_cut host old history turns front end first is cut same none = subst (λ (ts : List Turn). OpenedAt host history (old.seen ++ grown_by ts) first) same (record {
  after = first.exchange.grown ++ end;
  cut = cut ∙ ap (λ (h : List Entry). (old.seen ++ grown_by turns) ++ h) (append_assoc first.opening first.exchange.grown end);
  opens = subst (λ (seat : Option ℕ). Takes host (old.seen ++ grown_by turns) first.opening seat first.session) (subst (λ (ts : List Turn). HasNone ts first.label) (sym same) none) is.takes;
})

opened_at : (host : Host) (old new : Around) (ended : Bool) (how : PlayEnd) (play : Play host old new (IsTrue ended) how) (front later : List Turn) (first : Spoken) (closing : List Entry)
    → all_turns play.lined.turns play.lined.stop ≡ front ++ Spoke first closing ∷ later → HasNone front first.label → OpenedAt host new.seen (old.seen ++ grown_by front) first
opened_at host old new ended how play front later first closing cut none =
    let lined = play.lined in
    let turns = lined.turns in
    let stop = lined.stop in
    let is : new.seen ≡ (old.seen ++ grown_by turns) ++ (stop_grown stop ++ play.closing) = play_history old.seen (grown_by turns) (stop_grown stop) play.closing new.seen play.before_closing lined.history play.history in
    elim (append_cut turns (cut_turn stop) front (Spoke first closing) later cut) [
      | inl within ↦ in_turns host old new.seen turns (stop_grown stop ++ play.closing) front within.0 first closing lined.are is within.1 none
      | inr behind ↦
          let at = cut_is stop behind.0 first closing later behind.2 in
          in_cut host old new.seen turns front play.closing first
          (subst (IsStop host (old.seen ++ grown_by turns) (seating_after nobody turns) (patience_after old.patience turns) lined.rest (IsTrue ended)) at.stop_is lined.stops)
          (subst (λ (x : Stop). new.seen ≡ (old.seen ++ grown_by turns) ++ (stop_grown x ++ play.closing)) at.stop_is is)
          (sym (behind.1 ∙ ap (λ (ts : List Turn). turns ++ ts) at.first ∙ append-nil turns)) none
    ]

-- what the turns before a later command made
grown_past : (old : List Entry) (front mid : List Turn) (first : Spoken) (closing : List Entry) → old ++ grown_by (front ++ Spoke first closing ∷ mid) ≡ (old ++ grown_by front) ++ (first.opening ++ (first.exchange.grown ++ (closing ++ grown_by mid)))
grown_past old front mid first closing =
    ap (λ (h : List Entry). old ++ h) (flat_map-append grown_of front (Spoke first closing ∷ mid)) ∙ parts old (grown_by front) first.opening first.exchange.grown closing (grown_by mid) where
      parts : (old front opening grown closing mid : List Entry) → old ++ (front ++ (((opening ++ grown) ++ closing) ++ mid)) ≡ (old ++ front) ++ (opening ++ (grown ++ (closing ++ mid)))
      parts old front opening grown closing mid = simp append_assoc

-- a later one opens another session
opens_another : (host : Host) (history old : List Entry) (front mid other_front : List Turn) (first other : Spoken) (closing : List Entry) → IsLegal history → OpenedAt host history (old ++ grown_by front) first → OpenedAt host history (old ++ grown_by other_front) other
    → other_front ≡ front ++ Spoke first closing ∷ mid → first.session ≡ other.session → ⊥
opens_another host history old front mid other_front first other closing legal opened also behind same =
    let before : List Entry = old ++ grown_by other_front in
    let P = λ (e : Entry). e.session ≡ other.session → ⊥ in
    let others : AreOthers other.session before = all_front P before also.opens.front
    (fresh history legal (before ++ also.opens.front) (opening_entry host.caller other.session) (also.opens.back ++ also.after) (opening_cut host.limit history before other.opening also.after host.caller other.session also.opens also.cut) refl) in
    opening_known host.limit (old ++ grown_by front) first.opening (first.exchange.grown ++ (closing ++ grown_by mid)) host.caller first.session opened.opens
    (subst (λ (s : ℕ). AreOthers s ((old ++ grown_by front) ++ (first.opening ++ (first.exchange.grown ++ (closing ++ grown_by mid))))) (sym same)
    (subst (AreOthers other.session) (ap (λ (ts : List Turn). old ++ grown_by ts) behind ∙ grown_past old front mid first closing) others))

-- two commands that open one session are one
pub sessions_apart : (host : Host) (old new : Around) (ended : Bool) (how : PlayEnd) (play : Play host old new (IsTrue ended) how) (front later other_front other_later : List Turn) (first other : Spoken) (closing other_closing : List Entry) → IsLegal new.seen
    → all_turns play.lined.turns play.lined.stop ≡ front ++ Spoke first closing ∷ later → HasNone front first.label → all_turns play.lined.turns play.lined.stop ≡ other_front ++ Spoke other other_closing ∷ other_later → HasNone other_front other.label
    → first.session ≡ other.session → front ≡ other_front
sessions_apart host old new ended how play front later other_front other_later first other closing other_closing legal cut none other_cut other_none same =
    let here = opened_at host old new ended how play front later first closing cut none in
    let there = opened_at host old new ended how play other_front other_later other other_closing other_cut other_none in
    elim (cuts_apart front other_front (Spoke first closing) (Spoke other other_closing) later other_later (sym cut ∙ other_cut)) [
      | inl one ↦ one
      | inr apart ↦ elim apart [
        | inl behind ↦ absurd (opens_another host new.seen old.seen front behind.0 other_front first other closing legal here there behind.1 same)
        | inr behind ↦ absurd (opens_another host new.seen old.seen other_front behind.0 front other first other_closing legal there here behind.1 (sym same))
      ]
    ]
