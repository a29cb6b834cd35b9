-- The sessions of the labels close one after the other.
use Rattle.std.proofs.Common.{◌≡◌, ◌<◌, ◌+◌, ◌-◌, ◌++◌, ◌∷◌, ◌∙◌, [], List, ℕ, suc, Option, None, Some, take, get_or, length, refl, sym, ap, subst, arith, append_assoc, append-nil}
use Rattle.std.proofs.Math.Seq.{take-suc}
use Rattle.q4_machine.specs.declared.entry.Entry.{Entry}
use Rattle.q4_machine.specs.History.{IsLegal, IsOpenFor}
use Rattle.q4_machine.specs.Parts.{Grows}
use Rattle.q4_play.specs.Labels.{IsLabel, session_at, with_seat}
use Rattle.q4_play.specs.Seated.{IsSeated}
use Rattle.q4_play.specs.Turns.{Closes}
use Rattle.q4_play.specs.Plays.{AreClosed}
use Rattle.q4_play.proofs.Placing.{AreLeft, left_closed, seated_left, seated_unset}

-- ## One label

closes_by : (seen grown seen' : List Entry) (caller label : ℕ) (seating : List (Option ℕ)) (seat : Option ℕ) → session_at seating label ≡ seat → seen' ≡ seen ++ grown → Closes caller seat grown → IsLegal seen' → IsLabel label
    → IsSeated seen caller seating → IsSeated seen' caller (with_seat seating label None)
closes_by seen grown seen' caller label seating None at history none legal is_label seated =
    subst (λ (h : List Entry). IsSeated h caller (with_seat seating label None)) (sym (history ∙ ap (λ (h : List Entry). seen ++ h) none ∙ append-nil seen)) (seated_unset seen caller label seating is_label seated)
closes_by seen grown seen' caller label seating (Some s) at history closed legal is_label seated =
    seated_left seen grown seen' caller s label seating history legal closed at is_label seated

pub closes_seat : (seen seen' : List Entry) (caller caller' label : ℕ) (seating seating' : List (Option ℕ)) (seat : Option ℕ) → seat ≡ session_at seating label → caller' ≡ caller → Grows seen seen' (λ closing. Closes caller seat closing)
    → IsLegal seen' → IsLabel label → seating' ≡ with_seat seating label None → IsSeated seen caller seating → IsSeated seen' caller' seating'
closes_seat seen seen' caller caller' label seating seating' seat at by grows legal is_label seats seated =
    subst (λ (c : ℕ). IsSeated seen' c seating') (sym by) (subst (λ (x : List (Option ℕ)). IsSeated seen' caller x) (sym seats)
    (closes_by seen grows.0 seen' caller label seating seat (sym at) grows.1 grows.2 legal is_label seated))

-- the seat of the label behind a place
pub seat_at : (seating : List (Option ℕ)) (place : ℕ) → session_at seating (place + 1) ≡ get_or seating place None
seat_at seating place = let same : place + 1 - 1 ≡ place = omega arith in ap (λ (p : ℕ). get_or seating p None) same

-- ## All labels

closed_push : (caller : ℕ) (seats : List (Option ℕ)) (seat : Option ℕ) (grown more : List Entry) → AreClosed caller seats grown → Closes caller seat more → AreClosed caller (seats ++ seat ∷ []) (grown ++ more)
closed_push caller [] seat grown more none closes = (more, [], ap (λ (h : List Entry). h ++ more) none ∙ sym (append-nil more), closes, refl)
closed_push caller (x ∷ seats) seat grown more (first, later, cut, head, rest) closes =
    (first, later ++ more, ap (λ (h : List Entry). h ++ more) cut ∙ append_assoc first later more, head, closed_push caller seats seat later more rest closes)

-- one more label
pub closed_next : (old seen seen' : List Entry) (caller at : ℕ) (seating : List (Option ℕ)) (seat : Option ℕ) → at < length seating → seat ≡ get_or seating at None → Grows old seen (λ closing. AreClosed caller (take at seating) closing)
    → Grows seen seen' (λ closing. Closes caller seat closing) → Grows old seen' (λ closing. AreClosed caller (take (at + 1) seating) closing)
closed_next old seen seen' caller at seating seat inside is grown more =
    let next : suc at ≡ at + 1 = omega arith in (
      grown.0 ++ more.0,
      more.1 ∙ ap (λ (h : List Entry). h ++ more.0) grown.1 ∙ append_assoc old grown.0 more.0,
      subst (λ (seats : List (Option ℕ)). AreClosed caller seats (grown.0 ++ more.0)) (ap (λ (x : Option ℕ). take at seating ++ x ∷ []) is ∙ sym (take-suc seating at None inside) ∙ ap (λ (n : ℕ). take n seating) next) (closed_push caller (take at seating) seat grown.0 more.0 grown.2 more.2),
    )

left_by : (seen grown seen' h : List Entry) (caller at : ℕ) (seating : List (Option ℕ)) (seat : Option ℕ) → get_or seating at None ≡ seat → seen' ≡ seen ++ grown → Closes caller seat grown → IsLegal seen' → IsSeated h caller seating
    → AreLeft seen caller seating at → AreLeft seen' caller seating (at + 1)
left_by seen grown seen' h caller at seating None is history none legal seated left = λ place k later here.
    subst (λ (x : List Entry). IsOpenFor x caller k) (sym (history ∙ ap (λ (x : List Entry). seen ++ x) none ∙ append-nil seen)) (left place k (omega (arith, later)) here)
left_by seen grown seen' h caller at seating (Some s) is history closed legal seated left = left_closed seen grown seen' caller s at seating h history legal closed is seated left

pub left_next : (seen seen' h : List Entry) (caller at : ℕ) (seating : List (Option ℕ)) (seat : Option ℕ) → seat ≡ get_or seating at None → Grows seen seen' (λ closing. Closes caller seat closing) → IsLegal seen' → IsSeated h caller seating
    → AreLeft seen caller seating at → AreLeft seen' caller seating (at + 1)
left_next seen seen' h caller at seating seat is grows legal seated left = left_by seen grows.0 seen' h caller at seating seat (sym is) grows.1 grows.2 legal seated left
