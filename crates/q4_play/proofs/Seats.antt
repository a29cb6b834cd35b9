-- Which label has a session, and what the closing of all labels closes.
use Rattle.std.proofs.Common.{◌≡◌, ◌<◌, ◌-◌, ◌++◌, ◌∷◌, ◌∙◌, [], List, ℕ, zero, suc, Option, Some, None, length, get_or, set, sym, ap, subst, arith, inl, inr}
use Rattle.std.proofs.lemmas.List.{get_or-set_same, get_or-set_other, get_or_past}
use Rattle.q4_machine.specs.declared.entry.Entry.{Entry}
use Rattle.q4_play.specs.Labels.{IsLabel}
use Rattle.q4_play.specs.Turns.{Closes}
use Rattle.q4_play.specs.Plays.{AreClosed}
use Rattle.q4_play.specs.Whole.{closing_entry}
use Rattle.q4_play.proofs.Placing.{none_some, read_set}
use Rattle.q4_play.proofs.Own.{own_calls, own_append, own_closed, own_empty, closes_other}

-- No label has the session.
abbrev pub Nowhere : ℕ → List (Option ℕ) → Type 0
Nowhere s seating = (place : ℕ) → get_or seating place None ≡ Some s → ⊥

-- The session is at this place, if anywhere.
abbrev pub AtMost : ℕ → ℕ → List (Option ℕ) → Type 0
AtMost s place seating = (other : ℕ) → get_or seating other None ≡ Some s → other ≡ place

-- The session is at this place and at no other.
pub record OnlyAt (s place : ℕ) (seating : List (Option ℕ)) : Type 0 where
  pub here : get_or seating place None ≡ Some s
  pub only : AtMost s place seating

-- ## Seats that change

pub only_set : (s at : ℕ) (seating : List (Option ℕ)) → at < length seating → AtMost s at seating → OnlyAt s at (set seating at (Some s))
only_set s at seating inside only = record {
  here = get_or-set_same seating at (Some s) None inside;
  only = λ other is. elim (read_set seating at other s (Some s) inside is) [ inl here ↦ here.0 | inr there ↦ only other there.1 ];
}

pub nowhere_unset : (s at : ℕ) (seating : List (Option ℕ)) → at < length seating → AtMost s at seating → Nowhere s (set seating at None)
nowhere_unset s at seating inside only place is = elim (read_set seating at place s None inside is) [ inl here ↦ none_some s here.1 | inr there ↦ there.0 (only place there.1) ]

pub only_other : (s place at : ℕ) (seating : List (Option ℕ)) (new : Option ℕ) → at < length seating → (at ≡ place → ⊥) → (new ≡ Some s → ⊥) → OnlyAt s place seating → OnlyAt s place (set seating at new)
only_other s place at seating new inside apart other was = record {
  here = get_or-set_other seating at place new None (λ same. apart (sym same)) ∙ was.here;
  only = λ p is. elim (read_set seating at p s new inside is) [ inl here ↦ absurd (other here.1) | inr there ↦ was.only p there.1 ];
}

pub nowhere_other : (s at : ℕ) (seating : List (Option ℕ)) (new : Option ℕ) → at < length seating → (new ≡ Some s → ⊥) → Nowhere s seating → Nowhere s (set seating at new)
nowhere_other s at seating new inside other was place is = elim (read_set seating at place s new inside is) [ inl here ↦ other here.1 | inr there ↦ was place there.1 ]

-- two labels have two places
pub apart_labels : (label other : ℕ) → IsLabel label → IsLabel other → (other ≡ label → ⊥) → other - 1 ≡ label - 1 → ⊥
apart_labels label other is_label also apart same = apart (omega (arith, is_label, also, same))

-- ## All labels close

-- where no label has the session, it does not close
pub closed_nowhere : (s c : ℕ) (seats : List (Option ℕ)) (grown : List Entry) → AreClosed c seats grown → Nowhere s seats → own_calls s c grown ≡ []
closed_nowhere s c [] grown none nowhere = own_empty s c grown none
closed_nowhere s c (seat ∷ seats) grown (first, later, cut, closes, rest) nowhere =
    ap (own_calls s c) cut ∙ own_append s c first later
    ∙ ap (λ (h : List Entry). h ++ own_calls s c later) (closes_other s c seat first closes (nowhere 0))
    ∙ closed_nowhere s c seats later rest (λ place is. nowhere (suc place) is)

-- its label closes it
pub closes_own : (s c : ℕ) (seat : Option ℕ) (xs : List Entry) → seat ≡ Some s → Closes c seat xs → own_calls s c xs ≡ closing_entry c s ∷ []
closes_own s c seat xs is closes = own_closed s c xs (subst (λ (x : Option ℕ). Closes c x xs) is closes)

-- where one label has it, it closes once
pub closed_only : (s c place : ℕ) (seats : List (Option ℕ)) (grown : List Entry) → AreClosed c seats grown → OnlyAt s place seats → own_calls s c grown ≡ closing_entry c s ∷ []
closed_only s c place [] grown none only = absurd (none_some s (sym (get_or_past [] place None (omega arith)) ∙ only.here))
closed_only s c zero (seat ∷ seats) grown (first, later, cut, closes, rest) only =
    ap (own_calls s c) cut ∙ own_append s c first later
    ∙ ap (λ (h : List Entry). h ++ own_calls s c later) (closes_own s c seat first only.here closes)
    ∙ ap (λ (h : List Entry). closing_entry c s ∷ h) (closed_nowhere s c seats later rest (λ place is. let wrong : suc place ≡ 0 = only.only (suc place) is in omega (arith, wrong)))
closed_only s c (suc place) (seat ∷ seats) grown (first, later, cut, closes, rest) only =
    let behind : OnlyAt s place seats = record {
      here = only.here;
      only = λ other is. let same : suc other ≡ suc place = only.only (suc other) is in omega (arith, same);
    } in
    ap (own_calls s c) cut ∙ own_append s c first later
    ∙ ap (λ (h : List Entry). h ++ own_calls s c later) (closes_other s c seat first closes (λ is. let wrong : 0 ≡ suc place = only.only 0 is in omega (arith, wrong)))
    ∙ closed_only s c place seats later rest behind
