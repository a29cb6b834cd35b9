-- What each step tells the pass that makes it. `m` is its view and its slots before, `r` the number that was found, `m'` after.
use Rattle.std.specs.Prelude.{◌≡◌, ◌≢◌, ℕ, ◌^◌, ◌<◌, ◌≤◌, true, List, [], ◌∷◌, length, Option, Some, None}
use Rattle.atomic_table.specs.Table.{Me, Step}
use Rattle.q4_turn.specs.declared.view.View.{View}
use Rattle.q4_turn.specs.Lists.{Every, StartsWith, marked}
use Rattle.q4_turn.specs.Views.{claims, times, with_ticket, with_turn, without_turn, extended, first_view, with_number, compared, closed_view}

abbrev At : Type 0 → Type 0 → Type 0
At V E = Me (Option V) (View E)

-- each list that a view answers for is, in order, exactly the entries of what it has seen with the number beside it, and these numbers differ
pub record IsExact {E : Type 0} (mark : E → ℕ) (v : View E) : Type 0 where
  pub lists : Every (λ o. marked mark o.number v.seen ≡ o.mine) (claims v)
  pub once : (n : ℕ) → times n (claims v) ≤ 1

-- these entries have no number that the view answers for
abbrev pub AreOthers : {E : Type 0} → (E → ℕ) → View E → List E → Type 0
AreOthers mark v es = Every (λ o. marked mark o.number es ≡ []) (claims v)

module _ {V E : Type 0} where
  -- founding, first: the empty slot was taken
  abbrev pub TellsOpening : Step (Option V) → At V E → ℕ → At V E → Type 0
  TellsOpening st m r m' = (m'.0 ≡ record m.0 { holding = true }) × (m'.1 ≡ (0, None) ∷ [])

  -- founding, then: the value is in the slot, and these are the first entries
  abbrev pub TellsFirst : (E → ℕ) → List E → Step (Option V) → At V E → ℕ → At V E → Type 0
  TellsFirst mark es st m r m' = (m'.0 ≡ first_view m.0.parts es) × (m'.1 ≡ []) × IsExact mark (first_view m.0.parts es)

  -- draw a ticket: it was drawn, or another was found
  abbrev pub TellsTicket : Step (Option V) → At V E → ℕ → At V E → Type 0
  TellsTicket st m r m' = (r ≡ st.first → m'.0 ≡ with_ticket m.0 r) × (r ≢ st.first → m'.0 ≡ m.0) × (m'.1 ≡ m.1)

  -- the slot is taken, and its value stands for the history, which is then seen
  abbrev pub Takes : (V → List E → Type 0) → (E → ℕ) → View E → At V E → Type 0
  Takes stands mark v m' =
      (y : V) × (es : List E) × (m'.1 ≡ (0, Some y) ∷ []) × (m'.0 ≡ with_turn v es) × (begins : StartsWith es v.seen) × AreOthers mark v begins.0 × stands y es × IsExact mark m'.0

  -- look at serving: where it is the ticket, the slot is taken
  abbrev pub TellsLook : (V → List E → Type 0) → (E → ℕ) → Step (Option V) → At V E → ℕ → At V E → Type 0
  TellsLook stands mark st m r m' = (m.0.ticket ≡ Some r → Takes stands mark m.0 m') × (m.0.ticket ≢ Some r → (m'.0 ≡ m.0) × (m'.1 ≡ m.1))

  -- measure, while the turn is held: the length of the history
  abbrev pub TellsLength : Step (Option V) → At V E → ℕ → At V E → Type 0
  TellsLength st m r m' = (m'.0 ≡ m.0) × (m'.1 ≡ m.1) × (r ≡ length m.0.seen) × (r ≤ 2 ^ 62)

  -- count: the history grew by these entries
  abbrev pub TellsGrowth : (E → ℕ) → List E → Step (Option V) → At V E → ℕ → At V E → Type 0
  TellsGrowth mark es st m r m' = (m'.0 ≡ extended m.0 es) × (m'.1 ≡ m.1) × IsExact mark (extended m.0 es)

  -- end the turn: the slot is at home again
  abbrev pub TellsEnd : Step (Option V) → At V E → ℕ → At V E → Type 0
  TellsEnd st m r m' = (m'.0 ≡ without_turn m.0) × (m'.1 ≡ [])

  -- ring: nothing changes but a word of which the rule says nothing
  abbrev pub TellsNothing : Step (Option V) → At V E → ℕ → At V E → Type 0
  TellsNothing st m r m' = (m'.0 ≡ m.0) × (m'.1 ≡ m.1)

  -- draw a number: it was drawn and is none that the pass answers for, or another was found
  abbrev pub TellsNumber : Step (Option V) → At V E → ℕ → At V E → Type 0
  TellsNumber st m r m' = (r ≡ st.first → (m'.0 ≡ with_number m.0 r) × (times r (claims m.0) ≡ 0)) × (r ≢ st.first → m'.0 ≡ m.0) × (m'.1 ≡ m.1)

  -- after a split: what the rule knows of a live view
  abbrev pub TellsExact : (E → ℕ) → Step (Option V) → At V E → ℕ → At V E → Type 0
  TellsExact mark st m r m' = (m'.0 ≡ m.0) × (m'.1 ≡ m.1) × IsExact mark m.0

  -- after a join: of two beginnings of one history the longer begins with the other
  abbrev pub TellsCompared : (E → ℕ) → Step (Option V) → At V E → ℕ → At V E → Type 0
  TellsCompared mark st m r m' = (m'.0 ≡ compared m.0) × (m'.1 ≡ m.1) × IsExact mark m'.0 × (length m.0.unmerged ≤ length m.0.seen → StartsWith m.0.seen m.0.unmerged)

  -- close, where all parts are together: the pass has seen the whole history, since each entry has a number that it answers for
  abbrev pub TellsClose : (E → ℕ) → Step (Option V) → At V E → ℕ → At V E → Type 0
  TellsClose mark st m r m' = (m'.1 ≡ m.1) × (m'.0 ≡ closed_view m.0) × IsExact mark m.0 × Every (λ e. 0 < times (mark e) (claims m.0)) m.0.seen
