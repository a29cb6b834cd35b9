-- The rule of a turn: what holds of its words, its slot and all views between any two steps.
use Rattle.std.specs.Prelude.{◌≡◌, ℕ, ◌^◌, ◌<◌, ◌≤◌, ◌⊎◌, true, false, List, [], ◌∷◌, length, Option, Some, None}
use mathlib.Core.Option.{some, none}
use mathlib.Core.Option as maybe
use lib.ListN.{get_elem?}
use Rattle.atomic_table.specs.Table.{State}
use Rattle.q4_turn.specs.declared.view.View.{View}
use Rattle.q4_turn.specs.declared.view.JoinedPass.{JoinedPass}
use Rattle.q4_turn.specs.Lists.{total, Every, StartsWith, marked}
use Rattle.q4_turn.specs.Views.{claims, claimed, numbered, ticketed, held, live_parts, founding_view, founding_taken}

module _ {E : Type 0} (mark : E → ℕ) where
  -- these are, in order, exactly the entries with this number, in what was seen and in the whole history
  abbrev pub IsClaim : List E → List E → JoinedPass E → Type 0
  IsClaim seen history o = (marked mark o.number seen ≡ o.mine) × (marked mark o.number history ≡ o.mine)

  -- what a live view knows: the history begins with what it has seen, and its lists are exact
  pub record Knows (history : List E) (v : View E) : Type 0 where
    pub part : 0 < v.parts
    pub seen : StartsWith history v.seen
    pub unmerged : StartsWith history v.unmerged
    pub exact : Every (IsClaim v.seen history) (claims v)

  -- a view that holds the turn has the ticket that is served, and has seen the history. So has one that closes, which has all parts
  pub record Fits (all serving : ℕ) (history : List E) (v : View E) : Type 0 where
    pub founded : v.founding ≡ false
    pub holding : v.holding ≡ true → (v.ticket ≡ Some serving) × (v.seen ≡ history) × (v.live ≡ true)
    pub closing : v.closing ≡ true → (v.parts ≡ all) × (v.seen ≡ history) × (v.live ≡ true)
    pub knows : v.live ≡ true → Knows history v

-- at most one view holds the turn, and the slot is away exactly while one does. At home its value stands for the history
abbrev pub Slot : {V E : Type 0} → (V → List E → Type 0) → List (maybe.Option (Option V)) → List (View E) → List E → Type 0
Slot {V} {E} stands homes views history =
    ((total held views ≡ 0) × ((y : V) × (homes ≡ some (Some y) ∷ []) × stands y history))
    ⊎ ((total held views ≡ 1) × (homes ≡ none ∷ []))

-- the rule from the first entry on. The words are the next ticket, the ticket that is served, the length of the history, the next number, and those that threads sleep on, which may be any
pub record IsTurn {V E : Type 0} (stands : V → List E → Type 0) (mark : E → ℕ) (all : ℕ) (s : State (Option V) (View E)) : Type 0 where
  pub ticket : ℕ
  pub serving : ℕ
  pub made : ℕ
  pub history : List E
  pub bells : List ℕ
  pub words : s.words ≡ ticket ∷ serving ∷ length history ∷ made ∷ bells
  pub small : (serving ≤ ticket) × (ticket ≤ 2 ^ 62) × (length history ≤ 2 ^ 62) × (made ≤ 2 ^ 62)
  -- each ticket from serving up to ticket is in one view's hand, and no other ticket is in any
  pub waits : (t : ℕ) → serving ≤ t → t < ticket → total (ticketed t) s.views ≡ 1
  pub past : (t : ℕ) → t < serving → total (ticketed t) s.views ≡ 0
  pub future : (t : ℕ) → ticket ≤ t → total (ticketed t) s.views ≡ 0
  pub slot : Slot stands s.homes s.views history
  -- the parts of the live views add up to the turn's
  pub parts : total live_parts s.views ≡ all
  pub each : (id : ℕ) (v : View E) → get_elem? s.views id ≡ some v → Fits mark all serving history v
  -- each number below made is in one place: in a view's hand, its own, or that of a pass that was joined into it. No other number is anywhere
  pub below : (n : ℕ) → n < made → total (numbered n) s.views ≡ 1
  pub above : (n : ℕ) → made ≤ n → total (numbered n) s.views ≡ 0
  -- the mark of each entry is a number that a live view answers for, so none that is in hand
  pub added : Every (λ e. 0 < total (claimed (mark e)) s.views) history

-- the rule before the first entry: there is one view, and no value yet
pub record IsFounding {V E : Type 0} (all : ℕ) (s : State (Option V) (View E)) : Type 0 where
  pub bells : List ℕ
  pub words : s.words ≡ 0 ∷ 0 ∷ 0 ∷ 1 ∷ bells
  pub one : ((s.homes ≡ some None ∷ []) × (s.views ≡ founding_view all ∷ [])) ⊎ ((s.homes ≡ none ∷ []) × (s.views ≡ founding_taken all ∷ []))

-- the rule
abbrev pub Keeps : {V E : Type 0} → (V → List E → Type 0) → (E → ℕ) → ℕ → State (Option V) (View E) → Type 0
Keeps stands mark all s = IsFounding all s ⊎ IsTurn stands mark all s
