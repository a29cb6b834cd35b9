-- What contracts say of a pass: where it stands, and what a call makes of its view.
use Rattle.std.specs.Prelude.{◌≡◌, ℕ, ◌+◌, ◌^◌, ◌<◌, ◌≤◌, true, false, List, [], ◌∷◌, ◌++◌, length, Option, Some, None}
use Rattle.atomic_table.specs.declared.shared.Seat.{Seat}
use Rattle.atomic_table.specs.Seated.{TableId}
use Rattle.atomic_table.specs.Table.{Me}
use Rattle.q4_turn.specs.declared.view.View.{View}
use Rattle.q4_turn.specs.Lists.{Every, StartsWith}
use Rattle.q4_turn.specs.Views.{claims, times, split_off, retired}
use Rattle.q4_turn.specs.Steps.{IsExact, AreOthers}

module _ {V E : Type 0} where
  abbrev pub seat_view : Seat (Option V) (View E) → View E
  seat_view s = s.me.0

  -- a pass of this turn that doesn't hold it
  pub record Rests (z : TableId) (s : Seat (Option V) (View E)) : Type 0 where
    pub turn : s.table_id ≡ z
    pub live : s.me.0.live ≡ true
    pub ticket : s.me.0.ticket ≡ None
    pub holding : s.me.0.holding ≡ false
    pub closing : s.me.0.closing ≡ false
    pub in_hand : s.me.0.in_hand ≡ None
    pub slots : length s.me.1 ≡ 0

  -- a pass of this turn that waits with this ticket
  pub record Waits (z : TableId) (t : ℕ) (s : Seat (Option V) (View E)) : Type 0 where
    pub turn : s.table_id ≡ z
    pub live : s.me.0.live ≡ true
    pub ticket : s.me.0.ticket ≡ Some t
    pub holding : s.me.0.holding ≡ false
    pub closing : s.me.0.closing ≡ false
    pub in_hand : s.me.0.in_hand ≡ None
    pub slots : s.me.1 ≡ []

  -- a pass of this turn that holds it, while the value is with the Held
  pub record Holds (z : TableId) (s : Seat (Option V) (View E)) : Type 0 where
    pub turn : s.table_id ≡ z
    pub live : s.me.0.live ≡ true
    pub holding : s.me.0.holding ≡ true
    pub closing : s.me.0.closing ≡ false
    pub in_hand : s.me.0.in_hand ≡ None
    pub slots : s.me.1 ≡ (0, None) ∷ []

  -- a pass with a number in hand, which doesn't hold the turn
  pub record HasNumber (n : ℕ) (m : Me (Option V) (View E)) : Type 0 where
    pub live : m.0.live ≡ true
    pub ticket : m.0.ticket ≡ None
    pub holding : m.0.holding ≡ false
    pub closing : m.0.closing ≡ false
    pub in_hand : m.0.in_hand ≡ Some n
    pub slots : m.1 ≡ []

  -- the turn is held: `seen` has grown to the whole history, by entries of others, and the value stands for it. `holds` is one more, and nothing else has changed
  pub record Entered (stands : V → List E → Type 0) (mark : E → ℕ) (v : View E) (value : V) (w : View E) : Type 0 where
    pub same : w ≡ record v { holding = true; ticket = w.ticket; holds = v.holds + 1; seen = w.seen }
    pub seen : StartsWith w.seen v.seen
    pub others : AreOthers mark v seen.0
    pub for_seen : stands value w.seen
    pub exact : IsExact mark w

  -- the value stands for the history and then these entries, which are so many, at most two, and of this pass
  pub record MayAdd (stands : V → List E → Type 0) (mark : E → ℕ) (v : View E) (value : V) (added : ℕ) (es : List E) : Type 0 where
    pub count : length es ≡ added
    pub few : added ≤ 2
    pub mine : Every (λ e. mark e ≡ v.number) es
    pub for_more : stands value (v.seen ++ es)

  -- the end: the value stands for `seen`, which is the whole history, since whoever added to it was joined into this pass. Each entry has a number that the pass answers for. The pass is none of a turn any more, and is else as it was
  pub record Ended (stands : V → List E → Type 0) (mark : E → ℕ) (v : View E) (value : V) (w : View E) : Type 0 where
    pub same : w ≡ retired v
    pub for_all : stands value w.seen
    pub exact : IsExact mark w
    pub known : Every (λ e. 0 < times (mark e) (claims w)) w.seen

-- a new pass of k parts, with a number below 2^62 that the old one doesn't answer for
pub record IsSplitOff {E : Type 0} (k : ℕ) (v w : View E) : Type 0 where
  pub same : w ≡ split_off k w.number v
  pub new : times w.number (claims v) ≡ 0
  pub few : w.number < 2 ^ 62
