-- What contracts see of a turn, of a pass and of a hold.
use Rattle.std.specs.Prelude.{◌≡◌, ℕ, Bool, List}
use Rattle.atomic_table.specs.Seated.{TableId}
use Rattle.q4_turn.specs.declared.view.View.{View}
use Rattle.q4_turn.specs.declared.view.JoinedPass.{JoinedPass}
use Rattle.q4_turn.specs.declared.turn.Turn.{Turn}
use Rattle.q4_turn.specs.declared.turn.Pass.{Pass}
use Rattle.q4_turn.specs.declared.turn.Held.{Held}
use Rattle.q4_turn.specs.Passes.{Rests, Holds}

module _ {V E : Type 0} where
  -- which turn it is
  abbrev pub turn_id : Turn V E → TableId
  turn_id t = t.table.shared.table_id

  -- how many parts its passes have together
  abbrev pub turn_parts : Turn V E → ℕ
  turn_parts t = t.table.shared.key

  -- all that contracts see of a pass but its turn
  abbrev pub view : Pass V E → View E
  view p = p.seat.me.0

  -- the mark of its entries
  abbrev pub number : Pass V E → ℕ
  number p = (view p).number

  abbrev pub parts : Pass V E → ℕ
  parts p = (view p).parts

  -- how often it entered
  abbrev pub holds : Pass V E → ℕ
  holds p = (view p).holds

  -- whether it holds the turn
  abbrev pub holding : Pass V E → Bool
  holding p = (view p).holding

  -- the beginning of the history that it has seen
  abbrev pub seen : Pass V E → List E
  seen p = (view p).seen

  -- the entries that it added, in order
  abbrev pub mine : Pass V E → List E
  mine p = (view p).mine

  -- the number and the entries of each pass that was joined into it
  abbrev pub olds : Pass V E → List (JoinedPass E)
  olds p = (view p).olds

  -- a pass of this turn that doesn't hold it
  abbrev pub IsFree : Turn V E → Pass V E → Type 0
  IsFree t p = Rests (turn_id t) p.seat

  -- the value that a hold has, as it is now
  abbrev pub value_of : Held V E → V
  value_of h = h.value

  -- the length of the history that a hold tells
  abbrev pub count_of : Held V E → ℕ
  count_of h = h.count

  -- a pass of this turn that holds it, and what its `enter` gave
  abbrev pub HasTurn : Turn V E → Pass V E → Held V E → Type 0
  HasTurn t p h = Holds (turn_id t) p.seat × (h.of.value ≡ p.seat)
