-- That a pass is free, or exact, has one proof at most, so a struct that keeps a pass may keep the fact in a ghost field.
use Rattle.std.specs.Prelude.{ℕ, List, [], ◌∷◌, Option}
use mathlib.Core.List.{is_set}
use mathlib.Core.HLevel.{×_prop, Unit-prop}
use base.Stored.{Coded-set}
use Rattle.std.proofs.Props.{props}
use Rattle.atomic_table.specs.declared.shared.Seat.{Seat}
use Rattle.atomic_table.specs.Seated.{TableId, table_id_coded}
use Rattle.q4_turn.specs.declared.view.View.{View}
use Rattle.q4_turn.specs.declared.turn.Turn.{Turn}
use Rattle.q4_turn.specs.declared.turn.Pass.{Pass}
use Rattle.q4_turn.specs.Lists.{Every}
use Rattle.q4_turn.specs.Steps.{IsExact}
use Rattle.q4_turn.specs.Passes.{Rests}
use Rattle.q4_turn.specs.Turns.{turn_id, IsFree}

table_id_set : IsSet TableId
table_id_set = Coded-set table_id_coded

Rests-prop : {V E : Type 0} → (z : TableId) (s : Seat (Option V) (View E)) → IsProp (Rests z s)
Rests-prop z s = hlevel (props, table_id_set)

pub IsFree-prop : {V E : Type 0} → (t : Turn V E) (p : Pass V E) → IsProp (IsFree t p)
IsFree-prop t p = Rests-prop (turn_id t) p.seat

Every-prop : {A : Type 0} (P : A → Type 0) → ((x : A) → IsProp (P x)) → (l : List A) → IsProp (Every P l)
Every-prop P each [] = Unit-prop
Every-prop P each (x ∷ xs) = ×_prop (each x) (Every-prop P each xs)

pub IsExact-prop : {E : Type 0} → IsSet E → (mark : E → ℕ) (v : View E) → IsProp (IsExact mark v)
IsExact-prop entry mark v = hlevel (props, Every-prop, is_set, entry)
