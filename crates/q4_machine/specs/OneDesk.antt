-- What holds of a desk in memory.
use Rattle.std.specs.Prelude.{◌≡◌, ◌<◌, ◌+◌, ℕ, List, Option, None, [], ◌∷◌, length}
use Rattle.q4_def.specs.declared.table_def.TableDef.{TableDef}
use Rattle.q4_machine.specs.declared.entry.Entry.{Entry}
use Rattle.q4_machine.specs.History.{definitions_of, IsSettled}
use Rattle.q4_machine.specs.Parts.{IsInOrder}
use Rattle.q4_machine.specs.Recorded.{Recorded, DeskState, HasRoom, IsSound, open_sessions, entry_limit, opened_new}

-- The history is in order and by caller 0, all of it is settled, and there is room for the entry that closes each open
-- session, also within the limit.
pub record IsDesk (recorded : Recorded) (current : Option ℕ) : Type 0 where
  pub in_order : IsInOrder recorded.seen 0 current
  pub sound : IsSound recorded.seen
  pub settled : (place : ℕ) → IsSettled recorded.seen place
  pub room : HasRoom recorded (open_sessions recorded.seen)
  pub few : length recorded.seen + open_sessions recorded.seen < entry_limit

-- The history begins with the empty tables of these definitions.
abbrev pub BeginsNew : List TableDef → List Entry → Type 0
BeginsNew defs history = (rest : List Entry) × (history ≡ opened_new defs ∷ rest)

-- Its definitions are those of its history, which begins with their empty tables.
pub record IsOneDesk (recorded : Recorded) (defs : List TableDef) (current : Option ℕ) : Type 0 where
  pub desk : IsDesk recorded current
  pub defined : definitions_of recorded.seen ≡ defs
  pub begins : BeginsNew defs recorded.seen

-- A new desk has the one entry of the empty tables, and no session.
abbrev pub IsNew : List TableDef → DeskState → Type 0
IsNew defs d = (d.seen ≡ opened_new defs ∷ []) × (d.current ≡ None)
