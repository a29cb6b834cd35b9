-- What opening finds on a disk, or makes there.
use Rattle.std.specs.Prelude.{◌≡◌, ◌≢◌, ◌↔◌, ℕ, Bool, true, IsTrue, List}
use Rattle.q4_value.specs.declared.column.Column.{Column}
use Rattle.q4_table.specs.TableState.{TableState}
use Rattle.q4_record.specs.Side.{OwnSide}
use Rattle.q4_disk.specs.declared.disk.Side.{Side}
use Rattle.q4_disk.specs.Told.{Sides, Told}
use Rattle.q4_disk.specs.Images.{on, other, Within}
use Rattle.q4_disk.specs.Time.{LeavesOnly}
use Rattle.q4_store.specs.declared.fault.OpenFault.{OpenFault}
use Rattle.q4_store.specs.declared.fault.OpenFault.TheVariants as fault
use Rattle.q4_store.specs.Reading.{IsOutgrown, Opens, ReadsAsOpened, ReadsAsGiven}
use Rattle.q4_store.specs.Parts.{IsShut, IsReady}
use Rattle.q4_store.specs.Store.{IsSettled}
use Rattle.q4_store.specs.Opening.{CountsOpen, IsChosen, OpenFails}
use Rattle.q4_store.specs.Looking.{OnlyReads, HasOpen}

-- At each moment inside it each image reads as one that there was, or as one that is rewritten.
abbrev pub LeavesOpened : {D : Type 0} → List Column → (D → Told) → D → D → Type 0
LeavesOpened columns told old new = IsTrue (told old).honest → LeavesOnly (told old) (told new) (ReadsAsOpened columns (told old).images)

-- Where a side is open, and the current one is not of a narrower schema, it only reads.
abbrev pub RestsOpened : {D : Type 0} → List Column → (D → Told) → D → D → Type 0
RestsOpened columns told old new = IsTrue (told old).honest → HasOpen (told old).bytes → (IsOutgrown columns (told old).bytes → ⊥) → OnlyReads (told old) (told new)

-- It found this table on this side, with its generation and length, or wrote it there. Whether the gate of the other side
-- is there and closed is known.
pub record HasFound {D : Type 0} (columns : List Column) (told : D → Told) (old new : D) (table : TableState) (side : Side) (generation end : ℕ) (known : Bool) : Type 0 where
  pub calm : (told new).faults ≡ (told old).faults
  pub any_moment : LeavesOpened columns told old new
  -- At each moment inside it each image reads as one that there was, or as this very table.
  pub given : IsTrue (told old).honest → LeavesOnly (told old) (told new) (ReadsAsGiven columns table generation (told old).images)
  pub rests : RestsOpened columns told old new
  pub sound : (bytes : List ℕ) × OwnSide columns bytes table generation end
  pub reads : IsTrue (told old).honest → Opens columns (told old).bytes table generation
  pub side_is : IsTrue (told old).honest → IsChosen columns (told old).bytes side
  pub settled : IsTrue (told old).honest → IsSettled (told new) side table generation end
  pub ready : IsTrue (told old).honest → Within (told new).images (IsReady known (other side))
  pub known_is : IsTrue (told old).honest → (known ≡ true) ↔ IsShut (on (other side) (told old).bytes)

-- It found none, for this reason. Only where the disk failed may it have written.
pub record HasFailed {D : Type 0} (columns : List Column) (told : D → Told) (old new : D) (why : OpenFault) : Type 0 where
  pub counts : CountsOpen why (told old).faults (told new).faults
  pub refused : why ≢ fault.Disk → IsTrue (told old).honest → OnlyReads (told old) (told new)
  pub any_moment : LeavesOpened columns told old new
  pub rests : RestsOpened columns told old new
  pub fails : IsTrue (told old).honest → OpenFails columns (told old).bytes why
