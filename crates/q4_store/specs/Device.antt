-- The device calls of a run, in their order.
use Rattle.std.specs.Prelude.{◌≡◌, ◌≢◌, ◌+◌, ◌-◌, ◌⊎◌, ◌↔◌, ℕ, Bool, true, false, IsTrue, List, [], ◌∷◌, ◌++◌, Result, Ok, Err, length, replicate}
use Rattle.q4_value.specs.declared.column.Column.{Column}
use Rattle.q4_table.specs.TableState.{TableState, new_table}
use Rattle.q4_record.specs.Written.{base_bytes}
use Rattle.q4_record.specs.Side.{base_at, IsOpen, IsNarrow}
use Rattle.q4_disk.specs.declared.disk.DiskFailed.{DiskFailed}
use Rattle.q4_disk.specs.declared.disk.Side.{Side}
use Rattle.q4_disk.specs.declared.disk.Side.TheVariants.{A, B}
use Rattle.q4_disk.specs.declared.tally.DeviceCall.TheVariants as last
use Rattle.q4_disk.specs.Told.{Told}
use Rattle.q4_disk.specs.Images.{on, other, size}
use Rattle.q4_disk.specs.Calls.{IsCall, IsWrite, IsSync, Rests, Wrote, DidCut, Synced}
use Rattle.q4_store.specs.declared.fault.OpenFault.{OpenFault}
use Rattle.q4_store.specs.declared.fault.OpenFault.TheVariants as fault
use Rattle.q4_store.specs.Reading.{IsCurrent, IsOutgrown, Reads}
use Rattle.q4_store.specs.Parts.{IsShut}
use Rattle.q4_store.specs.Looking.{header_bytes}

-- one device call of a side: its size, a read at an offset of at most so many bytes, a write at an offset, a cut to a length, a sync
pub data DeviceCall : Type 0 where
  Size : Side → DeviceCall
  Read : Side → ℕ → ℕ → DeviceCall
  Write : Side → ℕ → List ℕ → DeviceCall
  Cut : Side → ℕ → DeviceCall
  Sync : Side → DeviceCall

-- One call was made and ended so, as the disk says of it: of which side, at which place and of how many bytes. What it
-- read is no part of this.
abbrev pub IsMade : DeviceCall → Result (Unit {0}) DiskFailed → Told → Told → Type 0
IsMade (Size side) result old new = IsCall (last.Size side) result old new × (IsTrue old.honest → Rests old new)
IsMade (Read side at most) result old new = IsCall (last.Read side at most) result old new × (IsTrue old.honest → Rests old new)
IsMade (Write side at bytes) result old new = IsWrite side at (length bytes) result old new × (IsTrue old.honest → Wrote side at bytes result old new)
IsMade (Cut side to) result old new = IsCall (last.CutTo side to) result old new × (IsTrue old.honest → DidCut side to result old new)
IsMade (Sync side) result old new = IsSync side result old new × (IsTrue old.honest → Synced side result old new)

-- These calls were made in this order, and none failed.
abbrev pub AllMade : {D : Type 0} → (D → Told) → List DeviceCall → D → D → Type 0
AllMade told [] old new = new ≡ old
AllMade {D = D} told (call ∷ calls) old new = (mid : D) × IsMade call (Ok tt) (told old) (told mid) × AllMade told calls mid new

-- They were made in this order up to one that failed, and none behind it.
abbrev pub BrokeOff : {D : Type 0} → (D → Told) → List DeviceCall → D → D → Type 0
BrokeOff told [] old new = ⊥
BrokeOff {D = D} told (call ∷ calls) old new = IsMade call (Err (record {})) (told old) (told new) ⊎ ((mid : D) × IsMade call (Ok tt) (told old) (told mid) × BrokeOff told calls mid new)

-- A run that answers so made all of them, or broke off.
abbrev pub Makes : {D T : Type 0} → (D → Told) → List DeviceCall → Result T DiskFailed → D → D → Type 0
Makes told calls (Ok x) old new = AllMade told calls old new
Makes told calls (Err why) old new = BrokeOff told calls old new

-- A front of them was made, and none failed.
pub record StopsEarly {D : Type 0} (told : D → Told) (calls : List DeviceCall) (old new : D) : Type 0 where
  pub front : List DeviceCall
  pub rest : List DeviceCall
  pub parts : calls ≡ front ++ rest
  pub made : AllMade told front old new

-- A run that is refused broke off where the disk failed, and stopped early for any other reason.
abbrev pub Stops : {D : Type 0} → (D → Told) → List DeviceCall → OpenFault → D → D → Type 0
Stops told calls fault.Disk old new = BrokeOff told calls old new
Stops told calls (fault.Damaged side place) old new = StopsEarly told calls old new
Stops told calls (fault.Schema column) old new = StopsEarly told calls old new
Stops told calls (fault.Large limit) old new = StopsEarly told calls old new
Stops told calls fault.Memory old new = StopsEarly told calls old new

-- a batch, a sync, the gate in front of it, and a sync
abbrev pub commit_calls : Side → ℕ → List ℕ → List DeviceCall
commit_calls side end batch = Write side end batch ∷ Sync side ∷ Write side (end - 1) (1 ∷ []) ∷ Sync side ∷ []

-- the gate of a side is closed, unless it is known to be
abbrev pub close_calls : Side → Bool → List DeviceCall
close_calls side true = []
close_calls side false = Write side 0 (0 ∷ []) ∷ Sync side ∷ []

-- it is cut to its gate, and zeros come behind that
abbrev pub blank_calls : Side → List DeviceCall
blank_calls side = Cut side 1 ∷ Write side 1 (replicate 20 0) ∷ []

-- The first part of writing a table onto a side.
abbrev pub prepare_calls : Side → Bool → List DeviceCall
prepare_calls side known = close_calls side known ++ blank_calls side

-- a piece of a copy: one write, or none where there is nothing to write
abbrev pub extend_calls : Side → ℕ → List ℕ → List DeviceCall
extend_calls side at [] = []
extend_calls side at (b ∷ bs) = Write side at (b ∷ bs) ∷ []

-- The second: what is left of the table, its header, and a sync.
abbrev pub fill_calls : Side → ℕ → List ℕ → List ℕ → List DeviceCall
fill_calls side at last header = Write side at last ∷ Write side 1 header ∷ Sync side ∷ []

-- The third: the open gate, and a sync.
abbrev pub switch_calls : Side → List DeviceCall
switch_calls side = Write side 0 (1 ∷ []) ∷ Sync side ∷ []

-- a whole table, its base with a closing gate and its header with this generation, in the three parts
abbrev pub write_calls : Side → Bool → TableState → ℕ → List DeviceCall
write_calls side known table generation =
    let base = base_bytes table in
    prepare_calls side known ++ (fill_calls side base_at (base ++ 0 ∷ []) (header_bytes generation (length base)) ++ switch_calls side)

-- both sides are synced, and the first bytes of both are read
abbrev pub look_calls : List DeviceCall
look_calls = Sync A ∷ Sync B ∷ Read A 0 base_at ∷ Read B 0 base_at ∷ []

-- a side is read, which has so many bytes
abbrev pub load_calls : Side → ℕ → List DeviceCall
load_calls side length = Size side ∷ Read side 0 length ∷ []

-- The side that counts is read.
pub record ReadsCurrent (told : Told) (calls : List DeviceCall) : Type 0 where
  pub side : Side
  pub length : ℕ
  pub are : calls ≡ load_calls side length
  pub current : IsTrue told.honest → IsCurrent side told.bytes
  pub whole : IsTrue told.honest → length ≡ size side told.bytes

-- It is read, its schema is narrower, and its table is written onto the other side, with a generation greater by one. A
-- gate of that side that is there and closed is not written again.
pub record Rewrites (columns : List Column) (told : Told) (calls : List DeviceCall) : Type 0 where
  pub side : Side
  pub length : ℕ
  pub known : Bool
  pub table : TableState
  pub generation : ℕ
  pub are : calls ≡ load_calls side length ++ write_calls (other side) known table (generation + 1)
  pub current : IsTrue told.honest → IsCurrent side told.bytes
  pub whole : IsTrue told.honest → length ≡ size side told.bytes
  pub narrow : IsTrue told.honest → IsNarrow columns (on side told.bytes)
  pub reads : IsTrue told.honest → Reads columns told.bytes table generation
  pub known_is : IsTrue told.honest → (known ≡ true) ↔ IsShut (on (other side) told.bytes)

-- Neither side is open, and a new table is written. A gate of side A that is there and closed is not written again.
pub record WritesNew (columns : List Column) (told : Told) (calls : List DeviceCall) : Type 0 where
  pub known : Bool
  pub are : calls ≡ write_calls A known (new_table columns) 1
  pub closed_a : IsTrue told.honest → IsOpen told.bytes.a → ⊥
  pub closed_b : IsTrue told.honest → IsOpen told.bytes.b → ⊥
  pub known_is : IsTrue told.honest → (known ≡ true) ↔ IsShut told.bytes.a

-- What opening calls behind its look at both sides. It reads alone only where the side's schema is not narrower.
abbrev pub IsBehindLook : List Column → Told → List DeviceCall → Type 0
IsBehindLook columns told calls =
    (ReadsCurrent told calls × (IsTrue told.honest → IsOutgrown columns told.bytes → ⊥))
    ⊎ Rewrites columns told calls
    ⊎ WritesNew columns told calls

-- what it may have begun to call there
abbrev pub MayBehindLook : List Column → Told → List DeviceCall → Type 0
MayBehindLook columns told calls =
    ReadsCurrent told calls ⊎ Rewrites columns told calls ⊎ WritesNew columns told calls ⊎ (calls ≡ [])

-- what it may have called there before it is refused for another reason than the disk
abbrev pub MayReadBehindLook : Told → List DeviceCall → Type 0
MayReadBehindLook told calls = ReadsCurrent told calls ⊎ (calls ≡ [])

-- A run behind the look that is refused broke off where the disk failed, and has only read for any other reason.
pub record StopsBehindLook {D : Type 0} (columns : List Column) (told : D → Told) (why : OpenFault) (old new : D) : Type 0 where
  pub failed : why ≡ fault.Disk → (calls : List DeviceCall) × MayBehindLook columns (told old) calls × BrokeOff told calls old new
  pub refused : why ≢ fault.Disk → (calls : List DeviceCall) × MayReadBehindLook (told old) calls × StopsEarly told calls old new

-- An opening that succeeds made all its calls.
pub record HasOpened {D : Type 0} (columns : List Column) (told : D → Told) (old new : D) : Type 0 where
  pub calls : List DeviceCall
  pub behind : IsBehindLook columns (told old) calls
  pub made : AllMade told (look_calls ++ calls) old new

-- One that is refused broke off in them, or in its look, where the disk failed. For any other reason it stops behind its
-- look, and has written nothing.
pub record HasStopped {D : Type 0} (columns : List Column) (told : D → Told) (why : OpenFault) (old new : D) : Type 0 where
  pub failed : why ≡ fault.Disk → (calls : List DeviceCall) × MayBehindLook columns (told old) calls × BrokeOff told (look_calls ++ calls) old new
  pub refused : why ≢ fault.Disk → (mid : D) × AllMade told look_calls old mid × ((calls : List DeviceCall) × MayReadBehindLook (told old) calls × StopsEarly told calls mid new)
