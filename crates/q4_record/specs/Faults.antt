-- Why bytes are no side: the first part from the front that does not stand.
use Rattle.std.specs.Prelude.{◌≡◌, ◌≢◌, ◌<◌, ◌≤◌, ◌+◌, ◌⊎◌, ℕ, List, [], ◌∷◌, ◌++◌, length, All}
use Rattle.std.specs.Int.{w32, to_be_bytes}
use Rattle.q4_value.specs.declared.column.Column.{Column}
use Rattle.q4_value.specs.Reading.{told_length}
use Rattle.q4_value.specs.Row.{AreWider}
use Rattle.q4_table.specs.TableState.{TableState}
use Rattle.q4_record.specs.declared.header.Format.{Format}
use Rattle.q4_record.specs.declared.replay.Stage.TheVariants as stage
use Rattle.q4_record.specs.declared.side.SideFault.{SideFault}
use Rattle.q4_record.specs.declared.side.SideFault.TheVariants as fault
use Rattle.q4_record.specs.Record.{Record, records_bytes}
use Rattle.q4_record.specs.Replay.{ReplayState, replays, at_base, AllStand}
use Rattle.q4_record.specs.Reading.{SectionFails}
use Rattle.q4_record.specs.Schema.{schema_bytes, MayHave, SchemaFails}
use Rattle.q4_record.specs.Side.{side_limit, generation_limit, base_at, base_of, generation_of, format_of, IsOpen, HasHeader, Begins, Reaches, IsWhole, place_behind, HasRoom, OwnSide}

-- Why the header does not stand, at an open gate. Too many bytes go before damage, and damage before too great a
-- generation.
abbrev pub HeaderFails : List ℕ → SideFault → Type 0
HeaderFails bytes fault.Closed = ⊥
HeaderFails bytes (fault.Damaged place) = (place ≡ 0) × (length bytes ≤ side_limit) × (HasHeader bytes → ⊥)
HeaderFails bytes (fault.Schema column) = ⊥
HeaderFails bytes (fault.Large limit) =
    ((limit ≡ 6) × (side_limit < length bytes))
    ⊎ ((limit ≡ 7) × (length bytes ≤ side_limit) × HasHeader bytes × (generation_limit < generation_of bytes))
HeaderFails bytes fault.Memory = ⊥

-- The schema stands, and one of the records behind it does not.
pub record RecordsFail (format : Format) (columns : List Column) (base : List ℕ) (why : SideFault) : Type 0 where
  pub may : All (MayHave format) columns
  pub section : List ℕ
  pub base_is : base ≡ schema_bytes columns ++ section
  pub fails : SectionFails (at_base columns) section (base_at + length (schema_bytes columns)) why

-- The schema and all records stand, and the last is no next record.
pub record Unfinished (format : Format) (columns : List Column) (base : List ℕ) (why : SideFault) : Type 0 where
  pub may : All (MayHave format) columns
  pub records : List Record
  pub base_is : base ≡ schema_bytes columns ++ records_bytes records
  pub stand : AllStand (at_base columns) records
  pub unfinished : (replays (at_base columns) records).stage ≢ stage.Whole
  pub why_is : why ≡ fault.Damaged (base_at + length base)

-- Why the base does not stand behind its schema, which is of these columns.
abbrev pub BaseFails : Format → List Column → List ℕ → SideFault → Type 0
BaseFails format columns base why = RecordsFail format columns base why ⊎ Unfinished format columns base why

-- behind a batch's gate: the bytes end within the length or the records, or leave no closing gate
abbrev pub EndsInBatch : List ℕ → Type 0
EndsInBatch bytes = (length bytes < 4) ⊎ (length bytes < 4 + told_length bytes + 1)

-- A batch's records and at least one byte more are there, and a record does not stand.
pub record BatchRecordsFail (replay : ReplayState) (bytes : List ℕ) (at : ℕ) (why : SideFault) : Type 0 where
  pub section : List ℕ
  pub after : List ℕ
  pub bytes_are : bytes ≡ to_be_bytes w32 (length section) ++ section ++ after
  pub few : length section ≤ side_limit
  pub more : after ≢ []
  pub fails : SectionFails replay section (at + 5) why

-- Why the batch does not stand whose gate is at this place, by what is behind the gate.
abbrev pub BatchFails : ReplayState → List ℕ → ℕ → SideFault → Type 0
BatchFails replay bytes at why =
    ((why ≡ fault.Damaged at) × EndsInBatch bytes) ⊎ BatchRecordsFail replay bytes at why

-- Some batches stand, and the next one does not.
pub record BatchesFail (columns : List Column) (bytes : List ℕ) (why : SideFault) : Type 0 where
  pub batches : List (List Record)
  pub replay : ReplayState
  pub more : List ℕ
  pub reaches : Reaches columns bytes batches replay (1 ∷ more)
  pub fails : BatchFails replay more (place_behind bytes batches) why

-- All parts stand, and there is no room for the end of each row.
pub record LacksRoom (columns : List Column) (bytes : List ℕ) (why : SideFault) : Type 0 where
  pub table : TableState
  pub generation : ℕ
  pub len : ℕ
  pub stands : IsWhole columns bytes table generation len
  pub lacks : HasRoom table len → ⊥
  pub why_is : why ≡ fault.Large 8

-- Why a side whose schema is of these columns stands for no table.
abbrev pub OwnFails : List Column → List ℕ → SideFault → Type 0
OwnFails own bytes why =
    (Begins bytes × BaseFails (format_of bytes) own (base_of bytes) why)
    ⊎ BatchesFail own bytes why
    ⊎ LacksRoom own bytes why

-- The columns given are the side's own or are wider, and a part behind its schema does not stand.
pub record PartsFail (columns : List Column) (bytes : List ℕ) (why : SideFault) : Type 0 where
  pub own : List Column
  pub wider : AreWider columns own
  pub fails : OwnFails own bytes why

-- All of it stands, the columns given are wider than its own, and there is no greater generation.
pub record IsSpent (columns : List Column) (bytes : List ℕ) (why : SideFault) : Type 0 where
  pub own : List Column
  pub own_table : TableState
  pub len : ℕ
  pub wider : AreWider columns own
  pub other : own ≢ columns
  pub stands : OwnSide own bytes own_table generation_limit len
  pub why_is : why ≡ fault.Large 7

-- Why an open side stands for no table. Its own columns being narrower counts last.
abbrev pub OpenFails : List Column → List ℕ → SideFault → Type 0
OpenFails columns bytes why =
    HeaderFails bytes why
    ⊎ (Begins bytes × SchemaFails (format_of bytes) columns (base_of bytes) base_at why)
    ⊎ PartsFail columns bytes why
    ⊎ IsSpent columns bytes why

-- Why the bytes are no side. Memory may be wanted at any time.
abbrev pub SideFails : List Column → List ℕ → SideFault → Type 0
SideFails columns bytes fault.Closed = IsOpen bytes → ⊥
SideFails columns bytes fault.Memory = Unit {0}
SideFails columns bytes why = IsOpen bytes × OpenFails columns bytes why
