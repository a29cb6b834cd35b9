-- What the steps of opening find: a look at both sides, the choice of one, its table, or one that is written.
use Rattle.std.specs.Prelude.{◌≡◌, ◌<◌, ◌+◌, ◌++◌, ◌↔◌, ◌⊎◌, ℕ, Bool, true, false, IsTrue, List, [], ◌∷◌, length, codes}
use Rattle.std.specs.Int.{w64, to_be_bytes}
use Rattle.q4_value.specs.declared.column.Column.{Column}
use Rattle.q4_table.specs.TableState.{TableState}
use Rattle.q4_record.specs.declared.side.SideFault.TheVariants as side_fault
use Rattle.q4_record.specs.Faults.{SideFails}
use Rattle.q4_record.specs.Written.{base_bytes}
use Rattle.q4_record.specs.Side.{base_at, generation_of, HasMagic, IsOpen, IsNarrow, OwnSide, Side as IsSide}
use Rattle.q4_disk.specs.declared.disk.Side.{Side}
use Rattle.q4_disk.specs.declared.disk.Side.TheVariants.{A, B}
use Rattle.q4_disk.specs.Told.{Sides, Told}
use Rattle.q4_disk.specs.Images.{on, other, Within}
use Rattle.q4_disk.specs.Time.{LeavesOnly}
use Rattle.q4_store.specs.declared.fault.OpenFault.{OpenFault}
use Rattle.q4_store.specs.declared.fault.OpenFault.TheVariants as fault
use Rattle.q4_store.specs.declared.head.Choice.{Choice}
use Rattle.q4_store.specs.declared.head.Choice.TheVariants as choice
use Rattle.q4_store.specs.declared.head.Head.{Head}
use Rattle.q4_store.specs.declared.head.Head.TheVariants as head
use Rattle.q4_store.specs.Reading.{IsCurrent}
use Rattle.q4_store.specs.Parts.{IsShut, IsReady}
use Rattle.q4_store.specs.Opening.{IsUnclear}

-- Nothing that is read changes, and no image comes.
pub record AddsNone (old new : Told) : Type 0 where
  pub bytes : new.bytes ≡ old.bytes
  pub images : Within new.images old.images
  pub only : LeavesOnly old new old.images

-- And nothing was written.
pub record OnlyReads (old new : Told) : Type 0 where
  pub rests : AddsNone old new
  pub writes : new.writes ≡ old.writes

-- one of them is open
abbrev pub HasOpen : Sides → Type 0
HasOpen sides = IsOpen sides.a ⊎ IsOpen sides.b

-- a crash now leaves what is read
abbrev pub IsStill : Told → Type 0
IsStill told = Within told.images (λ c. c ≡ told.bytes)

-- what a side's first bytes tell
abbrev pub IsHead : List ℕ → Head → Type 0
IsHead bytes (head.Open magic generation) = IsOpen bytes × (IsTrue magic ↔ HasMagic bytes) × (generation ≡ generation_of bytes)
IsHead bytes head.Shut = IsShut bytes
IsHead bytes head.Short = (length bytes < base_at) × (IsShut bytes → ⊥)

-- which side counts, or that neither is open, and which other gates are there and closed
abbrev pub IsChoice : Sides → Choice → Type 0
IsChoice sides (choice.Current side known) = IsCurrent side sides × HasMagic (on side sides) × ((known ≡ true) ↔ IsShut (on (other side) sides)) × IsReady known (other side) sides
IsChoice sides (choice.Neither a b) = (IsOpen sides.a → ⊥) × (IsOpen sides.b → ⊥) × IsReady a A sides × ((a ≡ true) ↔ IsShut sides.a) × ((b ≡ true) ↔ IsShut sides.b) × IsReady b B sides

-- or why that is unclear
abbrev pub IsNoChoice : Sides → OpenFault → Type 0
IsNoChoice sides fault.Disk = ⊥
IsNoChoice sides (fault.Damaged side place) = IsUnclear sides side place
IsNoChoice sides (fault.Schema column) = ⊥
IsNoChoice sides (fault.Large limit) = ⊥
IsNoChoice sides fault.Memory = ⊥

-- why a side that is open stands for no table, as opening tells it
abbrev pub LoadFails : List Column → List ℕ → Side → OpenFault → Type 0
LoadFails columns bytes side fault.Disk = Unit {0}
LoadFails columns bytes side (fault.Damaged at place) = (at ≡ side) × SideFails columns bytes (side_fault.Damaged place)
LoadFails columns bytes side (fault.Schema column) = SideFails columns bytes (side_fault.Schema column)
LoadFails columns bytes side (fault.Large limit) = SideFails columns bytes (side_fault.Large limit)
LoadFails columns bytes side fault.Memory = Unit {0}

-- What the bytes of a side hold, and whether its schema is narrower than the columns. Where it isn't, it is of these very
-- columns.
pub record IsLoaded (columns : List Column) (bytes : List ℕ) (table : TableState) (generation len : ℕ) (narrow : Bool) : Type 0 where
  pub side : IsSide columns bytes table generation len
  pub own : narrow ≡ false → OwnSide columns bytes table generation len
  pub narrow_is : IsTrue narrow ↔ IsNarrow columns bytes

-- what stands between a side's gate and its base
abbrev pub header_bytes : ℕ → ℕ → List ℕ
header_bytes generation length = codes "Q4O2" ++ to_be_bytes w64 generation ++ to_be_bytes w64 length

-- A table as it is written: its base with a closing gate, and the header.
pub record IsDraft (table : TableState) (generation : ℕ) (base header : List ℕ) : Type 0 where
  pub base_is : base ≡ base_bytes table ++ 0 ∷ []
  pub header_is : header ≡ header_bytes generation (length (base_bytes table))

abbrev pub draft_length : TableState → ℕ
draft_length table = base_at + length (base_bytes table) + 1
