-- Which side opening takes, and why it finds nothing.
use Rattle.std.specs.Prelude.{◌≡◌, ◌≤◌, ◌⊎◌, ℕ, List}
use Rattle.q4_value.specs.declared.column.Column.{Column}
use Rattle.q4_record.specs.declared.side.SideFault.{SideFault}
use Rattle.q4_record.specs.declared.side.SideFault.TheVariants as side_fault
use Rattle.q4_record.specs.Faults.{SideFails}
use Rattle.q4_record.specs.Side.{generation_of, HasMagic, IsOpen, IsNarrow}
use Rattle.q4_disk.specs.declared.disk.Side.{Side}
use Rattle.q4_disk.specs.declared.disk.Side.TheVariants.{A, B}
use Rattle.q4_disk.specs.Told.{Sides}
use Rattle.q4_disk.specs.Images.{on, other}
use Rattle.q4_disk.specs.Calls.{bump}
use Rattle.q4_store.specs.declared.fault.OpenFault.{OpenFault}
use Rattle.q4_store.specs.declared.fault.OpenFault.TheVariants as fault
use Rattle.q4_store.specs.Reading.{IsCurrent}

-- The side that a store of these two sides has: the one that counts, or the other one where the schema of that is narrower
-- than the columns, or side A where neither is open.
abbrev pub IsChosen : List Column → Sides → Side → Type 0
IsChosen columns sides side =
    (IsCurrent side sides × (IsNarrow columns (on side sides) → ⊥))
    ⊎ (IsCurrent (other side) sides × IsNarrow columns (on (other side) sides))
    ⊎ ((IsOpen sides.a → ⊥) × (IsOpen sides.b → ⊥) × (side ≡ A))

-- open, with another magic
pub record LacksMagic (bytes : List ℕ) : Type 0 where
  pub is_open : IsOpen bytes
  pub other : HasMagic bytes → ⊥

-- both open, with one generation
pub record AreEqual (sides : Sides) : Type 0 where
  pub a : IsOpen sides.a
  pub b : IsOpen sides.b
  pub same : generation_of sides.a ≡ generation_of sides.b

-- Why no side counts: an open one has another magic, side A first, or else both are open with one generation.
abbrev pub IsUnclear : Sides → Side → ℕ → Type 0
IsUnclear sides A place = (place ≡ 0) × LacksMagic sides.a
IsUnclear sides B place = (LacksMagic sides.a → ⊥) × (((place ≡ 0) × LacksMagic sides.b) ⊎ ((place ≡ 5) × (LacksMagic sides.b → ⊥) × AreEqual sides))

-- One side counts, and it stands for no table.
pub record CurrentFails (columns : List Column) (sides : Sides) (side : Side) (why : SideFault) : Type 0 where
  pub current : IsCurrent side sides
  pub magic : HasMagic (on side sides)
  pub fails : SideFails columns (on side sides) why

-- Why two sides read as nothing. Memory may be wanted, and a disk may fail, whatever they hold.
abbrev pub OpenFails : List Column → Sides → OpenFault → Type 0
OpenFails columns sides fault.Disk = Unit {0}
OpenFails columns sides (fault.Damaged side place) = IsUnclear sides side place ⊎ CurrentFails columns sides side (side_fault.Damaged place)
OpenFails columns sides (fault.Schema column) = (side : Side) × CurrentFails columns sides side (side_fault.Schema column)
OpenFails columns sides (fault.Large limit) = (side : Side) × CurrentFails columns sides side (side_fault.Large limit)
OpenFails columns sides fault.Memory = Unit {0}

-- It says nothing of the sides: the disk failed, or memory was wanted.
abbrev pub IsOutside : OpenFault → Type 0
IsOutside fault.Disk = Unit {0}
IsOutside (fault.Damaged side place) = ⊥
IsOutside (fault.Schema column) = ⊥
IsOutside (fault.Large limit) = ⊥
IsOutside fault.Memory = Unit {0}

-- The count of faults rises where the disk failed, and stays with every other answer.
abbrev pub CountsOpen : OpenFault → ℕ → ℕ → Type 0
CountsOpen fault.Disk before now = bump before ≤ now
CountsOpen (fault.Damaged side place) before now = now ≡ before
CountsOpen (fault.Schema column) before now = now ≡ before
CountsOpen (fault.Large limit) before now = now ≡ before
CountsOpen fault.Memory before now = now ≡ before
