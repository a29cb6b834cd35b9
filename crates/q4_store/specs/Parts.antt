-- What the parts of a write onto the side that isn't current stand on.
use Rattle.std.specs.Prelude.{◌≡◌, ◌≢◌, ◌<◌, ◌⊎◌, ℕ, Bool, true, false, List, ◌∷◌, drop, replicate}
use Rattle.q4_record.specs.Side.{base_at, generation_of, HasMagic, IsOpen, OwnSide}
use Rattle.q4_value.specs.declared.column.Column.{Column}
use Rattle.q4_table.specs.TableState.{TableState}
use Rattle.q4_disk.specs.declared.disk.Side.{Side}
use Rattle.q4_disk.specs.Told.{Sides, Told}
use Rattle.q4_disk.specs.Images.{on, other, size, Within}
use Rattle.q4_store.specs.Reading.{IsBehind}

-- its gate is there and closed
pub record IsShut (bytes : List ℕ) : Type 0 where
  pub gate : ℕ
  pub rest : List ℕ
  pub closed : gate ≢ 1
  pub is : bytes ≡ gate ∷ rest

-- only its gate, which is closed, and 20 zeros
pub record IsBlank (bytes : List ℕ) : Type 0 where
  pub gate : ℕ
  pub closed : gate ≢ 1
  pub is : bytes ≡ gate ∷ replicate 20 0

-- the other side is open and has a greater generation
pub record IsOutdone (side : Side) (sides : Sides) : Type 0 where
  pub other_open : IsOpen (on (other side) sides)
  pub magic : HasMagic (on side sides)
  pub lesser : generation_of (on side sides) < generation_of (on (other side) sides)

-- where it is open, the other side counts
abbrev pub IsIdle : Side → Sides → Type 0
IsIdle side sides = IsOpen (on side sides) → IsOutdone side sides

-- it counts for nothing, whatever its first byte is
abbrev pub IsSpare : Side → Sides → Type 0
IsSpare side sides = (size side sides < base_at) ⊎ IsOutdone side sides

-- what is asked of a side whose gate is to be closed, where it is known to be, and where it isn't
abbrev pub IsReady : Bool → Side → Sides → Type 0
IsReady true side sides = IsShut (on side sides)
IsReady false side sides = IsSpare side sides

-- the bytes with an open gate
abbrev pub opened : List ℕ → List ℕ
opened bytes = 1 ∷ drop 1 bytes

-- In each image the side has the bytes that are read and a closed gate. With an open gate it would stand for the table,
-- and the other side would be behind it.
pub record IsFilled (told : Told) (side : Side) (columns : List Column) (table : TableState) (generation len : ℕ) : Type 0 where
  pub shut : IsShut (on side told.bytes)
  pub only : Within told.images (λ c. on side c ≡ on side told.bytes)
  pub stands : OwnSide columns (opened (on side told.bytes)) table generation len
  pub behind : Within told.images (λ c. IsBehind generation (on (other side) c))
