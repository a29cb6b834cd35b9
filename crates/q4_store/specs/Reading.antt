-- What opening gives of the bytes of two sides.
use Rattle.std.specs.Prelude.{◌≡◌, ◌<◌, ◌+◌, ◌⊎◌, ◌↔◌, ℕ, List}
use Rattle.q4_value.specs.declared.column.Column.{Column}
use Rattle.q4_table.specs.TableState.{TableState, new_table}
use Rattle.q4_record.specs.Side.{HasMagic, generation_of, IsOpen, IsNarrow, Side as IsSide}
use Rattle.q4_disk.specs.declared.disk.Side.{Side}
use Rattle.q4_disk.specs.Told.{Sides}
use Rattle.q4_disk.specs.Images.{on, other}

-- where it is open, it has the magic and a lesser generation
abbrev pub IsBehind : ℕ → List ℕ → Type 0
IsBehind generation bytes = IsOpen bytes → HasMagic bytes × (generation_of bytes < generation)

-- The side that counts: the open one, and of two open ones that of greater generation.
pub record IsCurrent (side : Side) (sides : Sides) : Type 0 where
  pub is_open : IsOpen (on side sides)
  pub behind : IsBehind (generation_of (on side sides)) (on (other side) sides)

-- The current side stands for the table, by a schema of the columns or a narrower one.
pub record ReadsSide (columns : List Column) (sides : Sides) (table : TableState) (generation : ℕ) : Type 0 where
  pub side : Side
  pub len : ℕ
  pub current : IsCurrent side sides
  pub stands : IsSide columns (on side sides) table generation len

-- Neither side is open: there is no table yet, and a new one has generation 1.
pub record ReadsNew (columns : List Column) (sides : Sides) (table : TableState) (generation : ℕ) : Type 0 where
  pub closed_a : IsOpen sides.a → ⊥
  pub closed_b : IsOpen sides.b → ⊥
  pub table_is : table ≡ new_table columns
  pub generation_is : generation ≡ 1

-- What two sides read as: a table, and its generation. Sides with a fault read as nothing.
abbrev pub Reads : List Column → Sides → TableState → ℕ → Type 0
Reads columns sides table generation = ReadsSide columns sides table generation ⊎ ReadsNew columns sides table generation

-- The current side stands for a table, and its schema is narrower than the columns: opening rewrites it.
pub record IsOutgrown (columns : List Column) (sides : Sides) : Type 0 where
  pub side : Side
  pub current : IsCurrent side sides
  pub narrow : IsNarrow columns (on side sides)
  pub table : TableState
  pub generation : ℕ
  pub len : ℕ
  pub stands : IsSide columns (on side sides) table generation len

-- They read as the table, and opening rewrites nothing.
pub record ReadsOwn (columns : List Column) (sides : Sides) (table : TableState) (generation : ℕ) : Type 0 where
  pub reads : Reads columns sides table generation
  pub own : IsOutgrown columns sides → ⊥

-- What opening gives of two sides: the table that they read as, with its generation, or, where the schema of the current
-- side is narrower, with one greater by one.
abbrev pub Opens : List Column → Sides → TableState → ℕ → Type 0
Opens columns sides table generation =
    ReadsOwn columns sides table generation
    ⊎ (IsOutgrown columns sides × ((told : ℕ) × Reads columns sides table told × (generation ≡ told + 1)))

-- Both read as the same, or both as nothing, and opening rewrites both or neither.
pub record Alike (columns : List Column) (one two : Sides) : Type 0 where
  pub forth : (table : TableState) (generation : ℕ) → Reads columns one table generation → Reads columns two table generation
  pub back : (table : TableState) (generation : ℕ) → Reads columns two table generation → Reads columns one table generation
  pub outgrown : IsOutgrown columns one ↔ IsOutgrown columns two

-- it reads as one of these images
abbrev pub ReadsAs : List Column → (Sides → Type 0) → Sides → Type 0
ReadsAs columns images c = (d : Sides) × images d × Alike columns d c

-- The current side of the one is of a narrower schema, and the other reads as its table, with a generation greater by one.
pub record IsRewritten (columns : List Column) (one two : Sides) : Type 0 where
  pub outgrown : IsOutgrown columns one
  pub table : TableState
  pub generation : ℕ
  pub was : Reads columns one table generation
  pub now : ReadsOwn columns two table (generation + 1)

-- what opening the one may leave: what reads as it, or what it is rewritten to
abbrev pub MayLeave : List Column → Sides → Sides → Type 0
MayLeave columns one two = Alike columns one two ⊎ IsRewritten columns one two

-- it is what opening one of these images may leave
abbrev pub ReadsAsOpened : List Column → (Sides → Type 0) → Sides → Type 0
ReadsAsOpened columns images c = (d : Sides) × images d × MayLeave columns d c

-- it reads as one of these images, or as this table, of which opening rewrites nothing
abbrev pub ReadsAsGiven : List Column → TableState → ℕ → (Sides → Type 0) → Sides → Type 0
ReadsAsGiven columns table generation images c = ReadsAs columns images c ⊎ ReadsOwn columns c table generation
