-- What contracts see of the records that wait for a commit, and of the memory for more.
use Rattle.std.specs.Prelude.{◌≡◌, ℕ, ◌-◌, ◌*◌, ◌≤◌, List, [], length, take, drop}
use Rattle.q4_value.specs.declared.column.Column.{Column}
use Rattle.q4_store.specs.Commit.{sealed}

-- their bytes, and for how many bytes more there is memory
pub record Waiting : Type 0 where
  pub records : List ℕ
  pub room : ℕ

-- the records of bytes that are sealed
abbrev pub unsealed : List ℕ → List ℕ
unsealed bytes = take (length bytes - 5) (drop 4 bytes)

abbrev pub IsSealed : List ℕ → Type 0
IsSealed bytes = bytes ≡ sealed (unsealed bytes)

-- What a store of so many rows has in memory: the columns, an empty batch and room for the end of each row in it, and as
-- much room for a copy.
pub record IsMemory (columns : List Column) (rows : ℕ) (own : List Column) (batch : Waiting) (ends : List ℕ) (capacity : ℕ) : Type 0 where
  pub columns_are : own ≡ columns
  pub none : batch.records ≡ []
  pub room : 9 * rows ≤ batch.room
  pub no_ends : ends ≡ []
  pub copy_room : 9 * rows ≤ capacity
