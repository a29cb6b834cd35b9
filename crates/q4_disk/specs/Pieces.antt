-- Files that are read and written at offsets, in pieces and whole.
use Rattle.std.specs.Prelude.{◌≡◌, ◌⊎◌, ℕ, ◌-◌, ◌≤◌, min, List, ◌++◌, length, take, drop}
use Rattle.q4_disk.specs.Images.{written}
use Rattle.q4_disk.specs.Calls.{bump}

-- what is told of a file: its bytes, and how often it was synced
pub record FileView : Type 0 where
  pub bytes : List ℕ
  pub synced : ℕ

-- bytes written at an offset
abbrev pub file_after_write : FileView → ℕ → List ℕ → FileView
file_after_write file at new = record { bytes = written file.bytes at new; synced = file.synced }

abbrev pub file_after_cut : FileView → ℕ → FileView
file_after_cut file to = record { bytes = take to file.bytes; synced = file.synced }

-- synced once more
abbrev pub file_after_sync : FileView → FileView
file_after_sync file = record { bytes = file.bytes; synced = bump file.synced }

-- A read gave n bytes, and none at the end alone or where none was asked for.
pub record IsPiece (bytes : List ℕ) (at : ℕ) (before after : List ℕ) (n : ℕ) : Type 0 where
  pub within : n ≤ length bytes - at
  pub into : after ≡ take n (drop at bytes) ++ drop n before
  pub none : n ≡ 0 → (length before ≡ 0) ⊎ (length bytes ≤ at)

-- It gave all that the slice can hold and that stands behind the offset.
pub record IsWholeRead (bytes : List ℕ) (at : ℕ) (before after : List ℕ) (n : ℕ) : Type 0 where
  pub count : n ≡ min (length before) (length bytes - at)
  pub into : after ≡ take n (drop at bytes) ++ drop n before
