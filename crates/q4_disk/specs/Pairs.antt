-- The two files of a disk.
use Rattle.q4_disk.specs.declared.disk.Side.{Side}
use Rattle.q4_disk.specs.declared.disk.Side.TheVariants.{A, B}
use Rattle.q4_disk.specs.Pieces.{FileView}

-- what is told of the two
pub record PairView : Type 0 where
  pub a : FileView
  pub b : FileView

-- the file of a side
abbrev pub file_of : Side → PairView → FileView
file_of A files = files.a
file_of B files = files.b

-- both files, one of them as told, the other as it was
abbrev pub with_file : Side → FileView → PairView → PairView
with_file A file files = record { a = file; b = files.b }
with_file B file files = record { a = files.a; b = file }
