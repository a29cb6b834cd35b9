-- A disk whose calls of given numbers fail.
use Rattle.std.specs.Prelude.{◌≡◌, ℕ, List, Contains}
use Rattle.q4_disk.specs.Told.{Told}
use Rattle.q4_disk.specs.Calls.{bump}
use Rattle.q4_disk.specs.Memory.{Memory, told_of}

pub record Failing : Type 0 where
  -- the disk below
  pub memory : Memory
  -- the numbers of the calls that fail, the first call is 1
  pub numbers : List ℕ
  -- how many calls were made of this disk
  pub made : ℕ

-- it tells what the disk below tells
abbrev pub failing_told : Failing → Told
failing_told d = told_of d.memory

-- the next call is one that fails
abbrev pub FailsNext : Failing → Type 0
FailsNext d = Contains d.numbers (bump d.made)

-- one call more was made of it
pub record CountsOwn (old new : Failing) : Type 0 where
  pub numbers : new.numbers ≡ old.numbers
  pub made : new.made ≡ bump old.made
