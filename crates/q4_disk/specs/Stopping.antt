-- A disk that stops in the middle of one call.
use Rattle.std.specs.Prelude.{◌≡◌, ℕ, ◌<◌, ◌≤◌}
use Rattle.q4_disk.specs.declared.stop.Phase.{Phase}
use Rattle.q4_disk.specs.declared.stop.Phase.TheVariants.{Before, At, Past}
use Rattle.q4_disk.specs.Told.{Told}
use Rattle.q4_disk.specs.Calls.{bump}
use Rattle.q4_disk.specs.Memory.{Memory, told_of}

pub record Stopping : Type 0 where
  -- the disk below
  pub memory : Memory
  -- the number of the call that breaks, the first call is 1
  pub stop : ℕ
  -- how many calls were made of this disk
  pub made : ℕ

-- it tells what the disk below tells
abbrev pub stopping_told : Stopping → Told
stopping_told d = told_of d.memory

-- where the next call stands: it comes before the stop, breaks in the middle, or comes after it
abbrev pub IsPhase : Phase → Stopping → Type 0
IsPhase Before d = bump d.made < d.stop
IsPhase At d = bump d.made ≡ d.stop
IsPhase Past d = d.stop < bump d.made

-- the next call fails
abbrev pub FailsNext : Stopping → Type 0
FailsNext d = d.stop ≤ bump d.made

-- one call more was made of it
pub record CountsOwn (old new : Stopping) : Type 0 where
  pub stop : new.stop ≡ old.stop
  pub made : new.made ≡ bump old.made
