-- What a maker of disks says.
use Rattle.std.specs.Prelude.{◌≡◌, ℕ, ◌≤◌, Bool, IsTrue, Result, OnOk, IsErrOf}
use Rattle.q4_disk.specs.declared.maker.MakeFault.{MakeFault}
use Rattle.q4_disk.specs.declared.maker.MakeFault.TheVariants.{Failed, Memory}
use Rattle.q4_disk.specs.Told.{Sides, Told}
use Rattle.q4_disk.specs.Images.{Within}
use Rattle.q4_disk.specs.Calls.{bump}
use Rattle.q4_disk.specs.Replay.{no_bytes}

-- an honest disk with these images
pub record IsMadeAs (told : Told) (first : Sides → Type 0) : Type 0 where
  pub honest : IsTrue told.honest
  pub images : Within told.images first
  pub each : Within first told.images

-- what is told of a name stays
pub record StaysTold (old new : Bool) (before after : Sides → Type 0) : Type 0 where
  pub tells : new ≡ old
  pub images : Within after before
  pub each : Within before after

-- The count of faults rises exactly where the answer is Failed.
pub record CountsMake {T : Type 0} (result : Result T MakeFault) (before now : ℕ) : Type 0 where
  pub later : before ≤ now
  pub failed : IsErrOf result Failed → bump before ≤ now
  pub memory : IsErrOf result Memory → now ≡ before
  pub stayed : OnOk result (now ≡ before)

-- a disk without a byte
abbrev pub IsEmpty : Sides → Type 0
IsEmpty c = c ≡ no_bytes
