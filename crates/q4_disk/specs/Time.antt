-- What crashes at the moments of a run may have left.
use Rattle.std.specs.Prelude.{◌≡◌, ℕ, ◌≤◌, ◌⊎◌}
use Rattle.q4_disk.specs.declared.disk.Side.{Side}
use Rattle.q4_disk.specs.Told.{Sides, Told}
use Rattle.q4_disk.specs.Images.{on, other}

-- Time goes on: a crash since t might have left what it might have left before, or what it may leave now.
pub record Elapses (old new : Told) : Type 0 where
  pub later : old.moment ≤ new.moment
  pub nothing_else : (t : ℕ) (c : Sides) → t ≤ old.moment → new.since t c → old.since t c ⊎ new.images c
  pub keeps : (t : ℕ) (c : Sides) → t ≤ old.moment → old.since t c → new.since t c

-- Each image of a crash at some moment from old to new has P.
pub record LeavesOnly (old new : Told) (P : Sides → Type 0) : Type 0 where
  pub later : old.moment ≤ new.moment
  pub each : (c : Sides) → new.since old.moment c → P c
  -- so that a run that began earlier can go on by this one
  pub adds : (t : ℕ) (c : Sides) → t ≤ old.moment → new.since t c → old.since t c ⊎ P c

-- What a crash may leave of the other side stays.
pub record OtherStays (side : Side) (old new : Told) : Type 0 where
  pub each : (c : Sides) → new.images c → (d : Sides) × old.images d × (on (other side) c ≡ on (other side) d)
