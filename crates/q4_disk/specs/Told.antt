-- What contracts see of a disk.
use Rattle.std.specs.Prelude.{ℕ, Bool, List, Option}
use Rattle.q4_disk.specs.declared.tally.DeviceCall.{DeviceCall}

-- the bytes of the two sides
pub record Sides : Type 0 where
  pub a : List ℕ
  pub b : List ℕ

-- a disk at one moment
pub record Told : Type 1 where
  -- what is said of bytes and images holds only of an honest disk
  pub honest : Bool
  -- as read now
  pub bytes : Sides
  -- what a crash at this moment may leave
  pub images : Sides → Type 0
  -- the moment, as a number that doesn't fall
  pub moment : ℕ
  -- what a crash at some moment from that one on might have left, within a call or between two
  pub since : ℕ → Sides → Type 0
  -- how often a call failed, and how many device calls, writes and syncs were made, failed ones among them
  pub faults : ℕ
  pub calls : ℕ
  pub writes : ℕ
  pub syncs : ℕ
  -- the last device call, whether it failed or not
  pub last : Option DeviceCall
