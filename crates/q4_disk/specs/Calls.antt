-- What each device call does.
use Rattle.std.specs.Prelude.{◌≡◌, ℕ, ◌+◌, ◌-◌, ◌^◌, ◌≤◌, min, List, ◌++◌, length, take, drop, Some, None, Result, IfOk, OnOk, OnErr}
use Rattle.q4_disk.specs.declared.disk.Side.{Side}
use Rattle.q4_disk.specs.declared.tally.Tally.{Tally}
use Rattle.q4_disk.specs.declared.tally.DeviceCall.{DeviceCall}
use Rattle.q4_disk.specs.declared.tally.DeviceCall.TheVariants as call
use Rattle.q4_disk.specs.Told.{Sides, Told}
use Rattle.q4_disk.specs.Images.{on, put, size, written, Torn, Cut, Sided, Within, Follows, Leads}
use Rattle.q4_disk.specs.Time.{Elapses}

-- one more, up to the end of its type
abbrev pub bump : ℕ → ℕ
bump n = min (n + 1) (2 ^ 64 - 1)

abbrev pub no_calls : Tally
no_calls = record { last = None; faults = 0; refused = 0; calls = 0; writes = 0; syncs = 0 }

-- A count of faults never falls. It rises where the call fails, and stays where it doesn't.
pub record CountsFault {T E : Type 0} (result : Result T E) (before now : ℕ) : Type 0 where
  pub later : before ≤ now
  pub failed : OnErr result (bump before ≤ now)
  pub stayed : OnOk result (now ≡ before)

-- what holds of each call, whatever the disk tells
pub record IsCounted {T E : Type 0} (made : DeviceCall) (result : Result T E) (old new : Told) : Type 0 where
  pub honest : new.honest ≡ old.honest
  pub faults : CountsFault result old.faults new.faults
  pub calls : new.calls ≡ bump old.calls
  pub last : new.last ≡ Some made

-- a call of size, read or cut
pub record IsCall {T E : Type 0} (made : DeviceCall) (result : Result T E) (old new : Told) : Type 0 where
  pub counted : IsCounted made result old new
  pub writes : new.writes ≡ old.writes
  pub syncs : new.syncs ≡ old.syncs

-- a write of so many bytes at an offset
pub record IsWrite {T E : Type 0} (side : Side) (at count : ℕ) (result : Result T E) (old new : Told) : Type 0 where
  pub counted : IsCounted (call.Write side at count) result old new
  pub writes : new.writes ≡ bump old.writes
  pub syncs : new.syncs ≡ old.syncs

pub record IsSync {T E : Type 0} (side : Side) (result : Result T E) (old new : Told) : Type 0 where
  pub counted : IsCounted (call.Sync side) result old new
  pub writes : new.writes ≡ old.writes
  pub syncs : new.syncs ≡ bump old.syncs

-- bytes and images stay
pub record Rests (old new : Told) : Type 0 where
  pub time : Elapses old new
  pub bytes : new.bytes ≡ old.bytes
  pub images : Within new.images old.images
  pub kept : Within old.images new.images

pub record Sized {E : Type 0} (side : Side) (result : Result ℕ E) (old new : Told) : Type 0 where
  pub rests : Rests old new
  pub size : IfOk result (λ n. n ≡ size side old.bytes)

-- as many bytes as stand after the offset, at most the slice's length; the slice's end stays
pub record Read {E : Type 0} (side : Side) (at : ℕ) (before after : List ℕ) (result : Result ℕ E) (old new : Told) : Type 0 where
  pub rests : Rests old new
  pub count : IfOk result (λ n. n ≡ min (length before) (size side old.bytes - at))
  pub into : IfOk result (λ n. after ≡ take n (drop at (on side old.bytes)) ++ drop n before)

-- A call that takes the bytes of one side to others, and leaves of its images what the step allows. After a call that
-- fails, any bytes are read that a crash inside it may leave.
pub record Steps {T E : Type 0} (side : Side) (step : List ℕ → List ℕ → Type 0) (after : List ℕ) (result : Result T E) (old new : Told) : Type 0 where
  pub time : Elapses old new
  pub done : OnOk result (new.bytes ≡ put side after old.bytes)
  pub failed : OnErr result (Sided side step old.bytes new.bytes)
  -- no image but by the step, each of them after success, and always those that there were
  pub images : Follows (Sided side step) old.images new.images
  pub each : OnOk result (Leads (Sided side step) old.images new.images)
  pub kept : Within old.images new.images

abbrev pub Wrote : {T E : Type 0} → Side → ℕ → List ℕ → Result T E → Told → Told → Type 0
Wrote side at bytes result old new = Steps side (Torn at (length bytes)) (written (on side old.bytes) at bytes) result old new

abbrev pub DidCut : {T E : Type 0} → Side → ℕ → Result T E → Told → Told → Type 0
DidCut side n result old new = Steps side (Cut n) (take n (on side old.bytes)) result old new

-- A sync that succeeds leaves of its side what is read, with each image of the other side. One that fails changes nothing.
pub record Synced {T E : Type 0} (side : Side) (result : Result T E) (old new : Told) : Type 0 where
  pub time : Elapses old new
  pub bytes : new.bytes ≡ old.bytes
  pub images : Within new.images old.images
  pub durable : OnOk result ((c : Sides) → new.images c → on side c ≡ on side old.bytes)
  pub kept : OnOk result ((c : Sides) → old.images c → new.images (put side (on side old.bytes) c))
  pub failed : OnErr result (Within old.images new.images)
