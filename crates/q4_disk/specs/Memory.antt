-- What contracts see of a disk in memory.
use Rattle.std.specs.Prelude.{◌≡◌, ◌⊎◌, true, List, [], ◌∷◌, length, Result, Ok, Err, OnErr}
use Rattle.q4_disk.specs.declared.history.Step.{Step}
use Rattle.q4_disk.specs.declared.tally.Tally.{Tally}
use Rattle.q4_disk.specs.Told.{Told}
use Rattle.q4_disk.specs.Calls.{bump, no_calls}
use Rattle.q4_disk.specs.Replay.{read_after, IsImage, Since}

-- the calls that changed it, the newest first, and the numbers of all
pub record Memory : Type 0 where
  pub steps : List Step
  pub tally : Tally

-- a new disk: no byte, no call
abbrev pub new_memory : Memory
new_memory = record { steps = []; tally = no_calls }

-- a disk in memory is honest, and its record of calls says the rest
abbrev pub told_of : Memory → Told
told_of m = record {
  honest = true;
  bytes = read_after m.steps;
  images = IsImage m.steps;
  moment = length m.steps;
  since = Since m.steps;
  faults = m.tally.faults;
  calls = m.tally.calls;
  writes = m.tally.writes;
  syncs = m.tally.syncs;
  last = m.tally.last;
}

-- one step more stands in the record
pub record HasStep (step : Step) (old new : Memory) : Type 0 where
  pub steps : new.steps ≡ step ∷ old.steps
  pub refused : new.tally.refused ≡ old.tally.refused

-- memory was wanted and refused, and nothing was done
pub record WasRefused (old new : Memory) : Type 0 where
  pub steps : new.steps ≡ old.steps
  pub refused : new.tally.refused ≡ bump old.tally.refused

-- A call that is done stands in the record. It fails only where memory is refused.
abbrev pub DoesBy : {T E : Type 0} → Step → Result T E → Memory → Memory → Type 0
DoesBy step (Ok x) old new = HasStep step old new
DoesBy step (Err why) old new = WasRefused old new

-- A call that broke in the middle stands in the record, unless memory was refused.
abbrev pub BreaksBy : Step → Memory → Memory → Type 0
BreaksBy step old new = HasStep step old new ⊎ WasRefused old new

-- a call that does nothing
pub record DoesNothing (old new : Memory) : Type 0 where
  pub steps : new.steps ≡ old.steps
  pub refused : new.tally.refused ≡ old.tally.refused

-- a call that fails changes nothing that is read
abbrev pub KeepsRead : {T E : Type 0} → Result T E → Memory → Memory → Type 0
KeepsRead result old new = OnErr result (read_after new.steps ≡ read_after old.steps)
