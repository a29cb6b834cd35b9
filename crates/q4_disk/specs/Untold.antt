-- What contracts see of a disk of real files: its counts, and no content.
use Rattle.std.specs.Prelude.{false}
use Rattle.q4_disk.specs.declared.tally.Tally.{Tally}
use Rattle.q4_disk.specs.Told.{Sides, Told}
use Rattle.q4_disk.specs.Replay.{no_bytes}

-- nothing is told of what a crash may leave
abbrev pub no_image : Sides → Type 0
no_image c = ⊥

abbrev pub untold : Tally → Told
untold tally = record {
  honest = false;
  bytes = no_bytes;
  images = no_image;
  moment = 0;
  since = λ t c. ⊥;
  faults = tally.faults;
  calls = tally.calls;
  writes = tally.writes;
  syncs = tally.syncs;
  last = tally.last;
}
