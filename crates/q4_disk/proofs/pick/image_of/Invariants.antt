use Rattle.std.proofs.Common.{◌≡◌, reverse, take}
use Rattle.q4_disk.specs.Images.{on}
use Rattle.q4_disk.specs.Replay.{read_after}
use Rattle.q4_disk.specs.Picked.{picked}
use Rattle.q4_disk.proofs.pick.image_of.Given as goal

-- the calls so far were made again
abbrev pub invariant-loop-step : goal.invariant-loop-step
invariant-loop-step l = record {
  seen : on l.side (read_after (reverse (take l.step-index l.steps))) ≡ l.replay.seen.items;
  left : on l.side (picked l.pick (reverse (take l.step-index l.steps))) ≡ l.replay.left.items;
}
