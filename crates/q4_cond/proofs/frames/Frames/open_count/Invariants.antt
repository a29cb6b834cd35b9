use Rattle.std.proofs.Common.{◌≡◌, ◌≤◌, take, reverse}
use Rattle.q4_cond.specs.Machine.{open_count}
use Rattle.q4_cond.proofs.frames.Frames.open_count.Given as goal

abbrev pub invariant-loop-frame : goal.invariant-loop-frame
invariant-loop-frame l = record {
  counted : l.count ≡ open_count (reverse (take l.frame-index l.frame-items));
  within : l.count ≤ l.frame-index;
}
