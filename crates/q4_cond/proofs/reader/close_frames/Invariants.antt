use Rattle.std.proofs.Common.{◌≡◌, ◌++◌, length}
use Rattle.q4_cond.specs.Machine.{kept_frames, closed_nodes}
use Rattle.q4_cond.proofs.reader.close_frames.Given as goal

abbrev pub invariant-loop-frame : goal.invariant-loop-frame
invariant-loop-frame l = record {
  kept : kept_frames l.level l.frames ≡ kept_frames l.level l.initial.frames;
  closed : l.nodes.items ++ closed_nodes l.level l.frames ≡ l.initial.nodes.items ++ closed_nodes l.level l.initial.frames;
}

abbrev pub decreases-loop-frame : goal.decreases-loop-frame
decreases-loop-frame l = length l.frames
