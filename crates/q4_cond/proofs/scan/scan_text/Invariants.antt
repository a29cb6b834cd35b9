use Rattle.std.proofs.Common.{◌≤◌, ◌-◌, length}
use Rattle.q4_cond.specs.Machine.{state_of}
use Rattle.q4_cond.specs.Scanned.{Scanned}
use Rattle.q4_cond.proofs.scan.scan_text.Given as goal

abbrev pub invariant-loop-place : goal.invariant-loop-place
invariant-loop-place l = record {
  scanned : Scanned l.columns l.text l.place (state_of l.scan.reader.wants l.scan.reader.frames l.scan.reader.nodes.items) l.scan.atoms.items l.scan.unknown;
  within : l.place ≤ length l.text;
}

abbrev pub decreases-loop-place : goal.decreases-loop-place
decreases-loop-place l = length l.initial.text - l.place
