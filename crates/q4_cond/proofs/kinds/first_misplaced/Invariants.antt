use Rattle.std.proofs.Common.{◌≡◌, ◌≤◌, false, drop}
use Rattle.q4_cond.specs.Reading.{first_marked}
use Rattle.q4_cond.specs.Marks.{strays}
use Rattle.q4_cond.proofs.kinds.first_misplaced.Given as goal

abbrev pub invariant-loop-i : goal.invariant-loop-i
invariant-loop-i l = record {
  marked : first_marked (strays l.kinds l.before (drop l.i l.nodes)) (drop l.leaf l.places) ≡ first_marked (strays l.kinds false l.nodes) l.places;
  within : l.leaf ≤ l.i;
}
