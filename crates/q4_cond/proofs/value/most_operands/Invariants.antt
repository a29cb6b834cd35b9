use Rattle.std.proofs.Common.{◌≡◌, ◌≤◌, drop}
use Rattle.std.specs.Prelude.{max}
use Rattle.q4_cond.specs.Execution.{most_operands}
use Rattle.q4_cond.proofs.value.most_operands.Given as goal

abbrev pub invariant-loop-node : goal.invariant-loop-node
invariant-loop-node l = record {
  most : max l.most (most_operands (drop l.node-index l.nodes) l.count) ≡ most_operands l.nodes 0;
  counted : l.count ≤ l.most;
  few : l.most ≤ l.node-index;
}
