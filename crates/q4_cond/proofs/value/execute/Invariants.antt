use Rattle.std.proofs.Common.{◌≡◌, ◌≤◌, [], drop}
use Rattle.arrayvec.specs.ArrayVec.{array_vec_len}
use Rattle.q4_cond.specs.Execution.{meanings, execute, most_operands}
use Rattle.q4_cond.proofs.value.execute.Given as goal

abbrev pub invariant-loop-node : goal.invariant-loop-node
invariant-loop-node g l = record {
  executed : execute l.row (drop l.node-index l.nodes) (meanings l.stack.items) ≡ execute l.row l.nodes [];
  room : most_operands (drop l.node-index l.nodes) (array_vec_len l.stack) ≤ g.row.N;
}
