use Rattle.std.proofs.Common.{◌<◌, ◌≤◌, ◌+◌, length, drop, rules, arith}
use Rattle.arrayvec.specs.ArrayVec.{array_vec_len}
use Rattle.q4_cond.specs.Execution.{most_operands}
use Rattle.q4_cond.proofs.Operands.{room-here, room-more, drop-node}
use Rattle.q4_cond.proofs.value.execute.Goals as goal

pub execute_node-requires : goal.execute_node-requires
execute_node-requires g c =
    let xs = c.args.nodes.now in
    let i = c.loop-node.node-index in
    let inside : i < length xs = omega arith in
    (search rules, room-here g.row.N (array_vec_len c.loop-node.stack) c.node-item.result (drop (i + 1) xs) (rw (drop-node xs i c.node-item.result inside c.node-item.is) at c.loop-node.invariant.room))
