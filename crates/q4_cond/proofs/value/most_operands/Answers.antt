use Rattle.std.proofs.Common.{◌≡◌, ◌<◌, ◌+◌, length, drop, arith}
use Rattle.q4_cond.proofs.Operands.{most-more, one-more, drop-node}
use Rattle.q4_cond.proofs.value.most_operands.Goals as goal

pub loop-node-preserved : goal.loop-node-preserved
loop-node-preserved c =
    let xs = c.args.nodes.now in
    let i = c.loop-node.node-index in
    let inside : i < length xs = omega arith in
    let parts = drop-node xs i c.node-item.result inside c.node-item.is in
    let new = c.count_after-count.ensures in
    record {
      most = rw (c.max-most.ensures, new) (most-more c.loop-node.most c.loop-node.count _ c.node-item.result (drop (i + 1) xs) c.loop-node.invariant.counted (rw parts at c.loop-node.invariant.most));
      counted = omega (arith, c.max-most.ensures);
      few = omega (arith, c.max-most.ensures, new, one-more c.node-item.result c.loop-node.count, c.loop-node.invariant);
    }
