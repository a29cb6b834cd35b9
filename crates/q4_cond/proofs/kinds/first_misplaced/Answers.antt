use Rattle.std.proofs.Common.{sym, ◌∙◌, arith}
use Rattle.q4_cond.proofs.Marking.{marked_leaf, marked_other}
use Rattle.q4_cond.proofs.kinds.first_misplaced.Goals as goal
use Rattle.q4_cond.proofs.kinds.first_misplaced.Goals.{in-Leaf+else-is_stray, in_default}

pub loop-i-preserved : goal.loop-i-preserved
loop-i-preserved c =
    let inv = c.loop-i.invariant in
    elim c.match-node.branch [
      | in-Leaf+else-is_stray w ↦ record {
        marked = marked_leaf c.args.kinds.now c.loop-i.before _ c.args.nodes.now c.loop-i.i c.loop-i.leaf _ c.args.places.now c.index-nodes-i.result w.in-Leaf.atom _ c.loop-i-test.true c.index-nodes-i.is w.in-Leaf.is (sym w.is_stray.ensures ∙ w.if-is_stray.false) (w.before-is ∙ w.is_text-before.ensures) w.leaf-is inv.marked;
        within = omega arith;
      }
      | in_default w ↦ record {
        marked = marked_other c.args.kinds.now c.loop-i.before _ c.args.nodes.now c.loop-i.i c.loop-i.leaf _ c.args.places.now c.index-nodes-i.result _ c.loop-i-test.true c.index-nodes-i.is w.in_default.not-Leaf w.before-is w.leaf-is inv.marked;
        within = omega arith;
      }
    ]
