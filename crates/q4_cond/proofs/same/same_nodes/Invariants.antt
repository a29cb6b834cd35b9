use Rattle.std.proofs.Common.{◌≡◌, take}
use Rattle.q4_cond.proofs.same.same_nodes.Given as goal

-- the nodes so far are the same
abbrev pub invariant-loop-i : goal.invariant-loop-i
invariant-loop-i l = take l.i l.one ≡ take l.i l.other
