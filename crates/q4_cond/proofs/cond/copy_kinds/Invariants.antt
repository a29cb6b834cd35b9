use Rattle.std.proofs.Common.{◌≡◌, take}
use Rattle.q4_cond.proofs.cond.copy_kinds.Given as goal

abbrev pub invariant-loop-kind : goal.invariant-loop-kind
invariant-loop-kind l = l.copied.items ≡ take l.kind-index l.kinds
