use Rattle.std.proofs.Common.{length}
use Rattle.q4_value.proofs.Runs.{Escaping}
use Rattle.q4_value.proofs.escaping.put_escaped.Given as goal

-- the text so far was put
abbrev pub invariant-loop-at : goal.invariant-loop-at
invariant-loop-at l = Escaping l.text l.rest l.fn.out l.out

abbrev pub decreases-loop-at : goal.decreases-loop-at
decreases-loop-at l = length l.rest
