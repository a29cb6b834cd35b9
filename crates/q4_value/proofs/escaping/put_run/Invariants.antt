use Rattle.std.proofs.Common.{length}
use Rattle.std.specs.List.{All}
use Rattle.q4_value.specs.Escape.{IsFieldByte}
use Rattle.q4_value.proofs.Runs.{Escaping}
use Rattle.q4_value.proofs.escaping.put_run.Given as goal

-- the run so far was put
abbrev pub invariant-loop-at : goal.invariant-loop-at
invariant-loop-at l = Escaping l.run l.rest l.fn.out l.out × All IsFieldByte l.rest

abbrev pub decreases-loop-at : goal.decreases-loop-at
decreases-loop-at l = length l.rest
