use Rattle.std.proofs.Common.{[], ℕ, List, length}
use Rattle.q4_value.proofs.Runs.{Escaping}
use Rattle.q4_proto.specs.Pieces.{writing, Puts}
use Rattle.q4_proto.proofs.rows.put_escaped.Given as goal

-- the text so far was put
abbrev pub invariant-loop-at : goal.invariant-loop-at
invariant-loop-at g l = (put : List ℕ) × Escaping l.text l.rest [] put × Puts (writing (g.W.Sink.written l.fn.sink) (g.W.Sink.faults l.fn.sink) l.fn.reply) (writing (g.W.Sink.written l.sink) (g.W.Sink.faults l.sink) l.reply) put

abbrev pub decreases-loop-at : goal.decreases-loop-at
decreases-loop-at g l = length l.rest
