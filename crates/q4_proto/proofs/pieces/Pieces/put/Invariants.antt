use Rattle.std.proofs.Common.{◌≡◌, ◌+◌, ◌++◌, ℕ, List, length}
use Rattle.q4_proto.specs.Pieces.{writing, Puts}
use Rattle.q4_proto.proofs.pieces.Pieces.put.Given as goal

-- the piece so far was put
abbrev pub invariant-loop-rest : goal.invariant-loop-rest
invariant-loop-rest g l = (front : List ℕ) × (l.piece ≡ front ++ l.rest) × Puts (writing (g.W.Sink.written l.fn.sink) (g.W.Sink.faults l.fn.sink) l.fn.self) (writing (g.W.Sink.written l.sink) (g.W.Sink.faults l.sink) l.self) front

-- a buffer that went out is empty
abbrev pub decreases-loop-rest : goal.decreases-loop-rest
decreases-loop-rest g l = length l.rest + length l.self.waiting
