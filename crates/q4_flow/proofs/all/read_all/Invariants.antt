use Rattle.std.proofs.Common.{◌≡◌, ◌+◌, length}
use Rattle.q4_flow.specs.Flow.{Gave}
use Rattle.q4_flow.proofs.all.read_all.Given as goal

-- the bytes so far are those that were taken, and the room is what they leave
abbrev pub invariant-loop-bytes : goal.invariant-loop-bytes
invariant-loop-bytes g l = record {
  size : length l.piece.items ≡ 65536;
  gave : Gave (g.S.Source.left l.fn.source) (g.S.Source.left l.source) l.bytes;
  room : length l.bytes + l.room ≡ l.fn.most;
  faults : g.S.Source.faults l.source ≡ g.S.Source.faults l.fn.source;
}

abbrev pub decreases-loop-bytes : goal.decreases-loop-bytes
decreases-loop-bytes g l = g.S.Source.reads l.source
