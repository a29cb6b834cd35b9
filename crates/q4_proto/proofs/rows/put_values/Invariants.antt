use Rattle.std.proofs.Common.{take}
use Rattle.std.specs.List.{flat_map}
use Rattle.q4_proto.specs.Text.{tab_value}
use Rattle.q4_proto.specs.Pieces.{writing, Puts}
use Rattle.q4_proto.proofs.rows.put_values.Given as goal

-- the values so far were put
abbrev pub invariant-loop-place : goal.invariant-loop-place
invariant-loop-place g l = Puts (writing (g.W.Sink.written l.fn.sink) (g.W.Sink.faults l.fn.sink) l.fn.reply) (writing (g.W.Sink.written l.sink) (g.W.Sink.faults l.sink) l.reply) (flat_map tab_value (take l.place l.row))
