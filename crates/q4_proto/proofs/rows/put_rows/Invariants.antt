use Rattle.std.proofs.Common.{◌++◌, false, length, take, decimal}
use Rattle.std.specs.Prelude.{codes}
use Rattle.std.specs.List.{flat_map}
use Rattle.q4_machine.specs.declared.shown.NumberedRow.{NumberedRow}
use Rattle.q4_proto.specs.Text.{row_line, label_front}
use Rattle.q4_proto.specs.Pieces.{writing, Puts}
use Rattle.q4_proto.proofs.rows.put_rows.Given as goal

-- the rows so far were put behind their number
abbrev pub invariant-loop-shown : goal.invariant-loop-shown
invariant-loop-shown g l = Puts (record { written = g.W.Sink.written l.fn.sink; faults = g.W.Sink.faults l.fn.sink; waiting = label_front l.fn.label ++ codes "rows\t" ++ decimal (length l.rows) ++ codes "\n"; failed = false }) (writing (g.W.Sink.written l.sink) (g.W.Sink.faults l.sink) l.reply) (flat_map (λ (shown : NumberedRow). label_front l.fn.label ++ row_line shown) (take l.shown-index l.shown-items))
