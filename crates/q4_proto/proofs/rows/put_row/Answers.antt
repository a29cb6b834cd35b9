use Rattle.std.proofs.Common.{◌≡◌, ◌++◌, ◌∙◌, decimal, subst}
use Rattle.std.specs.Prelude.{codes}
use Rattle.std.specs.List.{flat_map}
use Rattle.q4_proto.specs.Text.{tab_value, row_line}
use Rattle.q4_proto.specs.Pieces.{Writing, writing, Puts}
use Rattle.q4_proto.proofs.Writing.{put_then}
use Rattle.q4_proto.proofs.rows.put_row.Goals as goal

pub returns : goal.returns
returns g c =
    let digits : c.as_bytes.result.now ≡ decimal c.args.shown.now.number = c.as_bytes.ensures.value ∙ c.format.ensures.text in
    let values = flat_map tab_value c.args.shown.now.row in
    let first : Writing = writing (g.W.Sink.written c.args.sink.now) (g.W.Sink.faults c.args.sink.now) c.args.reply.now in
    let front : Writing = writing (g.W.Sink.written c.put.new.sink) (g.W.Sink.faults c.put.new.sink) c.put.new.self in
    let word : Writing = writing (g.W.Sink.written c.put-2.new.sink) (g.W.Sink.faults c.put-2.new.sink) c.put-2.new.self in
    let number : Writing = writing (g.W.Sink.written c.put-3.new.sink) (g.W.Sink.faults c.put-3.new.sink) c.put-3.new.self in
    let row : Writing = writing (g.W.Sink.written c.put_values.new.sink) (g.W.Sink.faults c.put_values.new.sink) c.put_values.new.reply in
    let after : Writing = writing (g.W.Sink.written c.put-4.new.sink) (g.W.Sink.faults c.put-4.new.sink) c.put-4.new.self in
    let numbered = put_then front word number (codes "row\t") (decimal c.args.shown.now.number) c.put-2.ensures (subst (Puts word number) digits c.put-3.ensures) in
    let valued = put_then front number row (codes "row\t" ++ decimal c.args.shown.now.number) values numbered c.put_values.ensures in
    let line = put_then front row after (codes "row\t" ++ decimal c.args.shown.now.number ++ values) (codes "\n") valued c.put-4.ensures in
    put_then first front after c.args.front.now (row_line c.args.shown.now) c.put.ensures line
