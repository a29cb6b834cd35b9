use Rattle.std.proofs.Common.{◌≡◌, ◌<◌, ◌++◌, ◌∙◌, List, ℕ, length, take, decimal, sym, ap, subst, arith}
use Rattle.std.specs.Prelude.{codes, false}
use Rattle.std.specs.List.{flat_map}
use Rattle.std.proofs.lemmas.List.{take_all}
use Rattle.q4_machine.specs.declared.shown.NumberedRow.{NumberedRow}
use Rattle.q4_proto.specs.Text.{row_line, label_front}
use Rattle.q4_proto.specs.Pieces.{Writing, writing, Puts}
use Rattle.q4_proto.proofs.Writing.{put_then, flat_next, finished}
use Rattle.q4_proto.proofs.rows.put_rows.Goals as goal

pub loop-shown-preserved : goal.loop-shown-preserved
loop-shown-preserved g c =
    let rows = c.as_slice-shown-items.result.now in
    let index = c.loop-shown.shown-index in
    let line = λ (shown : NumberedRow). label_front c.args.label ++ row_line shown in
    let inside : index < length rows = omega arith in
    let first : Writing = record { written = g.W.Sink.written c.args.sink.now; faults = g.W.Sink.faults c.args.sink.now; waiting = label_front c.args.label ++ codes "rows\t" ++ decimal (length c.args.rows.now) ++ codes "\n"; failed = false } in
    let before : Writing = writing (g.W.Sink.written c.loop-shown.sink) (g.W.Sink.faults c.loop-shown.sink) c.loop-shown.reply in
    let after : Writing = writing (g.W.Sink.written c.put_row.new.sink) (g.W.Sink.faults c.put_row.new.sink) c.put_row.new.reply in
    let front : c.as_slice-in-loop-shown.result.now ≡ label_front c.args.label = c.as_slice-in-loop-shown.ensures.bytes ∙ c.label_front-front.ensures.front in
    subst (Puts first after) (sym (flat_next line rows index c.shown-item.result inside c.shown-item.is))
    (put_then first before after (flat_map line (take index rows)) (line c.shown-item.result) c.loop-shown.invariant (subst (λ (bytes : List ℕ). Puts before after (bytes ++ row_line c.shown-item.result)) front c.put_row.ensures))

pub returns-clause-front : goal.returns-clause-front
returns-clause-front g c =
    let rows = c.as_slice-shown-items.result.now in
    let line = λ (shown : NumberedRow). label_front c.args.label ++ row_line shown in
    let first : Writing = record { written = g.W.Sink.written c.args.sink.now; faults = g.W.Sink.faults c.args.sink.now; waiting = label_front c.args.label ++ codes "rows\t" ++ decimal (length c.args.rows.now) ++ codes "\n"; failed = false } in
    let last : Writing = writing (g.W.Sink.written c.loop-shown.sink) (g.W.Sink.faults c.loop-shown.sink) c.loop-shown.reply in
    let all : flat_map line (take c.loop-shown.shown-index rows) ≡ flat_map line c.args.rows.now = ap (flat_map line) (take_all c.loop-shown.shown-index rows (omega arith) ∙ c.as_slice-shown-items.ensures.list) in
    (finished first last (g.W.Sink.written c.finish.new.sink) (g.W.Sink.faults c.finish.new.sink) (flat_map line c.args.rows.now) c.finish.result (subst (Puts first last) all c.loop-shown.invariant) c.finish.ensures).front
