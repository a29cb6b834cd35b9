use Rattle.std.proofs.Common.{◌++◌, [], take, get_or, refl, ap, subst}
use Rattle.q4_value.specs.Escape.{escaped}
use Rattle.q4_value.proofs.Runs.{field_nowhere, escaping_byte, escaping_ends}
use Rattle.q4_proto.specs.Pieces.{Writing, writing, Puts}
use Rattle.q4_proto.proofs.Writing.{put_then}
use Rattle.q4_proto.proofs.rows.put_escaped.Goals as goal

pub loop-at-preserved : goal.loop-at-preserved
loop-at-preserved g c =
    let inv = c.loop-at.invariant in
    let found = c.in-Some.ensures in
    let at = c.in-Some.at in
    let rest = c.loop-at.rest.now in
    let escape = c.escape_of.result.now in
    let run = escaped (take at rest) in
    let first : Writing = writing (g.W.Sink.written c.args.sink.now) (g.W.Sink.faults c.args.sink.now) c.args.reply.now in
    let before : Writing = writing (g.W.Sink.written c.loop-at.sink) (g.W.Sink.faults c.loop-at.sink) c.loop-at.reply in
    let mid : Writing = writing (g.W.Sink.written c.put_run.new.sink) (g.W.Sink.faults c.put_run.new.sink) c.put_run.new.reply in
    let after : Writing = writing (g.W.Sink.written c.put.new.sink) (g.W.Sink.faults c.put.new.sink) c.put.new.self in (
      (inv.0 ++ run) ++ escape,
      escaping_byte c.args.text.now rest [] inv.0 (inv.0 ++ run) ((inv.0 ++ run) ++ escape) at (get_or rest at 0) inv.1 found.0.high refl refl (ap (λ x. (inv.0 ++ run) ++ x) c.escape_of.ensures),
      put_then first mid after (inv.0 ++ run) escape (put_then first before mid inv.0 run inv.2 c.put_run.ensures) c.put.ensures,
    )

pub put_run-requires-2 : goal.put_run-requires-2
put_run-requires-2 g c = field_nowhere c.loop-at.rest.now c.in_default.ensures

pub returns : goal.returns
returns g c =
    let inv = c.loop-at.invariant in
    let rest = c.loop-at.rest.now in
    let first : Writing = writing (g.W.Sink.written c.args.sink.now) (g.W.Sink.faults c.args.sink.now) c.args.reply.now in
    let before : Writing = writing (g.W.Sink.written c.loop-at.sink) (g.W.Sink.faults c.loop-at.sink) c.loop-at.reply in
    let after : Writing = writing (g.W.Sink.written c.put_run-2.new.sink) (g.W.Sink.faults c.put_run-2.new.sink) c.put_run-2.new.reply in
    subst (Puts first after) (escaping_ends c.args.text.now rest [] inv.0 (inv.0 ++ escaped rest) inv.1 refl) (put_then first before after inv.0 (escaped rest) inv.2 c.put_run-2.ensures)
