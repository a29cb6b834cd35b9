use Rattle.std.proofs.Common.{◌≡◌, ◌+◌, ◌++◌, [], All, take, get_or, sym, ap, subst}
use Rattle.std.proofs.lemmas.Bool.{eqb-true}
use Rattle.std.proofs.lemmas.List.{take_rest}
use Rattle.std.proofs.lemmas.List.Elements.{All-take, All-drop}
use Rattle.q4_value.specs.Escape.{IsFieldByte, escaped}
use Rattle.q4_value.proofs.Runs.{plain, plain_before, plain_nowhere, escaping_byte, escaping_ends}
use Rattle.q4_proto.specs.Pieces.{Writing, writing, Puts}
use Rattle.q4_proto.proofs.Writing.{put_then}
use Rattle.q4_proto.proofs.rows.put_run.Goals as goal

pub loop-at-preserved : goal.loop-at-preserved
loop-at-preserved g c =
    let inv = c.loop-at.invariant in
    let found = c.in-Some.ensures in
    let at = c.in-Some.at in
    let rest = c.loop-at.rest.now in
    let escape = c.escape_of.result.now in
    let same : escaped (take at rest) ≡ take at rest = plain (take at rest) (All-take IsFieldByte at rest inv.3) (plain_before rest at found.0.before) in
    let first : Writing = writing (g.W.Sink.written c.args.sink.now) (g.W.Sink.faults c.args.sink.now) c.args.reply.now in
    let before : Writing = writing (g.W.Sink.written c.loop-at.sink) (g.W.Sink.faults c.loop-at.sink) c.loop-at.reply in
    let run : Writing = writing (g.W.Sink.written c.put.new.sink) (g.W.Sink.faults c.put.new.sink) c.put.new.self in
    let after : Writing = writing (g.W.Sink.written c.put-in-Some.new.sink) (g.W.Sink.faults c.put-in-Some.new.sink) c.put-in-Some.new.self in (
      (inv.0 ++ take at rest) ++ escape,
      escaping_byte c.args.run.now rest [] inv.0 (inv.0 ++ take at rest) ((inv.0 ++ take at rest) ++ escape) at 92 inv.1 found.0.high (eqb-true (get_or rest at 0) 92 found.1) (ap (λ x. inv.0 ++ x) (sym same)) (ap (λ x. (inv.0 ++ take at rest) ++ x) c.escape_of.ensures),
      put_then first run after (inv.0 ++ take at rest) escape (put_then first before run inv.0 (take at rest) inv.2 c.put.ensures) c.put-in-Some.ensures,
      subst (All IsFieldByte) (sym (take_rest rest (at + 1))) (All-drop IsFieldByte (at + 1) rest inv.3),
    )

pub returns : goal.returns
returns g c =
    let inv = c.loop-at.invariant in
    let rest = c.loop-at.rest.now in
    let same : escaped rest ≡ rest = plain rest inv.3 (plain_nowhere rest c.in_default.ensures) in
    let first : Writing = writing (g.W.Sink.written c.args.sink.now) (g.W.Sink.faults c.args.sink.now) c.args.reply.now in
    let before : Writing = writing (g.W.Sink.written c.loop-at.sink) (g.W.Sink.faults c.loop-at.sink) c.loop-at.reply in
    let after : Writing = writing (g.W.Sink.written c.put-2.new.sink) (g.W.Sink.faults c.put-2.new.sink) c.put-2.new.self in
    subst (Puts first after) (escaping_ends c.args.run.now rest [] inv.0 (inv.0 ++ rest) inv.1 (ap (λ x. inv.0 ++ x) (sym same))) (put_then first before after inv.0 rest inv.2 c.put-2.ensures)
