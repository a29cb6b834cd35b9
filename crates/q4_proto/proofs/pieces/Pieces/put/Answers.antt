use Rattle.std.proofs.Common.{◌++◌, ◌∙◌, refl, sym, ap}
use Rattle.std.proofs.Common.{append_assoc}
use Rattle.q4_proto.specs.Pieces.{Writing, writing}
use Rattle.q4_proto.proofs.Writing.{put_then, waits_then}
use Rattle.q4_proto.proofs.pieces.Pieces.put.Goals as goal

pub loop-rest-preserved : goal.loop-rest-preserved
loop-rest-preserved g c =
    let inv = c.loop-rest.invariant in
    let front = c.split_at.result.0.now in
    let first : Writing = writing (g.W.Sink.written c.args.sink.now) (g.W.Sink.faults c.args.sink.now) c.args.self.now in
    let before : Writing = writing (g.W.Sink.written c.loop-rest.sink) (g.W.Sink.faults c.loop-rest.sink) c.loop-rest.self in
    let waits : Writing = record { written = g.W.Sink.written c.loop-rest.sink; faults = g.W.Sink.faults c.loop-rest.sink; waiting = c.put.new.self; failed = c.loop-rest.self.failed } in
    let after : Writing = writing (g.W.Sink.written c.send.new.sink) (g.W.Sink.faults c.send.new.sink) c.send.new.self in (
      inv.0 ++ front,
      inv.1 ∙ ap (λ r. inv.0 ++ r) c.split_at.ensures.by_index.0 ∙ sym (append_assoc inv.0 front c.split_at.result.1.now),
      put_then first before after inv.0 front inv.2 (waits_then before waits after front c.if-self.false c.if-self.false refl refl c.put.ensures c.send.ensures.puts),
    )
