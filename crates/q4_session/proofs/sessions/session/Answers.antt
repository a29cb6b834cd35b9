use Rattle.std.proofs.Common.{◌≡◌, inr, refl, ap}
use Rattle.q4_proto.specs.Told.{told}
use Rattle.q4_proto.specs.Text.{text}
use Rattle.q4_session.proofs.Opening.{not_opened}
use Rattle.q4_session.proofs.sessions.session.Goals as goal

pub returns-in-Err-clause-session : goal.returns-in-Err-clause-session
returns-in-Err-clause-session g c =
    inr (not_opened _ _ (record { seen = g.K.Desk.seen c.args.desk.now; left = g.S.Source.left c.args.source.now; written = g.W.Sink.written c.args.sink.now; patience = g.P.Patience.state c.args.patience.now })
    (record { seen = g.K.Desk.seen c.open.new.self; left = g.S.Source.left c.args.source.now; written = g.W.Sink.written c.last_reply.new.sink; patience = g.P.Patience.state c.args.patience.now })
    (c.args.source.now ≡ c.args.source.now) c.in-Err.fault c.refused_end.result c.last_reply.result (text (told c.desk_refusal.result)) c.in-Err.ensures.entry refl refl c.refused_end.ensures (ap text c.desk_refusal.ensures.told) c.last_reply.ensures.reply)
