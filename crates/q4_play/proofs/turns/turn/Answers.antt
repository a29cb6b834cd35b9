use Rattle.std.proofs.Common.{refl}
use Rattle.q4_flow.proofs.Known.{took_nothing}
use Rattle.q4_machine.specs.History.{definitions_of}
use Rattle.q4_proto.specs.Told.{told}
use Rattle.q4_play.proofs.Speaking.{turn_unlabelled, turn_left}
use Rattle.q4_play.proofs.turns.turn.Goals as goal

pub returns-in-Bad-clause-turns : goal.returns-in-Bad-clause-turns
returns-in-Bad-clause-turns g c =
    turn_unlabelled (record { defs = definitions_of (g.K.Desk.seen c.args.desk.now); limit = g.K.Desk.limit c.args.desk.now; caller = g.K.Desk.caller c.args.desk.now }) (record { seen = g.K.Desk.seen c.args.desk.now; seating = c.args.seating.now; patience = g.P.Patience.state c.args.patience.now; written = g.W.Sink.written c.args.sink.now }) (record { seen = g.K.Desk.seen c.args.desk.now; seating = c.args.seating.now; patience = g.P.Patience.state c.args.patience.now; written = g.W.Sink.written c.tell.new.sink })
    c.args.line.now (told c.refused.result) c.tell.result c.in-Bad.ensures refl refl refl c.refused.ensures c.tell.ensures.says

pub returns-in-Alone-clause-turns : goal.returns-in-Alone-clause-turns
returns-in-Alone-clause-turns g c =
    turn_left (record { defs = definitions_of (g.K.Desk.seen c.args.desk.now); limit = g.K.Desk.limit c.args.desk.now; caller = g.K.Desk.caller c.args.desk.now }) (record { seen = g.K.Desk.seen c.args.desk.now; seating = c.args.seating.now; patience = g.P.Patience.state c.args.patience.now; written = g.W.Sink.written c.args.sink.now })
    (record { seen = g.K.Desk.seen c.leave_seat.new.desk; seating = c.leave_seat.new.seating; patience = g.P.Patience.state c.args.patience.now; written = g.W.Sink.written c.args.sink.now })
    c.args.line.now c.in-Alone.label c.in-Alone.ensures.0 c.in-Alone.ensures.1 c.leave_seat.ensures.closes c.leave_seat.ensures.seating refl (took_nothing (g.W.Sink.written c.args.sink.now))
