use Rattle.std.proofs.Common.{◌∙◌, ℕ, refl, subst}
use Rattle.q4_machine.specs.History.{definitions_of, IsOpenFor}
use Rattle.q4_machine.specs.Parts.{Grows, IsClosed}
use Rattle.q4_proto.specs.Told.{told}
use Rattle.q4_session.specs.declared.answering.Answered.TheVariants as answered
use Rattle.q4_play.proofs.Placing.{left_seat}
use Rattle.q4_play.proofs.Speaking.{seated_answer, answering_as, turn_next, turn_quit, stop_cut, stop_unopened}
use Rattle.q4_play.proofs.turns.speak.Goals as goal

pub returns-in-Next-clause-seated : goal.returns-in-Next-clause-seated
returns-in-Next-clause-seated g c =
    (seated_answer (record { defs = definitions_of (g.K.Desk.seen c.take_seat.new.desk); limit = g.K.Desk.limit c.take_seat.new.desk; caller = g.K.Desk.caller c.take_seat.new.desk; session = c.in-Ok._session }) _ _ _ _ _ _ _ _ _ c.take_seat.new.seating _
    (c.in-Next.ensures.answering c.in-Ok._session c.in-Ok.ensures.current) c.answer_behind.ensures.in_order.legal
    (subst (λ (caller : ℕ). IsOpenFor (g.K.Desk.seen c.answer_behind.new.desk) caller c.in-Ok._session) c.answer_behind.ensures.same.0 (c.answer_behind.ensures.in_order.is_open c.in-Ok._session (c.answer_behind.ensures.current ∙ c.in-Ok.ensures.current)))
    c.answer_behind.ensures.same.0 c.take_seat.ensures.seated)

pub returns-in-Next-clause-turns : goal.returns-in-Next-clause-turns
returns-in-Next-clause-turns g c =
    turn_next (record { defs = definitions_of (g.K.Desk.seen c.args.desk.now); limit = g.K.Desk.limit c.args.desk.now; caller = g.K.Desk.caller c.args.desk.now }) (record { seen = g.K.Desk.seen c.args.desk.now; seating = c.args.seating.now; patience = g.P.Patience.state c.args.patience.now; written = g.W.Sink.written c.args.sink.now }) (record { seen = g.K.Desk.seen c.answer_behind.new.desk; seating = c.take_seat.new.seating; patience = g.P.Patience.state c.answer_behind.new.patience; written = g.W.Sink.written c.answer_behind.new.sink })
    c.args.label c.in-Ok._session c.args.command.now (record {
      here = g.K.Desk.seen c.take_seat.new.desk;
      is_label = c.requires.is_label;
      seats = c.in-Ok.ensures.seats;
      answering = answering_as _ _ _ _ _ _ c.in-Ok._session _ _ _ _ _ _ _ _ answered.Next c.take_seat.ensures.defined c.take_seat.ensures.same.1 c.take_seat.ensures.same.0 (c.in-Next.ensures.answering c.in-Ok._session c.in-Ok.ensures.current);
    })

pub returns-in-Quit-clause-seated : goal.returns-in-Quit-clause-seated
returns-in-Quit-clause-seated g c =
    left_seat _ _ _ _ c.in-Ok._session c.args.label c.args.seating.now c.take_seat.new.seating c.set.new.self c.close.ensures.same.0
    (c.close.ensures.entry c.in-Ok._session (c.answer_behind.ensures.current ∙ c.in-Ok.ensures.current)) c.close.ensures.in_order.legal c.in-Ok.ensures.seats.seating_is c.requires.is_label c.requires.seated.size c.set.ensures
    (seated_answer (record { defs = definitions_of (g.K.Desk.seen c.take_seat.new.desk); limit = g.K.Desk.limit c.take_seat.new.desk; caller = g.K.Desk.caller c.take_seat.new.desk; session = c.in-Ok._session }) _ _ _ _ _ _ _ _ _ c.take_seat.new.seating _
    (c.in-Quit.ensures.answering c.in-Ok._session c.in-Ok.ensures.current) c.answer_behind.ensures.in_order.legal
    (subst (λ (caller : ℕ). IsOpenFor (g.K.Desk.seen c.answer_behind.new.desk) caller c.in-Ok._session) c.answer_behind.ensures.same.0 (c.answer_behind.ensures.in_order.is_open c.in-Ok._session (c.answer_behind.ensures.current ∙ c.in-Ok.ensures.current)))
    c.answer_behind.ensures.same.0 c.take_seat.ensures.seated)

pub returns-in-Quit-clause-turns : goal.returns-in-Quit-clause-turns
returns-in-Quit-clause-turns g c =
    turn_quit (record { defs = definitions_of (g.K.Desk.seen c.args.desk.now); limit = g.K.Desk.limit c.args.desk.now; caller = g.K.Desk.caller c.args.desk.now }) (record { seen = g.K.Desk.seen c.args.desk.now; seating = c.args.seating.now; patience = g.P.Patience.state c.args.patience.now; written = g.W.Sink.written c.args.sink.now }) (record { seen = g.K.Desk.seen c.answer_behind.new.desk; seating = c.take_seat.new.seating; patience = g.P.Patience.state c.answer_behind.new.patience; written = g.W.Sink.written c.answer_behind.new.sink })
    (record { seen = g.K.Desk.seen c.close.new.self; seating = c.set.new.self; patience = g.P.Patience.state c.answer_behind.new.patience; written = g.W.Sink.written c.answer_behind.new.sink })
    c.args.label c.in-Ok._session c.args.command.now (record {
      here = g.K.Desk.seen c.take_seat.new.desk;
      is_label = c.requires.is_label;
      seats = c.in-Ok.ensures.seats;
      answering = answering_as _ _ _ _ _ _ c.in-Ok._session _ _ _ _ _ _ _ _ answered.Quit c.take_seat.ensures.defined c.take_seat.ensures.same.1 c.take_seat.ensures.same.0 (c.in-Quit.ensures.answering c.in-Ok._session c.in-Ok.ensures.current);
    })
    (subst (λ (caller : ℕ). Grows (g.K.Desk.seen c.answer_behind.new.desk) (g.K.Desk.seen c.close.new.self) (λ closing. IsClosed caller c.in-Ok._session closing)) (c.answer_behind.ensures.same.0 ∙ c.take_seat.ensures.same.0)
    (c.close.ensures.entry c.in-Ok._session (c.answer_behind.ensures.current ∙ c.in-Ok.ensures.current)))
    c.set.ensures refl refl

pub returns-in-WriteFault-clause-seated : goal.returns-in-WriteFault-clause-seated
returns-in-WriteFault-clause-seated g c =
    (seated_answer (record { defs = definitions_of (g.K.Desk.seen c.take_seat.new.desk); limit = g.K.Desk.limit c.take_seat.new.desk; caller = g.K.Desk.caller c.take_seat.new.desk; session = c.in-Ok._session }) _ _ _ _ _ _ _ _ _ c.take_seat.new.seating _
    (c.in-WriteFault.ensures.answering c.in-Ok._session c.in-Ok.ensures.current) c.answer_behind.ensures.in_order.legal
    (subst (λ (caller : ℕ). IsOpenFor (g.K.Desk.seen c.answer_behind.new.desk) caller c.in-Ok._session) c.answer_behind.ensures.same.0 (c.answer_behind.ensures.in_order.is_open c.in-Ok._session (c.answer_behind.ensures.current ∙ c.in-Ok.ensures.current)))
    c.answer_behind.ensures.same.0 c.take_seat.ensures.seated)

pub returns-in-WriteFault-clause-turns : goal.returns-in-WriteFault-clause-turns
returns-in-WriteFault-clause-turns g c =
    stop_cut (record { defs = definitions_of (g.K.Desk.seen c.args.desk.now); limit = g.K.Desk.limit c.args.desk.now; caller = g.K.Desk.caller c.args.desk.now }) (record { seen = g.K.Desk.seen c.args.desk.now; seating = c.args.seating.now; patience = g.P.Patience.state c.args.patience.now; written = g.W.Sink.written c.args.sink.now }) (record { seen = g.K.Desk.seen c.answer_behind.new.desk; seating = c.take_seat.new.seating; patience = g.P.Patience.state c.answer_behind.new.patience; written = g.W.Sink.written c.answer_behind.new.sink })
    c.args.label c.in-Ok._session c.args.command.now (record {
      here = g.K.Desk.seen c.take_seat.new.desk;
      is_label = c.requires.is_label;
      seats = c.in-Ok.ensures.seats;
      answering = answering_as _ _ _ _ _ _ c.in-Ok._session _ _ _ _ _ _ _ _ answered.WriteFault c.take_seat.ensures.defined c.take_seat.ensures.same.1 c.take_seat.ensures.same.0 (c.in-WriteFault.ensures.answering c.in-Ok._session c.in-Ok.ensures.current);
    })

pub returns-in-Err-clause-turns : goal.returns-in-Err-clause-turns
returns-in-Err-clause-turns g c =
    stop_unopened (record { defs = definitions_of (g.K.Desk.seen c.args.desk.now); limit = g.K.Desk.limit c.args.desk.now; caller = g.K.Desk.caller c.args.desk.now }) (record { seen = g.K.Desk.seen c.args.desk.now; seating = c.args.seating.now; patience = g.P.Patience.state c.args.patience.now; written = g.W.Sink.written c.args.sink.now })
    (record { seen = g.K.Desk.seen c.take_seat.new.desk; seating = c.take_seat.new.seating; patience = g.P.Patience.state c.args.patience.now; written = g.W.Sink.written c.tell.new.sink })
    c.args.label c.args.command.now c.in-Err.fault (told c.desk_refusal.result) c.refused_end.result c.tell.result c.requires.is_label c.in-Err.ensures.seats refl c.desk_refusal.ensures.told c.refused_end.ensures c.tell.ensures.says
