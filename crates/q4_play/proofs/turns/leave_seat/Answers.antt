use Rattle.q4_play.proofs.Closing.{closes_seat}
use Rattle.q4_play.proofs.turns.leave_seat.Goals as goal

pub returns-clause-seated : goal.returns-clause-seated
returns-clause-seated g c =
    closes_seat _ _ _ _ c.args.label c.args.seating.now c.set.new.self c.session.result c.session.ensures c.close_seat.ensures.same.0 c.close_seat.ensures.closes c.close_seat.ensures.in_order.legal c.requires.is_label c.set.ensures c.requires.seated
