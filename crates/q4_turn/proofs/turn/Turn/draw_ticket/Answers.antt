use Rattle.std.proofs.Common.{rules, refl, arith}
use Rattle.q4_turn.proofs.Holding.{draws}
use Rattle.q4_turn.proofs.turn.Turn.draw_ticket.Goals as goal

pub compare_exchange-found-requires : goal.compare_exchange-found-requires
compare_exchange-found-requires g c =
    let free = c.loop.invariant.free in
    (free.turn, search rules, draws g.V.Kept.stands g.V.Kept.mark _ _ _ _ _ _ refl (omega arith) free.live free.ticket free.holding)
