use Rattle.std.proofs.Common.{rules, ap, sym, subst, ◌∙◌, Some}
use Rattle.q4_turn.specs.Steps.{Takes}
use Rattle.q4_turn.proofs.Holding.{looks}
use Rattle.q4_turn.proofs.turn.Turn.wait_for.Goals as goal

pub load-serving-requires : goal.load-serving-requires
load-serving-requires g c =
    let i = c.loop.invariant.waits in
    (i.turn, search rules, looks g.V.Kept.stands g.V.Kept.mark _ _ _ _ _ i.live i.ticket i.holding i.slots)

pub returns-then-serving-ticket-clause-takes : goal.returns-then-serving-ticket-clause-takes
returns-then-serving-ticket-clause-takes g c =
    let i = c.loop.invariant in
    let served = i.waits.ticket ∙ ap (λ n. Some n) (sym c.if-serving-ticket.true) in
    subst (λ v. Takes g.V.Kept.stands g.V.Kept.mark v c.load-serving.new.seat.me) i.view (c.load-serving.ensures.2.0 served)
