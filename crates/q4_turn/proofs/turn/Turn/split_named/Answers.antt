use Rattle.std.proofs.Common.{rules, ap, ◌∙◌}
use Rattle.q4_turn.proofs.Splitting.{splits, knows}
use Rattle.q4_turn.proofs.turn.Turn.split_named.Goals as goal

pub split_seat-seat-requires : goal.split_seat-seat-requires
split_seat-seat-requires g c =
    let h = c.requires.hand in
    let p = c.requires.parts in
    (c.requires.turn, search rules, splits g.V.Kept.stands g.V.Kept.mark _ _ _ _ _ h.live h.ticket h.holding h.closing h.in_hand p.0 p.1)

pub load-requires : goal.load-requires
load-requires g c =
    let s = c.split_seat-seat.ensures in
    (s.0 ∙ c.requires.turn, search rules, knows g.V.Kept.stands g.V.Kept.mark _ _ _ _ (ap (λ m. m.0.live) s.2 ∙ c.requires.hand.live))

pub load-requires-2 : goal.load-requires-2
load-requires-2 g c =
    let s = c.split_seat-seat.ensures in
    (s.3 ∙ c.requires.turn, search rules, knows g.V.Kept.stands g.V.Kept.mark _ _ _ _ (ap (λ m. m.0.live) s.4))
