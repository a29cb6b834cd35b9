use Rattle.std.proofs.Common.{rules, refl}
use Rattle.q4_turn.proofs.Holding.{rings}
use Rattle.q4_turn.proofs.turn.Turn.ring.Goals as goal

pub fetch_add-requires : goal.fetch_add-requires
fetch_add-requires g c =
    let a = c.requires in
    (a.turn, search rules, rings g.V.Kept.stands g.V.Kept.mark _ _ _ _ _ _ _ c.bell-bell.ensures a.live)
