use Rattle.q4_turn.proofs.Founding.{starts}
use Rattle.q4_turn.proofs.turn.Turn.new_named.Goals as goal

pub vacant-requires : goal.vacant-requires
vacant-requires g c = starts g.V.Kept.stands g.V.Kept.mark _ _
