use Rattle.q4_play.proofs.Gone.{closed_gone}
use Rattle.q4_play.proofs.laws.closed_sessions_stay_closed.Goals as goal

pub returns : goal.returns
returns c = λ before later e closes legal there. closed_gone before later e closes legal there
