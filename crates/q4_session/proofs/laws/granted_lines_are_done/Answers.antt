use Rattle.q4_session.proofs.Standing.{lines_done}
use Rattle.q4_session.proofs.laws.granted_lines_are_done.Goals as goal

pub returns : goal.returns
returns c = lines_done
