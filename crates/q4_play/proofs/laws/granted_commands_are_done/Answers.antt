use Rattle.q4_play.proofs.Granting.{commands_done, cut_done}
use Rattle.q4_play.proofs.laws.granted_commands_are_done.Goals as goal

pub returns-clause-turns : goal.returns-clause-turns
returns-clause-turns c = commands_done

pub returns-clause-cut : goal.returns-clause-cut
returns-clause-cut c = λ host old new ended how play spoken is granted. cut_done host old new ended how play spoken is granted
