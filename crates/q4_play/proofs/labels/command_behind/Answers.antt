use Rattle.q4_play.proofs.Addressing.{unlabelled_command}
use Rattle.q4_play.proofs.labels.command_behind.Goals as goal

pub returns-in-None : goal.returns-in-None
returns-in-None c = unlabelled_command c.args.digits.now c.args.command.now c.requires.no_space c.in-None.ensures.none
