use Rattle.q4_play.proofs.Addressing.{unlabelled_alone}
use Rattle.q4_play.proofs.labels.alone.Goals as goal

pub returns-in-None : goal.returns-in-None
returns-in-None c = unlabelled_alone c.args.line.now c.requires.no_space c.in-None.ensures.none
