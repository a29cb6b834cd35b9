use Rattle.q4_cond.proofs.Taking.{group_answer}
use Rattle.q4_cond.proofs.reader.Reader.take_open.Goals as goal

pub returns : goal.returns
returns c = group_answer c.args.self.now.wants c.args.self.now.frames c.args.self.now.nodes.items _ c.open.result c.if-not-self.false c.open.ensures
