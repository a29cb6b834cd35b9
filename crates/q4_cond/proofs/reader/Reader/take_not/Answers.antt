use Rattle.q4_cond.proofs.Taking.{not_answer}
use Rattle.std.proofs.Common.{◌≤◌, arith}
use Rattle.q4_cond.specs.Machine.{wanted_level}
use Rattle.q4_cond.proofs.reader.Reader.take_not.Goals as goal

pub returns : goal.returns
returns c = let low : wanted_level c.args.self.now.frames ≤ 3 = omega arith in not_answer c.args.self.now.wants c.args.self.now.frames c.args.self.now.nodes.items _ c.open.result c.if-not-self.false low c.open.ensures
