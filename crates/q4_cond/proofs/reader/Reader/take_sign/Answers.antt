use Rattle.q4_cond.proofs.Taking.{has_says, minus_answer}
use Rattle.q4_cond.specs.declared.tree.Token.TheVariants.{Sign}
use Rattle.q4_cond.proofs.reader.Reader.take_sign.Goals as goal

pub returns-then-not-self : goal.returns-then-not-self
returns-then-not-self c = has_says c.args.self.now.wants c.args.self.now.frames c.args.self.now.nodes.items (Sign c.args.operator) _ c.pend.result c.if-not-self.true c.pend.ensures

pub returns-in-Subtract : goal.returns-in-Subtract
returns-in-Subtract c = minus_answer c.args.self.now.wants c.args.self.now.frames c.args.self.now.nodes.items c.args.operator _ c.open.result c.if-not-self.false c.in-Subtract.is c.open.ensures
