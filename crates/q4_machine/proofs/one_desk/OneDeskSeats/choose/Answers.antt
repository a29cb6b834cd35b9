use Rattle.std.proofs.Common.{refl}
use Rattle.q4_machine.proofs.Desks.{chosen}
use Rattle.q4_machine.proofs.one_desk.OneDeskSeats.choose.Goals as goal

pub invariant_of-self : goal.invariant_of-self
invariant_of-self c = record { desk = chosen c.self.inside.recorded.log c.self.inside.current c.args.session c.self.invariant.desk (c.if-not-is_open.ensures.0 refl); defined = c.self.invariant.defined; begins = c.self.invariant.begins }

pub returns-clause-in_order : goal.returns-clause-in_order
returns-clause-in_order c = (chosen c.self.inside.recorded.log c.self.inside.current c.args.session c.self.invariant.desk (c.if-not-is_open.ensures.0 refl)).in_order
