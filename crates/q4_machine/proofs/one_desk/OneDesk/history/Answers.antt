use Rattle.q4_machine.proofs.one_desk.OneDesk.history.Goals as goal

pub returns-clause-settled : goal.returns-clause-settled
returns-clause-settled c = λ place. rw c.history.ensures (c.self.invariant.desk.settled place)

pub returns-clause-owed : goal.returns-clause-owed
returns-clause-owed c = rw c.history.ensures c.self.invariant.desk.in_order.owed
