use Rattle.q4_machine.proofs.Steps.{mode_opened, valid_opened}
use Rattle.q4_machine.proofs.machine.Machine.open.Goals as goal

pub invariant_of-self : goal.invariant_of-self
invariant_of-self c = rw c.in-Ok.ensures.items (valid_opened _ c.self.inside.next_session c.self.invariant)

pub returns-in-Ok-clause-mode : goal.returns-in-Ok-clause-mode
returns-in-Ok-clause-mode c = rw c.in-Ok.ensures.items (mode_opened _ c.self.invariant)
