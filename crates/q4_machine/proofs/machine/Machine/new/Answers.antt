use Rattle.q4_machine.proofs.Reached.{valid_new}
use Rattle.q4_machine.proofs.machine.Machine.new.Goals as goal

pub invariant_of-result : goal.invariant_of-result
invariant_of-result c = rw (c.in-Ok.ensures.items, c.into_kept.ensures) (valid_new c.args.tables c.requires.valid c.requires.unowned)
