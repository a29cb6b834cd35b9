use Rattle.q4_machine.proofs.Reached.{valid_reached}
use Rattle.q4_machine.proofs.laws.reached_machines_are_valid.Goals as goal

pub returns : goal.returns
returns c = λ history front later legal is some. valid_reached history legal front later is some
