use Rattle.q4_machine.proofs.Reached.{defined_reached}
use Rattle.q4_machine.proofs.laws.definitions_stay.Goals as goal

pub returns : goal.returns
returns c = λ history front later legal is some. defined_reached history legal front later is some
