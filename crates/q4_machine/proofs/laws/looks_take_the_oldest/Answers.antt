use Rattle.q4_machine.proofs.Reached.{looks_answered}
use Rattle.q4_machine.proofs.laws.looks_take_the_oldest.Goals as goal

pub returns : goal.returns
returns c = λ history front later e list legal is look. looks_answered history legal front e later list is look
