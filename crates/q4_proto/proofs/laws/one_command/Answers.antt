use Rattle.q4_proto.proofs.Once.{command_once}
use Rattle.q4_proto.proofs.laws.one_command.Goals as goal

pub returns : goal.returns
returns c = λ defs line one other are reads others. command_once defs line one other are reads others
