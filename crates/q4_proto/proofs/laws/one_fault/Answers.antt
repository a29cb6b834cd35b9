use Rattle.q4_proto.proofs.OneFault.{fault_once}
use Rattle.q4_proto.proofs.laws.one_fault.Goals as goal

pub returns : goal.returns
returns c = λ defs line one other are reads others. fault_once defs line one other are reads others
