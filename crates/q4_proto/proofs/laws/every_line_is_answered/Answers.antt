use Rattle.q4_proto.proofs.Answered.{line_answer}
use Rattle.q4_proto.proofs.laws.every_line_is_answered.Goals as goal

pub returns : goal.returns
returns c = λ defs line are. line_answer defs line are
