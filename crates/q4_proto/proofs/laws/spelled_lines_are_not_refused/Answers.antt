use Rattle.q4_proto.proofs.Apart.{spelled_not_refused}
use Rattle.q4_proto.proofs.laws.spelled_lines_are_not_refused.Goals as goal

pub returns : goal.returns
returns c = λ defs line command fault are reads refused. spelled_not_refused defs line command fault are reads refused
