use Rattle.std.proofs.Common.{ap}
use Rattle.std.specs.Option.{option_copied}
use Rattle.q4_proto.specs.Commands.{IsNoNumber}
use Rattle.q4_proto.proofs.Waiting.{none_weaker}
use Rattle.q4_proto.proofs.wait.read_seconds.Goals as goal

pub returns-in-Some-clause-none : goal.returns-in-Some-clause-none
returns-in-Some-clause-none c = none_weaker (IsNoNumber 3600 c.in-Some.digits.now) _ c.number_up_to.result (λ none. (c.in-Some.digits.now, ap option_copied c.in-Some.is, none)) c.number_up_to.ensures.none
