use Rattle.std.proofs.Common.{IsSome}
use Rattle.q4_machine.proofs.tests.session.Given as goal

-- the session stays open
abbrev pub invariant-loop-ask : goal.invariant-loop-ask
invariant-loop-ask g l = IsSome (g.K.Desk.current l.desk)
