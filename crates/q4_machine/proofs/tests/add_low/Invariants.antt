use Rattle.std.proofs.Common.{IsSome}
use Rattle.q4_machine.proofs.tests.add_low.Given as goal

-- the session stays open
abbrev pub invariant-loop-number : goal.invariant-loop-number
invariant-loop-number g l = IsSome l.desk.current
