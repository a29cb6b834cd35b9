use Rattle.std.proofs.Common.{◌≡◌, IsSome}
use Rattle.q4_machine.proofs.tests.wear_out.Given as goal

-- the session stays the current one
abbrev pub invariant-loop-asked : goal.invariant-loop-asked
invariant-loop-asked g l = (l.desk.current ≡ l.fn.desk.current) × IsSome l.desk.current
