use Rattle.std.proofs.Common.{All}
use Rattle.q4_machine.specs.Definitions.{IsListed}
use Rattle.q4_machine.proofs.tests.list_of.Given as goal

-- the entries so far are ones of these definitions
abbrev pub invariant-loop-table : goal.invariant-loop-table
invariant-loop-table g l = All (IsListed l.defs) l.list
