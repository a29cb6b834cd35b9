use Rattle.std.proofs.Common.{◌≡◌, map, take}
use Rattle.q4_machine.specs.Recorded.{new_opening}
use Rattle.q4_machine.proofs.tables.Tables.of_definitions.Given as goal

-- the tables so far are those of the definitions so far
abbrev pub invariant-loop-def : goal.invariant-loop-def
invariant-loop-def l = l.tables ≡ map new_opening (take l.def-index l.def-items)
