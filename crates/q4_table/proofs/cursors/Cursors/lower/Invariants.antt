use Rattle.std.proofs.Common.{◌≡◌, ◌++◌, map, take, drop}
use Rattle.q4_table.specs.Cursors.{lowered_to}
use Rattle.q4_table.proofs.cursors.Cursors.lower.Given as goal

-- the cursors so far are lowered
abbrev pub invariant-loop-watched : goal.invariant-loop-watched
invariant-loop-watched l = l.watched-items ≡ map (lowered_to l.number) (take l.watched-index l.initial.watched-items) ++ drop l.watched-index l.initial.watched-items
