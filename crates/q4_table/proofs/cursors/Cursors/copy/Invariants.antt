use Rattle.std.proofs.Common.{◌≡◌, take}
use Rattle.q4_table.proofs.cursors.Cursors.copy.Given as goal

-- the cursors so far are copied
abbrev pub invariant-loop-watched : goal.invariant-loop-watched
invariant-loop-watched l = l.list.items ≡ take l.watched-index l.watched-items
