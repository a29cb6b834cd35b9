use Rattle.std.proofs.Common.{◌≡◌, take}
use Rattle.q4_machine.proofs.shown.Rows.copy.Given as goal

-- the rows so far are copied
abbrev pub invariant-loop-shown : goal.invariant-loop-shown
invariant-loop-shown l = l.rows ≡ take l.shown-index l.shown-items
