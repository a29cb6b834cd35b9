use Rattle.std.proofs.Common.{◌≡◌, ◌++◌}
use Rattle.q4_table.proofs.rows.Rows.copy.Given as goal

-- the rows so far are copied
abbrev pub invariant-loop-stored : goal.invariant-loop-stored
invariant-loop-stored l = l.rows ++ l.stored-iterator ≡ l.self
