use Rattle.std.proofs.Common.{◌≡◌, take}
use Rattle.q4_value.proofs.columns.Columns.copy.Given as goal

-- the columns so far
abbrev pub invariant-loop-column : goal.invariant-loop-column
invariant-loop-column l = l.columns ≡ take l.column-index l.column-items
