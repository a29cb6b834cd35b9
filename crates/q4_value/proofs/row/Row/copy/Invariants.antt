use Rattle.std.proofs.Common.{◌≡◌, take}
use Rattle.q4_value.proofs.row.Row.copy.Given as goal

-- the values so far
abbrev pub invariant-loop-value : goal.invariant-loop-value
invariant-loop-value l = l.row ≡ take l.value-index l.value-items
