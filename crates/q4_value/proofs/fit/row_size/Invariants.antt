use Rattle.std.proofs.Common.{◌≡◌, take, sum_by}
use Rattle.q4_value.specs.Row.{value_size}
use Rattle.q4_value.proofs.fit.row_size.Given as goal

-- the size of the values so far
abbrev pub invariant-loop-value : goal.invariant-loop-value
invariant-loop-value l = l.size ≡ sum_by value_size (take l.value-index l.value-items)
