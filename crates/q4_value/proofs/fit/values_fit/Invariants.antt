use Rattle.std.proofs.Common.{take}
use Rattle.q4_value.specs.Row.{IsRowOf}
use Rattle.q4_value.proofs.fit.values_fit.Given as goal

-- the values so far fit their columns
abbrev pub invariant-loop-place : goal.invariant-loop-place
invariant-loop-place l = IsRowOf (take l.place l.columns) (take l.place l.values)
