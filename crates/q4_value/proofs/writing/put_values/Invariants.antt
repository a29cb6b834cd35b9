use Rattle.std.proofs.Common.{◌≡◌, ◌++◌, take}
use Rattle.q4_value.specs.Spelling.{row_bytes}
use Rattle.q4_value.proofs.writing.put_values.Given as goal

-- the values so far were put
abbrev pub invariant-loop-place : goal.invariant-loop-place
invariant-loop-place l = l.out ≡ l.fn.out ++ row_bytes (take l.place l.columns) (take l.place l.values)
