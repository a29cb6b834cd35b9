use Rattle.std.proofs.Common.{◌≡◌, ◌++◌, take}
use Rattle.q4_value.specs.Row.{IsRowOf}
use Rattle.q4_value.specs.Spelling.{row_bytes}
use Rattle.q4_value.proofs.reading.read_values.Given as goal

-- the values so far are of the columns so far, and stand spelled before what is left
abbrev pub invariant-loop-place : goal.invariant-loop-place
invariant-loop-place l = IsRowOf (take l.place l.columns) l.row × (l.bytes ≡ row_bytes (take l.place l.columns) l.row ++ l.rest)
