use Rattle.std.proofs.Common.{◌≡◌, ◌++◌, map, length, take}
use Rattle.q4_value.specs.Row.{IsRowOf}
use Rattle.q4_proto.specs.Commands.{spelled_value}
use Rattle.q4_proto.proofs.insert.read_values.Given as goal

-- the values so far are those of the columns so far
abbrev pub invariant-loop-place : goal.invariant-loop-place
invariant-loop-place l = (l.values ≡ map spelled_value l.row ++ l.rest) × IsRowOf (take l.place l.columns) l.row × (length l.row ≡ l.place)
