use Rattle.std.proofs.Common.{◌≡◌, ◌++◌, ℕ, List, length}
use Rattle.std.specs.List.{All}
use Rattle.q4_value.specs.Escape.{escaped, IsFieldByte}
use Rattle.q4_value.proofs.escaping.is_escaped_run.Given as goal

-- a text stands spelled before what is left
abbrev pub invariant-loop-at : goal.invariant-loop-at
invariant-loop-at l = (made : List ℕ) × (l.run ≡ escaped made ++ l.rest) × All IsFieldByte l.rest

abbrev pub decreases-loop-at : goal.decreases-loop-at
decreases-loop-at l = length l.rest
