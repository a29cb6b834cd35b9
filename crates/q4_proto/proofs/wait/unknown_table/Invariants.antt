use Rattle.std.proofs.Common.{◌≡◌, ◌++◌, ℕ, List, All, length}
use Rattle.q4_proto.specs.declared.keyword.Keyword.TheVariants.{Wait}
use Rattle.q4_proto.specs.Commands.{IsOfNoTable}
use Rattle.q4_proto.proofs.wait.unknown_table.Given as goal

-- the entries so far name tables
abbrev pub invariant-loop-field : goal.invariant-loop-field
invariant-loop-field l = (front : List (List ℕ)) × (l.entries ≡ front ++ l.rest) × (length front ≡ l.place) × All (λ f. IsOfNoTable l.defs Wait f → ⊥) front

abbrev pub decreases-loop-field : goal.decreases-loop-field
decreases-loop-field l = length l.rest
