use Rattle.std.proofs.Common.{◌≡◌, ◌+◌, ◌++◌, ◌∷◌, ℕ, List, All, map, length}
use Rattle.q4_proto.specs.Fields.{IsSpelled}
use Rattle.q4_proto.specs.Commands.{text_of_value}
use Rattle.q4_proto.proofs.insert.bad_escape.Given as goal

-- the table and the values so far have no bad escape
abbrev pub invariant-loop-field : goal.invariant-loop-field
invariant-loop-field l =
    (name : List ℕ) × (front : List (List ℕ)) × (l.args ≡ name ∷ front ++ l.rest) × (length front + 1 ≡ l.place) × All IsSpelled (name ∷ map text_of_value front)

abbrev pub decreases-loop-field : goal.decreases-loop-field
decreases-loop-field l = length l.rest
