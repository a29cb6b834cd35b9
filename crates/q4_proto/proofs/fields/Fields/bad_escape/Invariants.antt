use Rattle.std.proofs.Common.{◌≡◌, ◌++◌, ℕ, List, All, length}
use Rattle.q4_proto.specs.Fields.{IsSpelled}
use Rattle.q4_proto.proofs.fields.Fields.bad_escape.Given as goal

-- the fields so far are spellings
abbrev pub invariant-loop-field : goal.invariant-loop-field
invariant-loop-field l = (front : List (List ℕ)) × (l.self ≡ front ++ l.rest) × (length front ≡ l.place) × All IsSpelled front

abbrev pub decreases-loop-field : goal.decreases-loop-field
decreases-loop-field l = length l.rest
