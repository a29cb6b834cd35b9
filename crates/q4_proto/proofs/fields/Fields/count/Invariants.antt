use Rattle.std.proofs.Common.{◌≡◌, ◌+◌, length}
use Rattle.q4_proto.proofs.fields.Fields.count.Given as goal

-- what was counted and what is left
abbrev pub invariant-loop-field : goal.invariant-loop-field
invariant-loop-field l = l.count + length l.rest ≡ length l.self

abbrev pub decreases-loop-field : goal.decreases-loop-field
decreases-loop-field l = length l.rest
