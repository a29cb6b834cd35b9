use Rattle.std.proofs.Common.{◌≡◌, ◌≤◌, length}
use Rattle.q4_record.specs.Parts.{IsReady}
use Rattle.q4_record.specs.Replay.{state_of}
use Rattle.q4_record.proofs.Batches.{BatchesSoFar}
use Rattle.q4_record.proofs.side.read_batches.Given as goal

-- the batches so far stand, something is left, and the table keeps what it kept
abbrev pub invariant-loop-more : goal.invariant-loop-more
invariant-loop-more l = BatchesSoFar l.fn.table.state l.bytes (state_of l.replay) l.rest × IsReady (state_of l.replay) × (1 ≤ length l.rest) × (l.replay.table.kept ≡ l.fn.table.kept)

abbrev pub decreases-loop-more : goal.decreases-loop-more
decreases-loop-more l = length l.rest
