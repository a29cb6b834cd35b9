use Rattle.std.proofs.Common.{◌≡◌, length}
use Rattle.q4_record.specs.Parts.{IsReady}
use Rattle.q4_record.specs.Replay.{state_of}
use Rattle.q4_record.proofs.Sections.{ReadSoFar}
use Rattle.q4_record.proofs.replay.Replay.read_section.Given as goal

-- the records so far stand, and were replayed, and the table keeps what it kept
abbrev pub invariant-loop-rest : goal.invariant-loop-rest
invariant-loop-rest l = ReadSoFar (state_of l.fn.self) l.bytes (state_of l.self) l.rest × IsReady (state_of l.self) × (l.self.table.kept ≡ l.fn.self.table.kept)

abbrev pub decreases-loop-rest : goal.decreases-loop-rest
decreases-loop-rest l = length l.rest
