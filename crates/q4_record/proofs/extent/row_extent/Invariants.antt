use Rattle.q4_record.proofs.Extending.{RowSoFar}
use Rattle.q4_record.proofs.extent.row_extent.Given as goal

-- the values so far are there
abbrev pub invariant-loop-column : goal.invariant-loop-column
invariant-loop-column l = RowSoFar l.columns l.bytes l.column-index l.rest l.long
