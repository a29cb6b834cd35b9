use Rattle.q4_store.proofs.Taking.{RowsSoFar}
use Rattle.q4_table.specs.Valid.{IsValidTable}
use Rattle.q4_store.proofs.copying.put_rows.Given as goal

-- the rows so far were put
abbrev pub invariant-loop-left : goal.invariant-loop-left
invariant-loop-left l = RowsSoFar l.table.state l.fn.cursor l.most l.fn.out l.cursor l.left l.out × IsValidTable l.table.state

abbrev pub decreases-loop-left : goal.decreases-loop-left
decreases-loop-left l = l.left
