use Rattle.q4_store.proofs.MarksPut.{PutSoFar}
use Rattle.q4_store.proofs.copying.put_marks.Given as goal

-- the marks of the sources so far were put
abbrev pub invariant-loop-source : goal.invariant-loop-source
invariant-loop-source l = PutSoFar l.table.state.marks l.source l.fn.out l.out
