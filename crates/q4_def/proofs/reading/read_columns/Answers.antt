use Rattle.std.proofs.Common.{arith, length-append, ◌∷◌, []}
use Rattle.std.proofs.lemmas.Result.{err_from_is_err_and}
use Rattle.q4_def.proofs.Growing.{column_fault, column_next, named_push}
use Rattle.q4_def.proofs.reading.read_columns.Goals as goal

pub returns-in_err-column-clause-cause : goal.returns-in_err-column-clause-cause
returns-in_err-column-clause-cause c =
    let p = err_from_is_err_and c.from_residual.result c.from_residual.ensures.1 in
    let inv = c.loop-text.invariant in
    rw (p.1, p.2) (column_fault c.args.texts.now c.loop-text.columns c.as_slice.result.now c.loop-text.text-index c.args.table _ _ c.loop-text-test.true c.as_slice.ensures inv.texts inv.named c.in_err-column.ensures.cause)

pub loop-text-preserved : goal.loop-text-preserved
loop-text-preserved c =
    let inv = c.loop-text.invariant in
    let is = c.in_ok-column.ensures in
    rw c.in_ok-push_column.ensures record {
      count = omega (arith, inv.count, length-append c.loop-text.columns (c.in_ok-column.column ∷ []));
      texts = column_next c.args.texts.now c.loop-text.columns c.loop-text.text-index _ c.in_ok-column.column c.loop-text-test.true inv.texts is.column;
      named = named_push c.loop-text.columns c.in_ok-column.column inv.named is.named (rw c.as_slice.ensures at is.fresh);
    }
