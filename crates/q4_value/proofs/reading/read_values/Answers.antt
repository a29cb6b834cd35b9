use Rattle.std.proofs.Common.{take}
use Rattle.std.proofs.lemmas.Result.{err_from_is_err_and}
use Rattle.q4_value.proofs.Rows.{take_next, row_push}
use Rattle.q4_value.proofs.ReadingLaws.{read_fails, read_more}
use Rattle.q4_value.proofs.reading.read_values.Goals as goal

pub returns-in_err-value-clause-fault : goal.returns-in_err-value-clause-fault
returns-in_err-value-clause-fault c =
    let p = err_from_is_err_and c.from_residual.result c.from_residual.ensures.1 in
    rw (p.1, p.2) (read_fails c.args.columns.now c.loop-place.row c.args.bytes.now c.loop-place.rest.now c.loop-place.place c.index-columns-place.result c.in_err-value.field-0.0 c.loop-place-test.true c.index-columns-place.is c.loop-place.invariant.0 c.loop-place.invariant.1 c.in_err-value.ensures.fault)

pub loop-place-preserved : goal.loop-place-preserved
loop-place-preserved c =
    rw (take_next c.args.columns.now c.loop-place.place c.index-columns-place.result c.loop-place-test.true c.index-columns-place.is, c.in-Ok.ensures.pushed) (
      row_push (take c.loop-place.place c.args.columns.now) c.loop-place.row c.index-columns-place.result c.in_ok-value.value c.loop-place.invariant.0 c.in_ok-value.ensures.value.0 c.in_ok-value.ensures.value.1,
      read_more (take c.loop-place.place c.args.columns.now) c.args.bytes.now c.loop-place.rest.now c.in_ok-value.after.now c.loop-place.row c.index-columns-place.result c.in_ok-value.value c.loop-place.invariant.0 c.loop-place.invariant.1 c.in_ok-value.ensures.read,
    )
