use Rattle.std.proofs.Common.{◌<◌, length, take, arith}
use Rattle.std.proofs.lemmas.Result.{err_from_is_err_and}
use Rattle.q4_value.proofs.Rows.{take_next, row_push}
use Rattle.q4_value.proofs.Fitting.{misfit}
use Rattle.q4_value.proofs.fit.values_fit.Goals as goal

pub loop-place-preserved : goal.loop-place-preserved
loop-place-preserved c =
    let few : c.loop-place.place < length c.args.values.now = omega (arith, c.requires.same) in
    rw (take_next c.args.columns.now c.loop-place.place c.index-columns-place.result c.loop-place-test.true c.index-columns-place.is, take_next c.args.values.now c.loop-place.place c.index-values-place.result few c.index-values-place.is)
    (row_push (take c.loop-place.place c.args.columns.now) (take c.loop-place.place c.args.values.now) c.index-columns-place.result c.index-values-place.result c.loop-place.invariant c.in_ok-value_fits.ensures.fits.0 c.in_ok-value_fits.ensures.fits.1)

pub returns-in_err-value_fits-clause-cause : goal.returns-in_err-value_fits-clause-cause
returns-in_err-value_fits-clause-cause c =
    let p = err_from_is_err_and c.from_residual.result c.from_residual.ensures.1 in
    let few : c.loop-place.place < length c.args.values.now = omega (arith, c.requires.same) in
    rw (p.1, p.2) (misfit c.args.columns.now c.args.values.now c.loop-place.place c.index-columns-place.result c.index-values-place.result c.in_err-value_fits.field-0.0 c.requires.same c.loop-place-test.true few c.index-columns-place.is c.index-values-place.is c.loop-place.invariant c.in_err-value_fits.ensures.cause)
