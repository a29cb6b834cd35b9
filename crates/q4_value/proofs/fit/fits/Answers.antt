use Rattle.std.proofs.Common.{◌≤◌, ◌*◌, length, ap, subst, arith}
use Rattle.q4_value.specs.Row.{IsRowOf, row_size}
use Rattle.q4_value.proofs.Rows.{small_row}
use Rattle.q4_value.proofs.fit.fits.Goals as goal

pub row_size-requires : goal.row_size-requires
row_size-requires c =
    let fits : IsRowOf c.args.columns.now c.args.row.now = subst (IsRowOf c.args.columns.now) c.as_slice-values.ensures c.in_ok-values_fit.ensures.fits in
    let small : row_size c.args.row.now ≤ length c.args.row.now * 65539 = small_row c.args.row.now fits.values in
    let few : length c.args.row.now ≤ 32 = omega (arith, ap length c.as_slice-values.ensures, c.requires, c.if-values-columns.false) in omega (arith, small, few)
