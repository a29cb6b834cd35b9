use Rattle.std.proofs.Common.{◌≡◌, ◌+◌, ◌||◌, drop, subst, arith}
use Rattle.q4_record.specs.Extents.{CutRow}
use Rattle.q4_record.proofs.Extending.{RowSoFar, more_there, cut_there, ill_there}
use Rattle.q4_record.proofs.extent.row_extent.Goals as goal
use Rattle.q4_record.proofs.extent.row_extent.Goals.{then-long, else-long}

pub returns-in-Cut : goal.returns-in-Cut
returns-in-Cut c =
    let v = rw c.in-Cut.is at c.cell_extent-extent.ensures in
    let so = c.loop-column.invariant in
    let long : (c.loop-column.long || c.cell_extent-extent.result.1) ≡ c.if-long.long = elim c.if-long.branch [ then-long w ↦ grind arith | else-long w ↦ grind arith ] in
    subst (CutRow c.args.columns.now c.args.bytes.now) long (cut_there c.args.columns.now c.args.bytes.now c.loop-column.column-index c.loop-column.rest.now c.loop-column.long c.column-item.result c.cell_extent-extent.result.1 c.loop-column-test.true c.column-item.is so v.0 v.1)

pub returns-in-Unreadable : goal.returns-in-Unreadable
returns-in-Unreadable c =
    let v = rw c.in-Unreadable.is at c.cell_extent-extent.ensures in
    ill_there c.args.columns.now c.args.bytes.now c.loop-column.column-index c.loop-column.rest.now c.loop-column.long c.column-item.result c.loop-column-test.true c.column-item.is c.loop-column.invariant v

pub loop-column-preserved : goal.loop-column-preserved
loop-column-preserved c =
    let v = rw c.in-Whole.is at c.cell_extent-extent.ensures in
    let long : (c.loop-column.long || c.cell_extent-extent.result.1) ≡ c.if-long.long = elim c.if-long.branch [ then-long w ↦ grind arith | else-long w ↦ grind arith ] in
    rw c.split_at.ensures.back
    (subst (λ b. RowSoFar c.args.columns.now c.args.bytes.now (c.loop-column.column-index + 1) (drop c.in-Whole.len c.loop-column.rest.now) b) long (more_there c.args.columns.now c.args.bytes.now c.loop-column.column-index c.loop-column.rest.now c.loop-column.long c.column-item.result c.in-Whole.len c.cell_extent-extent.result.1 c.loop-column-test.true c.column-item.is c.loop-column.invariant v))
