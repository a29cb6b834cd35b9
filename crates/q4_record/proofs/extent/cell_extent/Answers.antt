use Rattle.q4_record.proofs.Extending.{zero_there}
use Rattle.q4_record.proofs.extent.cell_extent.Goals as goal

pub returns-in-0 : goal.returns-in-0
returns-in-0 c = zero_there c.args.column.now c.args.bytes.now c.if-not-column.false c.in-len1-up.len_at_least c.in-0.is
