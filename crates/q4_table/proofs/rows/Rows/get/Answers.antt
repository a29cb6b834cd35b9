use Rattle.std.proofs.Common.{◌∙◌}
use Rattle.q4_table.proofs.Entries.{lookup-row_in}
use Rattle.q4_table.proofs.rows.Rows.get.Goals as goal

pub returns : goal.returns
returns c = rw (← c.self.view_is) (c.get.ensures.value ∙ lookup-row_in c.args.number c.self.inside.rows.entries c.self.invariant.keyed)
