use Rattle.std.proofs.Common.{◌∙◌, sym}
use Rattle.q4_table.specs.Adding.{number_limit}
use Rattle.q4_table.proofs.Entries.{lookup-row_in, numbered-removed, values-removed}
use Rattle.q4_table.proofs.rows.Rows.remove.Goals as goal

pub unwrap-requires : goal.unwrap-requires
unwrap-requires c =
    let found = c.remove.ensures.value ∙ lookup-row_in c.args.number c.self.inside.rows.entries c.self.invariant.keyed in
    rw (found, c.self.view_is) c.requires

pub invariant_of-self : goal.invariant_of-self
invariant_of-self c = rw c.remove.ensures.entries (numbered-removed c.args.number c.self.inside.rows.entries c.self.invariant)

pub returns-clause-rest : goal.returns-clause-rest
returns-clause-rest c = rw (← c.self.view_is, c.remove.ensures.entries) (values-removed 0 number_limit c.args.number c.self.inside.rows.entries c.self.invariant.keyed c.self.invariant.rise)

pub returns-clause-removed : goal.returns-clause-removed
returns-clause-removed c =
    let found = c.remove.ensures.value ∙ lookup-row_in c.args.number c.self.inside.rows.entries c.self.invariant.keyed in
    rw (← c.self.view_is) (sym found ∙ c.unwrap.ensures)
