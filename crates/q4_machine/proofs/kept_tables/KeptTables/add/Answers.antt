use Rattle.q4_machine.proofs.KeptTables.{read_at, with_row}
use Rattle.q4_machine.proofs.kept_tables.KeptTables.add.Goals as goal

pub returns-clause-table : goal.returns-clause-table
returns-clause-table c =
    let read = read_at c.self.inside.openings.items c.args.self.now c.args.place c.index_mut-opening.result.now c.self.view_is c.requires.inside c.index_mut-opening.ensures.value in
    with_row c.self.inside.openings.items c.args.self.now c.args.place c.index_mut-opening.result.now c.add.new.self c.args.row c.add.result read c.add.ensures.table
