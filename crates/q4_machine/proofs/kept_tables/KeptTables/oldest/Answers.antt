use Rattle.q4_table.specs.Cursors.{end_of_look, with_moved}
use Rattle.q4_machine.proofs.KeptTables.{read_at, with_cursors}
use Rattle.q4_machine.proofs.kept_tables.KeptTables.oldest.Goals as goal

pub returns-clause-moved : goal.returns-clause-moved
returns-clause-moved g c =
    let read = read_at c.self.inside.openings.items c.args.self.now c.args.place c.index_mut-opening.result.now c.self.view_is c.requires.inside c.index_mut-opening.ensures.value in
    with_cursors c.self.inside.openings.items c.args.self.now c.args.place c.index_mut-opening.result.now c.oldest.new.self (λ t kept. with_moved c.args.cond.now.tree (end_of_look t c.oldest.result) kept) read c.oldest.ensures.moved
