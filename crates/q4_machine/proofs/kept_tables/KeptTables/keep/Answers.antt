use Rattle.q4_machine.proofs.KeptTables.{read_at, with_condition}
use Rattle.q4_machine.proofs.kept_tables.KeptTables.keep.Goals as goal

pub returns-clause-kept : goal.returns-clause-kept
returns-clause-kept c =
    let read = read_at c.self.inside.openings.items c.args.self.now c.args.place c.index_mut-opening.result.now c.self.view_is c.requires.inside c.index_mut-opening.ensures.value in
    with_condition c.self.inside.openings.items c.args.self.now c.args.place c.index_mut-opening.result.now c.keep.new.self c.args.cond.now.tree c.keep.result read c.keep.ensures.kept
