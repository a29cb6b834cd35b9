use Rattle.std.proofs.Common.{None}
use Rattle.q4_table.specs.Cursors.{with_lowered}
use Rattle.q4_table.specs.Rows.{with_owner}
use Rattle.q4_table.specs.TableState.{TableState}
use Rattle.q4_machine.proofs.KeptTables.{read_at, with_both}
use Rattle.q4_machine.proofs.kept_tables.KeptTables.release.Goals as goal

pub returns : goal.returns
returns c =
    let read = read_at c.self.inside.openings.items c.args.self.now c.args.place c.index_mut-opening.result.now c.self.view_is c.requires.inside c.index_mut-opening.ensures.value in
    with_both c.self.inside.openings.items c.args.self.now c.args.place c.index_mut-opening.result.now c.release.new.self (λ (t : TableState). record t { rows = with_owner c.args.number None t.rows }) (with_lowered c.args.number) read c.release.ensures
