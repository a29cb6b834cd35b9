use Rattle.std.proofs.Common.{Some}
use Rattle.q4_table.specs.Rows.{without_row}
use Rattle.q4_table.specs.TableState.{TableState}
use Rattle.q4_machine.proofs.KeptTables.{read_at, with_state}
use Rattle.q4_machine.proofs.kept_tables.KeptTables.end.Goals as goal

pub returns : goal.returns
returns c =
    let read = read_at c.self.inside.openings.items c.args.self.now c.args.place c.index_mut-opening.result.now c.self.view_is c.requires.inside c.index_mut-opening.ensures.value in
    with_state c.self.inside.openings.items c.args.self.now c.args.place c.index_mut-opening.result.now c.end.new.self (λ (t : TableState). record t { rows = without_row c.args.number t.rows }) read c.end.ensures
