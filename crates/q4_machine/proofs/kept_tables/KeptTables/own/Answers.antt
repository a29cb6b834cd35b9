use Rattle.std.proofs.Common.{Some}
use Rattle.q4_table.specs.Rows.{with_owner}
use Rattle.q4_table.specs.TableState.{TableState}
use Rattle.q4_machine.proofs.KeptTables.{read_at, with_state}
use Rattle.q4_machine.proofs.kept_tables.KeptTables.own.Goals as goal

pub returns : goal.returns
returns c =
    let read = read_at c.self.inside.openings.items c.args.self.now c.args.place c.index_mut-opening.result.now c.self.view_is c.requires.inside c.index_mut-opening.ensures.value in
    with_state c.self.inside.openings.items c.args.self.now c.args.place c.index_mut-opening.result.now c.own.new.self (λ (t : TableState). record t { rows = with_owner c.args.number (Some c.args.session) t.rows }) read c.own.ensures
