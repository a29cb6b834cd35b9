use Rattle.std.proofs.Common.{◌≡◌, ◌==◌, map, take, filter, IfOk, subst}
use Rattle.std.proofs.lemmas.List.Elements.{All-get_or}
use Rattle.q4_table.specs.declared.rows.StoredRow.{StoredRow}
use Rattle.q4_table.specs.TableState.{TableState}
use Rattle.q4_table.specs.Rows.{row_in, IsThere}
use Rattle.q4_machine.specs.Machine.{no_table, table_at}
use Rattle.q4_machine.specs.Step.{numbered}
use Rattle.q4_machine.proofs.Looking.{owner_there}
use Rattle.q4_machine.proofs.Steps.{IsValidOpening}
use Rattle.q4_machine.proofs.Selecting.{own_shown}
use Rattle.q4_machine.proofs.machine.Machine.select.Goals as goal

pub unowned_rows-requires : goal.unowned_rows-requires
unowned_rows-requires c = rw c.table.ensures.state (All-get_or IsValidOpening c.args.self.now.state.tables c.args.table no_table c.requires.inside c.mode.ensures.valid.tables)

pub shown_row-requires-clause-valid : goal.shown_row-requires-clause-valid
shown_row-requires-clause-valid c = rw c.table-in-Owner.ensures.state (All-get_or IsValidOpening c.args.self.now.state.tables c.args.table no_table c.requires.inside c.mode.ensures.valid.tables)

pub shown_row-requires-clause-there : goal.shown_row-requires-clause-there
shown_row-requires-clause-there c =
    let own = c.mode.ensures.valid.owns c.args.session c.in-Owner.own c.in-Owner.number c.in-Owner.ensures.mode in
    let there : IsThere (table_at c.args.self.now.state.tables c.in-Owner.own).rows c.in-Owner.number = owner_there (row_in (table_at c.args.self.now.state.tables c.in-Owner.own).rows c.in-Owner.number) c.args.session own in
    rw c.table-in-Owner.ensures.state (subst (λ t. IsThere (table_at c.args.self.now.state.tables t).rows c.in-Owner.number) c.if-own-table.false there)

pub returns-else-own-table : goal.returns-else-own-table
returns-else-own-table c =
    own_shown c.args.self.now.state c.args.session c.args.table c.in-Owner.own c.in-Owner.number c.args.most c.shown_row.result c.in-Owner.ensures.mode c.if-own-table.false (subst (λ (t : TableState). IfOk c.shown_row.result (λ rows. rows ≡ map numbered (take c.args.most (filter (λ (r : StoredRow). r.number == c.in-Owner.number) t.rows)))) c.table-in-Owner.ensures.state c.shown_row.ensures)
