use Rattle.std.proofs.Common.{◌∙◌, None, IfErr, sym, ap, subst}
use Rattle.q4_value.specs.Row.{Fits}
use Rattle.q4_table.specs.Adding.{check_of, IsRefused}
use Rattle.q4_machine.specs.Definitions.{definitions, IsRowFor}
use Rattle.q4_machine.specs.Machine.{MachineState, table_at}
use Rattle.q4_machine.specs.Kept.{MachineView}
use Rattle.q4_machine.proofs.Defined.{columns_of, inside_tables}
use Rattle.q4_machine.proofs.Inserting.{insert_valid, insert_step, insert_keeps}
use Rattle.q4_machine.proofs.machine.Machine.insert.Goals as goal

pub add-requires-clause-inside : goal.add-requires-clause-inside
add-requires-clause-inside c =
    let m : MachineState = record { tables = c.self.inside.tables.tables; sessions = c.self.inside.sessions.items; next_session = c.self.inside.next_session } in
    let for_it = subst (λ (x : MachineView). IsRowFor (definitions x.state.tables) c.args.table c.args.row) (sym c.self.view_is) c.requires.row in
    inside_tables m.tables c.args.table for_it.inside

pub add-requires-clause-row : goal.add-requires-clause-row
add-requires-clause-row c =
    let m : MachineState = record { tables = c.self.inside.tables.tables; sessions = c.self.inside.sessions.items; next_session = c.self.inside.next_session } in
    let for_it = subst (λ (x : MachineView). IsRowFor (definitions x.state.tables) c.args.table c.args.row) (sym c.self.view_is) c.requires.row in
    subst (λ cs. Fits cs c.args.row) (columns_of m.tables c.args.table) for_it.fits

pub invariant_of-self : goal.invariant_of-self
invariant_of-self c =
    let m : MachineState = record { tables = c.self.inside.tables.tables; sessions = c.self.inside.sessions.items; next_session = c.self.inside.next_session } in
    let for_it = subst (λ (x : MachineView). IsRowFor (definitions x.state.tables) c.args.table c.args.row) (sym c.self.view_is) c.requires.row in
    insert_valid c.self.inside.tables c.add.new.self c.self.inside.sessions.items c.self.inside.next_session c.args.table c.args.row c.add.result c.self.invariant for_it (record { added = c.add.ensures.added; tables_are = c.add.ensures.table; refused = c.add.ensures.refused; kept = c.add.ensures.kept })

pub returns-clause-step : goal.returns-clause-step
returns-clause-step c =
    rw (← c.self.view_is) (insert_step c.self.inside.tables c.add.new.self c.self.inside.sessions.items c.self.inside.next_session c.args.session c.args.table c.args.row c.add.result (record { added = c.add.ensures.added; tables_are = c.add.ensures.table; refused = c.add.ensures.refused; kept = c.add.ensures.kept }))

pub returns-clause-cursors : goal.returns-clause-cursors
returns-clause-cursors c =
    insert_keeps c.self.inside.tables c.add.new.self c.args.table c.args.row c.add.result (record { added = c.add.ensures.added; tables_are = c.add.ensures.table; refused = c.add.ensures.refused; kept = c.add.ensures.kept }) ∙ ap (λ (x : MachineView). x.kept) c.self.view_is

pub returns-clause-refused : goal.returns-clause-refused
returns-clause-refused c =
    subst (λ (x : MachineView). IfErr c.add.result (λ fault. IsRefused (check_of (table_at x.state.tables c.args.table) c.args.row None) fault.0)) c.self.view_is c.add.ensures.refused
