use Rattle.std.proofs.Common.{◌≡◌, Some, sym, subst, arith}
use Rattle.q4_machine.specs.declared.session.SessionMode.TheVariants.{NonOwner, Empty, Owner}
use Rattle.q4_table.specs.Rows.{row_in}
use Rattle.q4_machine.specs.Machine.{MachineState, table_at, mode_of}
use Rattle.q4_machine.specs.Kept.{MachineView}
use Rattle.q4_machine.proofs.Steps.{valid_quiet, valid_released, owned_inside, not_owner, not_empty}
use Rattle.q4_machine.proofs.Looking.{owner_owned}
use Rattle.q4_machine.proofs.machine.Machine.abort.Goals as goal

pub invariant_of-self : goal.invariant_of-self
invariant_of-self c =
    let m : MachineState = record { tables = c.self.inside.tables.tables; sessions = c.self.inside.sessions.items; next_session = c.self.inside.next_session } in
    let was = subst (λ (x : MachineView). mode_of x.state c.args.session ≡ Some Empty) (sym c.self.view_is) c.in-Empty.ensures.mode in
    rw c.set_mode.ensures (valid_quiet m c.args.session Empty NonOwner c.self.invariant was not_empty not_owner)

pub release-requires-clause-inside : goal.release-requires-clause-inside
release-requires-clause-inside c =
    let m : MachineState = record { tables = c.self.inside.tables.tables; sessions = c.self.inside.sessions.items; next_session = c.self.inside.next_session } in
    let was = subst (λ (x : MachineView). mode_of x.state c.args.session ≡ Some (Owner c.in-Owner.place c.in-Owner.number)) (sym c.self.view_is) c.in-Owner.ensures.mode in
    let inside = owned_inside m c.in-Owner.place c.in-Owner.number c.args.session (c.self.invariant.owns c.args.session c.in-Owner.place c.in-Owner.number was) in
    inside.0

pub invariant_of-self-in-Owner : goal.invariant_of-self-in-Owner
invariant_of-self-in-Owner c =
    let m : MachineState = record { tables = c.self.inside.tables.tables; sessions = c.self.inside.sessions.items; next_session = c.self.inside.next_session } in
    let was = subst (λ (x : MachineView). mode_of x.state c.args.session ≡ Some (Owner c.in-Owner.place c.in-Owner.number)) (sym c.self.view_is) c.in-Owner.ensures.mode in
    let inside = owned_inside m c.in-Owner.place c.in-Owner.number c.args.session (c.self.invariant.owns c.args.session c.in-Owner.place c.in-Owner.number was) in
    rw (c.release.ensures, c.set_mode-in-Owner.ensures) (valid_released m c.args.session c.in-Owner.place c.in-Owner.number c.self.invariant was)

pub release-requires-clause-owned : goal.release-requires-clause-owned
release-requires-clause-owned c =
    let m : MachineState = record { tables = c.self.inside.tables.tables; sessions = c.self.inside.sessions.items; next_session = c.self.inside.next_session } in
    let was = subst (λ (x : MachineView). mode_of x.state c.args.session ≡ Some (Owner c.in-Owner.place c.in-Owner.number)) (sym c.self.view_is) c.in-Owner.ensures.mode in
    let owns = c.self.invariant.owns c.args.session c.in-Owner.place c.in-Owner.number was in
    (owner_owned (row_in (table_at m.tables c.in-Owner.place).rows c.in-Owner.number) c.args.session owns)
