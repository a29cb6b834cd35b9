use Rattle.std.proofs.Common.{◌≡◌, Some, sym, subst, arith}
use Rattle.q4_machine.specs.declared.session.SessionMode.TheVariants.{NonOwner, Empty, Owner}
use Rattle.q4_table.specs.Rows.{row_in}
use Rattle.q4_machine.specs.Machine.{MachineState, table_at, mode_of}
use Rattle.q4_machine.specs.Kept.{MachineView}
use Rattle.q4_machine.proofs.Steps.{valid_left, valid_given_back, owned_inside, not_owner, not_empty}
use Rattle.q4_machine.proofs.Looking.{owner_owned}
use Rattle.q4_machine.proofs.machine.Machine.close.Goals as goal

pub invariant_of-self : goal.invariant_of-self
invariant_of-self c =
    let m : MachineState = record { tables = c.self.inside.tables.tables; sessions = c.self.inside.sessions.items; next_session = c.self.inside.next_session } in
    let was = subst (λ (x : MachineView). mode_of x.state c.args.session ≡ Some NonOwner) (sym c.self.view_is) c.in-NonOwner.ensures.mode in
    rw c.remove_session.ensures (valid_left m c.args.session NonOwner c.self.invariant was not_owner)

pub invariant_of-self-in-Empty : goal.invariant_of-self-in-Empty
invariant_of-self-in-Empty c =
    let m : MachineState = record { tables = c.self.inside.tables.tables; sessions = c.self.inside.sessions.items; next_session = c.self.inside.next_session } in
    let was = subst (λ (x : MachineView). mode_of x.state c.args.session ≡ Some Empty) (sym c.self.view_is) c.in-Empty.ensures.mode in
    rw c.remove_session-in-Empty.ensures (valid_left m c.args.session Empty c.self.invariant was not_empty)

pub release-requires-clause-inside : goal.release-requires-clause-inside
release-requires-clause-inside c =
    let m : MachineState = record { tables = c.self.inside.tables.tables; sessions = c.self.inside.sessions.items; next_session = c.self.inside.next_session } in
    let was = subst (λ (x : MachineView). mode_of x.state c.args.session ≡ Some (Owner c.in-Owner.place c.in-Owner.owned)) (sym c.self.view_is) c.in-Owner.ensures.mode in
    let inside = owned_inside m c.in-Owner.place c.in-Owner.owned c.args.session (c.self.invariant.owns c.args.session c.in-Owner.place c.in-Owner.owned was) in
    inside.0

pub invariant_of-self-in-Owner : goal.invariant_of-self-in-Owner
invariant_of-self-in-Owner c =
    let m : MachineState = record { tables = c.self.inside.tables.tables; sessions = c.self.inside.sessions.items; next_session = c.self.inside.next_session } in
    let was = subst (λ (x : MachineView). mode_of x.state c.args.session ≡ Some (Owner c.in-Owner.place c.in-Owner.owned)) (sym c.self.view_is) c.in-Owner.ensures.mode in
    let inside = owned_inside m c.in-Owner.place c.in-Owner.owned c.args.session (c.self.invariant.owns c.args.session c.in-Owner.place c.in-Owner.owned was) in
    rw (c.release.ensures, c.remove_session-in-Owner.ensures) (valid_given_back m c.args.session c.in-Owner.place c.in-Owner.owned c.self.invariant was)

pub release-requires-clause-owned : goal.release-requires-clause-owned
release-requires-clause-owned c =
    let m : MachineState = record { tables = c.self.inside.tables.tables; sessions = c.self.inside.sessions.items; next_session = c.self.inside.next_session } in
    let was = subst (λ (x : MachineView). mode_of x.state c.args.session ≡ Some (Owner c.in-Owner.place c.in-Owner.owned)) (sym c.self.view_is) c.in-Owner.ensures.mode in
    let owns = c.self.invariant.owns c.args.session c.in-Owner.place c.in-Owner.owned was in
    (owner_owned (row_in (table_at m.tables c.in-Owner.place).rows c.in-Owner.owned) c.args.session owns)
