use Rattle.std.proofs.Common.{◌≡◌, Some, All, sym, subst}
use Rattle.q4_machine.specs.declared.session.SessionMode.TheVariants.{NonOwner, Empty}
use Rattle.q4_machine.specs.Definitions.{definitions, IsListed}
use Rattle.q4_machine.specs.Machine.{MachineState, mode_of}
use Rattle.q4_machine.specs.Kept.{MachineView}
use Rattle.q4_machine.specs.Found.{picked_of}
use Rattle.q4_machine.proofs.Steps.{valid_quiet, not_owner, not_empty}
use Rattle.q4_machine.proofs.Looking.{finds, valid_found, found_pick, free_owned_by_none}
use Rattle.q4_machine.proofs.machine.Machine.look.Goals as goal

pub own-requires-clause-inside : goal.own-requires-clause-inside
own-requires-clause-inside g c =
    let m : MachineState = record { tables = c.self.inside.tables.tables; sessions = c.self.inside.sessions.items; next_session = c.self.inside.next_session } in
    let listed = subst (λ (x : MachineView). All (IsListed (definitions x.state.tables)) c.args.list.now) (sym c.self.view_is) c.requires.listed in
    let picked = found_pick m c.args.list.now c.as_slice.result.now (Some (picked_of c.in-Some.found)) c.as_slice.ensures.list c.in-Some.ensures.found in
    let found = finds m c.args.list.now (picked_of c.in-Some.found) c.self.invariant listed picked in
    rw c.oldest_listed.ensures.kept found.inside

pub own-requires-clause-unowned : goal.own-requires-clause-unowned
own-requires-clause-unowned g c =
    let m : MachineState = record { tables = c.self.inside.tables.tables; sessions = c.self.inside.sessions.items; next_session = c.self.inside.next_session } in
    let listed = subst (λ (x : MachineView). All (IsListed (definitions x.state.tables)) c.args.list.now) (sym c.self.view_is) c.requires.listed in
    let picked = found_pick m c.args.list.now c.as_slice.result.now (Some (picked_of c.in-Some.found)) c.as_slice.ensures.list c.in-Some.ensures.found in
    let found = finds m c.args.list.now (picked_of c.in-Some.found) c.self.invariant listed picked in
    rw c.oldest_listed.ensures.kept (free_owned_by_none found.at.listed.cond.tree _ found.oldest.free)

pub invariant_of-self : goal.invariant_of-self
invariant_of-self g c =
    let m : MachineState = record { tables = c.self.inside.tables.tables; sessions = c.self.inside.sessions.items; next_session = c.self.inside.next_session } in
    let listed = subst (λ (x : MachineView). All (IsListed (definitions x.state.tables)) c.args.list.now) (sym c.self.view_is) c.requires.listed in
    let picked = found_pick m c.args.list.now c.as_slice.result.now (Some (picked_of c.in-Some.found)) c.as_slice.ensures.list c.in-Some.ensures.found in
    let found = finds m c.args.list.now (picked_of c.in-Some.found) c.self.invariant listed picked in
    let was = subst (λ (x : MachineView). mode_of x.state c.args.session ≡ Some NonOwner) (sym c.self.view_is) c.requires.mode in
    rw (c.own.ensures, c.set_mode.ensures, c.oldest_listed.ensures.kept) (valid_found m c.args.session c.args.list.now (picked_of c.in-Some.found) c.self.invariant was found)

pub invariant_of-self-then-over : goal.invariant_of-self-then-over
invariant_of-self-then-over g c =
    let m : MachineState = record { tables = c.self.inside.tables.tables; sessions = c.self.inside.sessions.items; next_session = c.self.inside.next_session } in
    let was = subst (λ (x : MachineView). mode_of x.state c.args.session ≡ Some NonOwner) (sym c.self.view_is) c.requires.mode in
    rw (c.set_mode-then-over.ensures, c.oldest_listed.ensures.kept) (valid_quiet m c.args.session NonOwner Empty c.self.invariant was not_owner not_empty)
