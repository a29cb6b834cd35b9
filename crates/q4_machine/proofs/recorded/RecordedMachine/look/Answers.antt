use Rattle.std.proofs.Common.{◌≡◌, ◌∙◌, Some, All, sym, subst}
use Rattle.q4_machine.specs.declared.session.SessionMode.TheVariants.{NonOwner}
use Rattle.q4_machine.specs.Machine.{mode_of}
use Rattle.q4_machine.specs.Definitions.{IsListed}
use Rattle.q4_machine.specs.History.{state_after, definitions_of, IsOpenFor}
use Rattle.q4_machine.specs.Recorded.{RecordedView, HasRoom}
use Rattle.q4_machine.proofs.Recording.{look_goes}
use Rattle.q4_machine.proofs.recorded.RecordedMachine.look.Goals as goal

pub invariant_of-self : goal.invariant_of-self
invariant_of-self c =
    let was = subst (λ (r : RecordedView). IsOpenFor r.log.seen 0 c.args.session) (sym c.self.view_is) c.requires.is_open in
    let room = subst (λ (r : RecordedView). HasRoom r.log 1) (sym c.self.view_is) c.requires.room in
    let mode = subst (λ (r : RecordedView). mode_of (state_after r.log.seen) c.args.session ≡ Some NonOwner) (sym c.self.view_is) c.requires.mode in
    let listed = subst (λ (r : RecordedView). All (IsListed (definitions_of r.log.seen)) c.args.list) (sym c.self.view_is) c.requires.listed in
    let steps = c.look-place.ensures.step (sym c.ends_wait.ensures ∙ c.if-ends_wait.true) in
    let goes = look_goes c.self.inside.machine.state c.look-place.new.self.state c.self.inside.history.items c.args.session c.args.list _ c.self.invariant steps mode listed was room.1 in
    rw (c.push_reserved.ensures.items, c.entry.ensures, c.look_outcome.ensures) goes.recorded

pub returns-then-ends_wait-clause-is_open : goal.returns-then-ends_wait-clause-is_open
returns-then-ends_wait-clause-is_open c =
    let was = subst (λ (r : RecordedView). IsOpenFor r.log.seen 0 c.args.session) (sym c.self.view_is) c.requires.is_open in
    let room = subst (λ (r : RecordedView). HasRoom r.log 1) (sym c.self.view_is) c.requires.room in
    let mode = subst (λ (r : RecordedView). mode_of (state_after r.log.seen) c.args.session ≡ Some NonOwner) (sym c.self.view_is) c.requires.mode in
    let listed = subst (λ (r : RecordedView). All (IsListed (definitions_of r.log.seen)) c.args.list) (sym c.self.view_is) c.requires.listed in
    let steps = c.look-place.ensures.step (sym c.ends_wait.ensures ∙ c.if-ends_wait.true) in
    let goes = look_goes c.self.inside.machine.state c.look-place.new.self.state c.self.inside.history.items c.args.session c.args.list _ c.self.invariant steps mode listed was room.1 in
    rw (c.push_reserved.ensures.items, c.entry.ensures, c.look_outcome.ensures) goes.is_open

pub returns-then-ends_wait-clause-sound : goal.returns-then-ends_wait-clause-sound
returns-then-ends_wait-clause-sound c =
    let was = subst (λ (r : RecordedView). IsOpenFor r.log.seen 0 c.args.session) (sym c.self.view_is) c.requires.is_open in
    let room = subst (λ (r : RecordedView). HasRoom r.log 1) (sym c.self.view_is) c.requires.room in
    let mode = subst (λ (r : RecordedView). mode_of (state_after r.log.seen) c.args.session ≡ Some NonOwner) (sym c.self.view_is) c.requires.mode in
    let listed = subst (λ (r : RecordedView). All (IsListed (definitions_of r.log.seen)) c.args.list) (sym c.self.view_is) c.requires.listed in
    let steps = c.look-place.ensures.step (sym c.ends_wait.ensures ∙ c.if-ends_wait.true) in
    let goes = look_goes c.self.inside.machine.state c.look-place.new.self.state c.self.inside.history.items c.args.session c.args.list _ c.self.invariant steps mode listed was room.1 in
    rw (c.push_reserved.ensures.items, c.entry.ensures, c.look_outcome.ensures) goes.recorded.sound
