use Rattle.std.proofs.Common.{◌<◌, length, sym, subst}
use Rattle.q4_machine.specs.History.{definitions_of, IsOpenFor}
use Rattle.q4_machine.specs.Recorded.{RecordedView, HasRoom}
use Rattle.q4_machine.proofs.Recording.{select_goes}
use Rattle.q4_machine.proofs.recorded.RecordedMachine.select.Goals as goal

pub invariant_of-self : goal.invariant_of-self
invariant_of-self c =
    let was = subst (λ (r : RecordedView). IsOpenFor r.log.seen 0 c.args.session) (sym c.self.view_is) c.requires.is_open in
    let room = subst (λ (r : RecordedView). HasRoom r.log 1) (sym c.self.view_is) c.requires.room in
    let inside = subst (λ (r : RecordedView). c.args.table < length (definitions_of r.log.seen)) (sym c.self.view_is) c.requires.inside in
    let goes = select_goes c.self.inside.machine.state c.self.inside.history.items c.args.session c.args.table c.args.most _ c.self.invariant c.in-Ok.ensures inside was room.1 in
    rw (c.push_reserved.ensures.items, c.entry.ensures, c.in-Ok-copy.ensures) goes.recorded

pub returns-clause-is_open : goal.returns-clause-is_open
returns-clause-is_open c =
    let was = subst (λ (r : RecordedView). IsOpenFor r.log.seen 0 c.args.session) (sym c.self.view_is) c.requires.is_open in
    let room = subst (λ (r : RecordedView). HasRoom r.log 1) (sym c.self.view_is) c.requires.room in
    let inside = subst (λ (r : RecordedView). c.args.table < length (definitions_of r.log.seen)) (sym c.self.view_is) c.requires.inside in
    let goes = select_goes c.self.inside.machine.state c.self.inside.history.items c.args.session c.args.table c.args.most _ c.self.invariant c.in-Ok.ensures inside was room.1 in
    rw (c.push_reserved.ensures.items, c.entry.ensures, c.in-Ok-copy.ensures) goes.is_open

pub returns-clause-sound : goal.returns-clause-sound
returns-clause-sound c =
    let was = subst (λ (r : RecordedView). IsOpenFor r.log.seen 0 c.args.session) (sym c.self.view_is) c.requires.is_open in
    let room = subst (λ (r : RecordedView). HasRoom r.log 1) (sym c.self.view_is) c.requires.room in
    let inside = subst (λ (r : RecordedView). c.args.table < length (definitions_of r.log.seen)) (sym c.self.view_is) c.requires.inside in
    let goes = select_goes c.self.inside.machine.state c.self.inside.history.items c.args.session c.args.table c.args.most _ c.self.invariant c.in-Ok.ensures inside was room.1 in
    rw (c.push_reserved.ensures.items, c.entry.ensures, c.in-Ok-copy.ensures) goes.recorded.sound
