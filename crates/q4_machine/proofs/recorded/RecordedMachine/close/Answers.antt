use Rattle.std.proofs.Common.{sym, subst}
use Rattle.q4_machine.specs.History.{IsOpenFor}
use Rattle.q4_machine.specs.Recorded.{RecordedView, HasRoom}
use Rattle.q4_machine.proofs.Recording.{defined_push, close_recorded}
use Rattle.q4_machine.proofs.recorded.RecordedMachine.close.Goals as goal

pub invariant_of-self : goal.invariant_of-self
invariant_of-self c =
    let was = subst (λ (r : RecordedView). IsOpenFor r.log.seen 0 c.args.session) (sym c.self.view_is) c.requires.is_open in
    let room = subst (λ (r : RecordedView). HasRoom r.log 1) (sym c.self.view_is) c.requires.room in
    let recorded = close_recorded c.self.inside.machine.state c.close.new.self.state c.self.inside.history.items c.args.session c.self.invariant c.close.ensures.step was room.1 in
    rw (c.push_reserved.ensures.items, c.entry.ensures) recorded

pub returns-clause-sound : goal.returns-clause-sound
returns-clause-sound c =
    let was = subst (λ (r : RecordedView). IsOpenFor r.log.seen 0 c.args.session) (sym c.self.view_is) c.requires.is_open in
    let room = subst (λ (r : RecordedView). HasRoom r.log 1) (sym c.self.view_is) c.requires.room in
    let recorded = close_recorded c.self.inside.machine.state c.close.new.self.state c.self.inside.history.items c.args.session c.self.invariant c.close.ensures.step was room.1 in
    rw (c.push_reserved.ensures.items, c.entry.ensures) recorded.sound

pub returns-clause-defined : goal.returns-clause-defined
returns-clause-defined c =
    rw (c.push_reserved.ensures.items, c.entry.ensures, ← c.self.view_is) (defined_push c.self.inside.history.items _ c.self.invariant.sound.legal)
