use Rattle.std.proofs.Common.{sym, subst}
use Rattle.q4_machine.specs.Recorded.{RecordedView, HasRoom}
use Rattle.q4_machine.proofs.Recording.{defined_push, open_goes}
use Rattle.q4_machine.proofs.recorded.RecordedMachine.open.Goals as goal

pub invariant_of-self : goal.invariant_of-self
invariant_of-self c =
    let room = subst (λ (r : RecordedView). HasRoom r.log 1) (sym c.self.view_is) c.requires in
    let goes = open_goes c.self.inside.machine.state c.open.new.self.state c.self.inside.history.items c.in-Ok.session c.self.invariant c.in-Ok.session c.in-Ok.ensures.opened room.1 in
    rw (c.push_reserved.ensures.items, c.entry.ensures) goes.recorded

pub returns-in-Ok-clause-is_open : goal.returns-in-Ok-clause-is_open
returns-in-Ok-clause-is_open c =
    let room = subst (λ (r : RecordedView). HasRoom r.log 1) (sym c.self.view_is) c.requires in
    let goes = open_goes c.self.inside.machine.state c.open.new.self.state c.self.inside.history.items c.in-Ok.session c.self.invariant c.in-Ok.session c.in-Ok.ensures.opened room.1 in
    rw (c.push_reserved.ensures.items, c.entry.ensures) goes.is_open

pub returns-in-Ok-clause-sound : goal.returns-in-Ok-clause-sound
returns-in-Ok-clause-sound c =
    let room = subst (λ (r : RecordedView). HasRoom r.log 1) (sym c.self.view_is) c.requires in
    let goes = open_goes c.self.inside.machine.state c.open.new.self.state c.self.inside.history.items c.in-Ok.session c.self.invariant c.in-Ok.session c.in-Ok.ensures.opened room.1 in
    rw (c.push_reserved.ensures.items, c.entry.ensures) goes.recorded.sound

pub returns-in-Ok-clause-defined : goal.returns-in-Ok-clause-defined
returns-in-Ok-clause-defined c =
    rw (c.push_reserved.ensures.items, c.entry.ensures, ← c.self.view_is) (defined_push c.self.inside.history.items _ c.self.invariant.sound.legal)
