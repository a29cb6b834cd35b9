use Rattle.std.proofs.Common.{◌∙◌}
use Rattle.q4_machine.proofs.Desks.{begins_grown, closing_room, closed_desk, closed_for}
use Rattle.q4_machine.proofs.one_desk.OneDeskDesk.close.Goals as goal

pub close-requires-clause-room : goal.close-requires-clause-room
close-requires-clause-room c = closing_room c.self.inside.recorded.log c.self.inside.current c.in-Some.session c.self.invariant.desk c.in-Some.is

pub invariant_of-self : goal.invariant_of-self
invariant_of-self c =
    let closed = closed_desk c.self.inside.recorded.log c.close.new.self.log c.self.inside.current c.in-Some.session c.self.invariant.desk c.in-Some.is c.close.ensures.closed c.close.ensures.sound in
    record { desk = closed.0; defined = c.close.ensures.defined ∙ c.self.invariant.defined; begins = begins_grown c.self.inside.defs c.self.inside.recorded.log.seen _ _ c.self.invariant.begins closed.1 }

pub returns-in-Some-clause-in_order : goal.returns-in-Some-clause-in_order
returns-in-Some-clause-in_order c =
    let closed = closed_desk c.self.inside.recorded.log c.close.new.self.log c.self.inside.current c.in-Some.session c.self.invariant.desk c.in-Some.is c.close.ensures.closed c.close.ensures.sound in
    closed.0.in_order

pub returns-in-Some-clause-entry : goal.returns-in-Some-clause-entry
returns-in-Some-clause-entry c =
    let closed = closed_desk c.self.inside.recorded.log c.close.new.self.log c.self.inside.current c.in-Some.session c.self.invariant.desk c.in-Some.is c.close.ensures.closed c.close.ensures.sound in
    closed_for c.args.self.now c.self.inside.recorded.log.seen c.self.inside.current c.in-Some.session c.close.new.self.log.seen c.self.view_is c.in-Some.is closed.1
