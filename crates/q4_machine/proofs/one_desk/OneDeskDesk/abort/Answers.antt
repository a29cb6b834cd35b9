use Rattle.std.proofs.Common.{◌∙◌, refl, sym, ap}
use Rattle.q4_machine.specs.declared.entry.Call.TheVariants as call
use Rattle.q4_machine.specs.History.{definitions_of}
use Rattle.q4_machine.specs.Parts.{Replied}
use Rattle.q4_machine.specs.Step.{abort_reply}
use Rattle.q4_machine.proofs.Desks.{begins_grown, begins_same, desk_reserved, calm_call, part_for, part_as, fault_for}
use Rattle.q4_machine.proofs.one_desk.OneDeskDesk.abort.Goals as goal

pub invariant_of-self : goal.invariant_of-self
invariant_of-self c =
    record { desk = desk_reserved c.self.inside.recorded.log c.begin.new.self.log c.self.inside.current c.self.invariant.desk c.begin.ensures.seen c.begin.ensures.kept; defined = ap definitions_of c.begin.ensures.seen ∙ c.self.invariant.defined; begins = begins_same c.self.inside.defs c.self.inside.recorded.log.seen c.begin.new.self.log.seen c.self.invariant.begins c.begin.ensures.seen }

pub returns-in-Err-clause-part : goal.returns-in-Err-clause-part
returns-in-Err-clause-part c =
    fault_for c.args.self.now c.self.inside.recorded.log.seen c.self.inside.current c.begin.new.self.log.seen call.Abort c.in-Err.fault c.self.view_is c.begin.ensures.seen c.in-Err.ensures.worn

pub invariant_of-self-2 : goal.invariant_of-self-2
invariant_of-self-2 c =
    let called = calm_call c.self.inside.recorded.log c.begin.new.self.log c.abort.new.self.log c.self.inside.current c.in-Some.session call.Abort (abort_reply c.abort.result) c.in-Some.is c.self.invariant.desk c.in_default-begin.ensures.begun c.abort.ensures.aborted refl (λ e. cc e) refl refl c.abort.ensures.sound c.abort.ensures.is_open in
    record { desk = called.desk; defined = c.abort.ensures.defined ∙ ap definitions_of c.begin.ensures.seen ∙ c.self.invariant.defined; begins = begins_grown c.self.inside.defs c.self.inside.recorded.log.seen _ _ c.self.invariant.begins called.part }

pub returns-clause-in_order : goal.returns-clause-in_order
returns-clause-in_order c =
    let called = calm_call c.self.inside.recorded.log c.begin.new.self.log c.abort.new.self.log c.self.inside.current c.in-Some.session call.Abort (abort_reply c.abort.result) c.in-Some.is c.self.invariant.desk c.in_default-begin.ensures.begun c.abort.ensures.aborted refl (λ e. cc e) refl refl c.abort.ensures.sound c.abort.ensures.is_open in
    called.desk.in_order

pub returns-clause-part : goal.returns-clause-part
returns-clause-part c =
    let called = calm_call c.self.inside.recorded.log c.begin.new.self.log c.abort.new.self.log c.self.inside.current c.in-Some.session call.Abort (abort_reply c.abort.result) c.in-Some.is c.self.invariant.desk c.in_default-begin.ensures.begun c.abort.ensures.aborted refl (λ e. cc e) refl refl c.abort.ensures.sound c.abort.ensures.is_open in
    part_for c.args.self.now c.self.inside.recorded.log.seen c.self.inside.current c.in-Some.session c.abort.new.self.log.seen call.Abort _ c.self.view_is c.in-Some.is (part_as c.self.inside.recorded.log.seen c.abort.new.self.log.seen c.in-Some.session call.Abort call.Abort (Replied (abort_reply c.abort.result)) _ refl (sym c.abort_result.ensures) called.part)
