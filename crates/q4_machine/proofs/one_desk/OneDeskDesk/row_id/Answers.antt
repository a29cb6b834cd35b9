use Rattle.std.proofs.Common.{◌∙◌, refl, sym, ap}
use Rattle.q4_machine.specs.declared.entry.Call.TheVariants as call
use Rattle.q4_machine.specs.History.{definitions_of}
use Rattle.q4_machine.specs.Parts.{Replied}
use Rattle.q4_machine.specs.Step.{row_reply}
use Rattle.q4_machine.proofs.Desks.{begins_grown, begins_same, desk_reserved, calm_call, part_for, part_as, fault_for}
use Rattle.q4_machine.proofs.one_desk.OneDeskDesk.row_id.Goals as goal

pub invariant_of-self : goal.invariant_of-self
invariant_of-self c =
    record { desk = desk_reserved c.self.inside.recorded.log c.begin.new.self.log c.self.inside.current c.self.invariant.desk c.begin.ensures.seen c.begin.ensures.kept; defined = ap definitions_of c.begin.ensures.seen ∙ c.self.invariant.defined; begins = begins_same c.self.inside.defs c.self.inside.recorded.log.seen c.begin.new.self.log.seen c.self.invariant.begins c.begin.ensures.seen }

pub returns-in-Err-clause-part : goal.returns-in-Err-clause-part
returns-in-Err-clause-part c =
    fault_for c.args.self.now c.self.inside.recorded.log.seen c.self.inside.current c.begin.new.self.log.seen call.RowId c.in-Err.fault c.self.view_is c.begin.ensures.seen c.in-Err.ensures.worn

pub invariant_of-self-2 : goal.invariant_of-self-2
invariant_of-self-2 c =
    let called = calm_call c.self.inside.recorded.log c.begin.new.self.log c.row_id.new.self.log c.self.inside.current c.in-Some.session call.RowId (row_reply c.row_id.result) c.in-Some.is c.self.invariant.desk c.in_default-begin.ensures.begun c.row_id.ensures.told refl (λ e. cc e) refl refl c.row_id.ensures.sound c.row_id.ensures.is_open in
    record { desk = called.desk; defined = c.row_id.ensures.defined ∙ ap definitions_of c.begin.ensures.seen ∙ c.self.invariant.defined; begins = begins_grown c.self.inside.defs c.self.inside.recorded.log.seen _ _ c.self.invariant.begins called.part }

pub returns-clause-in_order : goal.returns-clause-in_order
returns-clause-in_order c =
    let called = calm_call c.self.inside.recorded.log c.begin.new.self.log c.row_id.new.self.log c.self.inside.current c.in-Some.session call.RowId (row_reply c.row_id.result) c.in-Some.is c.self.invariant.desk c.in_default-begin.ensures.begun c.row_id.ensures.told refl (λ e. cc e) refl refl c.row_id.ensures.sound c.row_id.ensures.is_open in
    called.desk.in_order

pub returns-clause-part : goal.returns-clause-part
returns-clause-part c =
    let called = calm_call c.self.inside.recorded.log c.begin.new.self.log c.row_id.new.self.log c.self.inside.current c.in-Some.session call.RowId (row_reply c.row_id.result) c.in-Some.is c.self.invariant.desk c.in_default-begin.ensures.begun c.row_id.ensures.told refl (λ e. cc e) refl refl c.row_id.ensures.sound c.row_id.ensures.is_open in
    part_for c.args.self.now c.self.inside.recorded.log.seen c.self.inside.current c.in-Some.session c.row_id.new.self.log.seen call.RowId _ c.self.view_is c.in-Some.is (part_as c.self.inside.recorded.log.seen c.row_id.new.self.log.seen c.in-Some.session call.RowId call.RowId (Replied (row_reply c.row_id.result)) _ refl (sym c.row_result.ensures) called.part)
