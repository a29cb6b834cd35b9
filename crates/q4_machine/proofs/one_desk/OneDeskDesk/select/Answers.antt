use Rattle.std.proofs.Common.{◌∙◌, ap}
use Rattle.q4_machine.specs.declared.entry.Call.TheVariants as call
use Rattle.q4_machine.specs.History.{definitions_of}
use Rattle.q4_machine.specs.Parts.{select_answer}
use Rattle.q4_machine.proofs.Desks.{begins_grown, begins_same, desk_reserved, memory_only, selected, part_for, fault_for}
use Rattle.q4_machine.proofs.one_desk.OneDeskDesk.select.Goals as goal

pub invariant_of-self : goal.invariant_of-self
invariant_of-self c =
    record { desk = desk_reserved c.self.inside.recorded.log c.begin.new.self.log c.self.inside.current c.self.invariant.desk c.begin.ensures.seen c.begin.ensures.kept; defined = ap definitions_of c.begin.ensures.seen ∙ c.self.invariant.defined; begins = begins_same c.self.inside.defs c.self.inside.recorded.log.seen c.begin.new.self.log.seen c.self.invariant.begins c.begin.ensures.seen }

pub returns-in-Err-clause-part : goal.returns-in-Err-clause-part
returns-in-Err-clause-part c =
    fault_for c.args.self.now c.self.inside.recorded.log.seen c.self.inside.current c.begin.new.self.log.seen (call.Select c.args.table c.args.most) c.in-Err.fault c.self.view_is c.begin.ensures.seen c.in-Err.ensures.worn

pub invariant_of-self-2 : goal.invariant_of-self-2
invariant_of-self-2 c =
    let called = selected c.self.inside.recorded.log c.begin.new.self.log c.select.new.self.log c.self.inside.current c.in-Some.session c.args.table c.args.most c.select.result c.in-Some.is c.self.invariant.desk c.in_default-begin.ensures.begun c.begin.ensures.kept c.select.ensures.shown (memory_only c.select.result c.select.ensures.memory) c.select.ensures.sound c.select.ensures.is_open in
    record { desk = called.desk; defined = c.select.ensures.defined ∙ ap definitions_of c.begin.ensures.seen ∙ c.self.invariant.defined; begins = begins_grown c.self.inside.defs c.self.inside.recorded.log.seen _ _ c.self.invariant.begins called.part }

pub returns-clause-in_order : goal.returns-clause-in_order
returns-clause-in_order c =
    let called = selected c.self.inside.recorded.log c.begin.new.self.log c.select.new.self.log c.self.inside.current c.in-Some.session c.args.table c.args.most c.select.result c.in-Some.is c.self.invariant.desk c.in_default-begin.ensures.begun c.begin.ensures.kept c.select.ensures.shown (memory_only c.select.result c.select.ensures.memory) c.select.ensures.sound c.select.ensures.is_open in
    called.desk.in_order

pub returns-clause-part : goal.returns-clause-part
returns-clause-part c =
    let called = selected c.self.inside.recorded.log c.begin.new.self.log c.select.new.self.log c.self.inside.current c.in-Some.session c.args.table c.args.most c.select.result c.in-Some.is c.self.invariant.desk c.in_default-begin.ensures.begun c.begin.ensures.kept c.select.ensures.shown (memory_only c.select.result c.select.ensures.memory) c.select.ensures.sound c.select.ensures.is_open in
    part_for c.args.self.now c.self.inside.recorded.log.seen c.self.inside.current c.in-Some.session c.select.new.self.log.seen (call.Select c.args.table c.args.most) (select_answer c.select.result) c.self.view_is c.in-Some.is called.part
