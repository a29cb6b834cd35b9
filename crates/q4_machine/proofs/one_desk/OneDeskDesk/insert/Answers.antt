use Rattle.std.proofs.Common.{◌∙◌, Ok, Err, refl, ap}
use Rattle.q4_machine.specs.declared.entry.Call.TheVariants as call
use Rattle.q4_machine.specs.declared.entry.Reply.TheVariants as reply
use Rattle.q4_table.specs.declared.adding.Added.TheVariants.{Seen}
use Rattle.q4_machine.specs.History.{definitions_of}
use Rattle.q4_machine.specs.Parts.{Replied, WantsMemory, insert_answer}
use Rattle.q4_machine.specs.Recorded.{answered}
use Rattle.q4_machine.proofs.Desks.{begins_grown, begins_same, desk_reserved, no_call, insert_added, insert_seen, insert_refused, part_for, fault_for}
use Rattle.q4_machine.proofs.one_desk.OneDeskDesk.insert.Goals as goal

pub invariant_of-self : goal.invariant_of-self
invariant_of-self c =
    record { desk = desk_reserved c.self.inside.recorded.log c.begin.new.self.log c.self.inside.current c.self.invariant.desk c.begin.ensures.seen c.begin.ensures.kept; defined = ap definitions_of c.begin.ensures.seen ∙ c.self.invariant.defined; begins = begins_same c.self.inside.defs c.self.inside.recorded.log.seen c.begin.new.self.log.seen c.self.invariant.begins c.begin.ensures.seen }

pub returns-in-Err-clause-part : goal.returns-in-Err-clause-part
returns-in-Err-clause-part c =
    fault_for c.args.self.now c.self.inside.recorded.log.seen c.self.inside.current c.begin.new.self.log.seen (call.Insert c.args.table c.args.row) c.in-Err.fault c.self.view_is c.begin.ensures.seen c.in-Err.ensures.worn

pub invariant_of-self-in_default-copy : goal.invariant_of-self-in_default-copy
invariant_of-self-in_default-copy c =
    let called = no_call c.self.inside.recorded.log c.begin.new.self.log c.begin.new.self.log c.self.inside.current c.in-Some.session (call.Insert c.args.table c.args.row) c.self.invariant.desk c.in_default-begin.ensures.begun c.begin.ensures.kept refl in
    record { desk = called.desk; defined = ap definitions_of c.begin.ensures.seen ∙ c.self.invariant.defined; begins = begins_grown c.self.inside.defs c.self.inside.recorded.log.seen _ _ c.self.invariant.begins called.part }

pub returns-in_default-copy-clause-in_order : goal.returns-in_default-copy-clause-in_order
returns-in_default-copy-clause-in_order c =
    let called = no_call c.self.inside.recorded.log c.begin.new.self.log c.begin.new.self.log c.self.inside.current c.in-Some.session (call.Insert c.args.table c.args.row) c.self.invariant.desk c.in_default-begin.ensures.begun c.begin.ensures.kept refl in
    called.desk.in_order

pub returns-in_default-copy-clause-part : goal.returns-in_default-copy-clause-part
returns-in_default-copy-clause-part c =
    let called = no_call c.self.inside.recorded.log c.begin.new.self.log c.begin.new.self.log c.self.inside.current c.in-Some.session (call.Insert c.args.table c.args.row) c.self.invariant.desk c.in_default-begin.ensures.begun c.begin.ensures.kept refl in
    part_for c.args.self.now c.self.inside.recorded.log.seen c.self.inside.current c.in-Some.session c.begin.new.self.log.seen (call.Insert c.args.table c.args.row) (WantsMemory) c.self.view_is c.in-Some.is called.part

pub invariant_of-self-in-Ok-New : goal.invariant_of-self-in-Ok-New
invariant_of-self-in-Ok-New c =
    let called = insert_added c.self.inside.recorded.log c.begin.new.self.log c.insert.new.self.log c.sync.new.self.log c.self.inside.current c.in-Some.session c.args.table c.args.row (reply.Added c.in-Ok-New.number) c.in-Some.is c.self.invariant.desk c.in_default-begin.ensures.begun (c.in-Ok-New.ensures.entry ∙ ap (λ a. answered c.begin.new.self.log c.in-Some.session (call.Insert c.args.table c.args.row) (insert_answer (Ok a))) c.in-Ok-New.field-0-is) c.sync.ensures.synced refl c.sync.ensures.sound c.sync.ensures.is_open in
    record { desk = called.desk; defined = c.sync.ensures.defined ∙ c.insert.ensures.defined ∙ ap definitions_of c.begin.ensures.seen ∙ c.self.invariant.defined; begins = begins_grown c.self.inside.defs c.self.inside.recorded.log.seen _ _ c.self.invariant.begins called.part }

pub returns-in-Ok-New-clause-in_order : goal.returns-in-Ok-New-clause-in_order
returns-in-Ok-New-clause-in_order c =
    let called = insert_added c.self.inside.recorded.log c.begin.new.self.log c.insert.new.self.log c.sync.new.self.log c.self.inside.current c.in-Some.session c.args.table c.args.row (reply.Added c.in-Ok-New.number) c.in-Some.is c.self.invariant.desk c.in_default-begin.ensures.begun (c.in-Ok-New.ensures.entry ∙ ap (λ a. answered c.begin.new.self.log c.in-Some.session (call.Insert c.args.table c.args.row) (insert_answer (Ok a))) c.in-Ok-New.field-0-is) c.sync.ensures.synced refl c.sync.ensures.sound c.sync.ensures.is_open in
    called.desk.in_order

pub returns-in-Ok-New-clause-part : goal.returns-in-Ok-New-clause-part
returns-in-Ok-New-clause-part c =
    let called = insert_added c.self.inside.recorded.log c.begin.new.self.log c.insert.new.self.log c.sync.new.self.log c.self.inside.current c.in-Some.session c.args.table c.args.row (reply.Added c.in-Ok-New.number) c.in-Some.is c.self.invariant.desk c.in_default-begin.ensures.begun (c.in-Ok-New.ensures.entry ∙ ap (λ a. answered c.begin.new.self.log c.in-Some.session (call.Insert c.args.table c.args.row) (insert_answer (Ok a))) c.in-Ok-New.field-0-is) c.sync.ensures.synced refl c.sync.ensures.sound c.sync.ensures.is_open in
    part_for c.args.self.now c.self.inside.recorded.log.seen c.self.inside.current c.in-Some.session c.sync.new.self.log.seen (call.Insert c.args.table c.args.row) (Replied (reply.Added c.in-Ok-New.number)) c.self.view_is c.in-Some.is called.part

pub invariant_of-self-in-Err-insert : goal.invariant_of-self-in-Err-insert
invariant_of-self-in-Err-insert c =
    let called = insert_refused c.self.inside.recorded.log c.begin.new.self.log c.insert.new.self.log c.self.inside.current c.in-Some.session c.args.table c.args.row c.in-Err-insert.fault c.in-Some.is c.self.invariant.desk c.in_default-begin.ensures.begun c.begin.ensures.kept c.in-Err-insert.ensures.entry c.in-Err-insert.ensures.entered c.insert.ensures.sound c.insert.ensures.is_open in
    record { desk = called.desk; defined = c.insert.ensures.defined ∙ ap definitions_of c.begin.ensures.seen ∙ c.self.invariant.defined; begins = begins_grown c.self.inside.defs c.self.inside.recorded.log.seen _ _ c.self.invariant.begins called.part }

pub returns-in-Err-insert-clause-in_order : goal.returns-in-Err-insert-clause-in_order
returns-in-Err-insert-clause-in_order c =
    let called = insert_refused c.self.inside.recorded.log c.begin.new.self.log c.insert.new.self.log c.self.inside.current c.in-Some.session c.args.table c.args.row c.in-Err-insert.fault c.in-Some.is c.self.invariant.desk c.in_default-begin.ensures.begun c.begin.ensures.kept c.in-Err-insert.ensures.entry c.in-Err-insert.ensures.entered c.insert.ensures.sound c.insert.ensures.is_open in
    called.desk.in_order

pub returns-in-Err-insert-clause-part : goal.returns-in-Err-insert-clause-part
returns-in-Err-insert-clause-part c =
    let called = insert_refused c.self.inside.recorded.log c.begin.new.self.log c.insert.new.self.log c.self.inside.current c.in-Some.session c.args.table c.args.row c.in-Err-insert.fault c.in-Some.is c.self.invariant.desk c.in_default-begin.ensures.begun c.begin.ensures.kept c.in-Err-insert.ensures.entry c.in-Err-insert.ensures.entered c.insert.ensures.sound c.insert.ensures.is_open in
    part_for c.args.self.now c.self.inside.recorded.log.seen c.self.inside.current c.in-Some.session c.insert.new.self.log.seen (call.Insert c.args.table c.args.row) (insert_answer (Err c.in-Err-insert.fault)) c.self.view_is c.in-Some.is called.part

pub invariant_of-self-in-Ok-Seen : goal.invariant_of-self-in-Ok-Seen
invariant_of-self-in-Ok-Seen c =
    let called = insert_seen c.self.inside.recorded.log c.begin.new.self.log c.insert.new.self.log c.self.inside.current c.in-Some.session c.args.table c.args.row c.in-Ok-Seen.mark c.in-Some.is c.self.invariant.desk c.in_default-begin.ensures.begun (c.in-Ok-Seen.ensures.entry ∙ ap (λ a. answered c.begin.new.self.log c.in-Some.session (call.Insert c.args.table c.args.row) (insert_answer (Ok a))) c.in-Ok-Seen.field-0-is) c.insert.ensures.sound c.insert.ensures.is_open in
    record { desk = called.desk; defined = c.insert.ensures.defined ∙ ap definitions_of c.begin.ensures.seen ∙ c.self.invariant.defined; begins = begins_grown c.self.inside.defs c.self.inside.recorded.log.seen _ _ c.self.invariant.begins called.part }

pub returns-in-Ok-Seen-clause-in_order : goal.returns-in-Ok-Seen-clause-in_order
returns-in-Ok-Seen-clause-in_order c =
    let called = insert_seen c.self.inside.recorded.log c.begin.new.self.log c.insert.new.self.log c.self.inside.current c.in-Some.session c.args.table c.args.row c.in-Ok-Seen.mark c.in-Some.is c.self.invariant.desk c.in_default-begin.ensures.begun (c.in-Ok-Seen.ensures.entry ∙ ap (λ a. answered c.begin.new.self.log c.in-Some.session (call.Insert c.args.table c.args.row) (insert_answer (Ok a))) c.in-Ok-Seen.field-0-is) c.insert.ensures.sound c.insert.ensures.is_open in
    called.desk.in_order

pub returns-in-Ok-Seen-clause-part : goal.returns-in-Ok-Seen-clause-part
returns-in-Ok-Seen-clause-part c =
    let called = insert_seen c.self.inside.recorded.log c.begin.new.self.log c.insert.new.self.log c.self.inside.current c.in-Some.session c.args.table c.args.row c.in-Ok-Seen.mark c.in-Some.is c.self.invariant.desk c.in_default-begin.ensures.begun (c.in-Ok-Seen.ensures.entry ∙ ap (λ a. answered c.begin.new.self.log c.in-Some.session (call.Insert c.args.table c.args.row) (insert_answer (Ok a))) c.in-Ok-Seen.field-0-is) c.insert.ensures.sound c.insert.ensures.is_open in
    part_for c.args.self.now c.self.inside.recorded.log.seen c.self.inside.current c.in-Some.session c.insert.new.self.log.seen (call.Insert c.args.table c.args.row) (insert_answer (Ok (Seen c.in-Ok-Seen.mark))) c.self.view_is c.in-Some.is called.part
