use Rattle.std.proofs.Common.{◌∙◌, List, Ok, All, sym, ap, subst, inl}
use Rattle.q4_table.specs.Cursors.{Cursor}
use Rattle.q4_machine.specs.declared.entry.Call.TheVariants as call
use Rattle.q4_machine.specs.declared.entry.Entry.{Entry}
use Rattle.q4_machine.specs.Definitions.{IsListed}
use Rattle.q4_machine.specs.History.{definitions_of}
use Rattle.q4_machine.specs.Kept.{AreKept}
use Rattle.q4_machine.specs.Parts.{Replied, wait_answer}
use Rattle.q4_machine.specs.Recorded.{Recorded, DeskState, HasBegun}
use Rattle.q4_machine.specs.Step.{look_reply}
use Rattle.q4_machine.proofs.Desks.{begins_grown, begins_same, desk_reserved, waited, part_for, part_as, fault_for, wait_replied}
use Rattle.q4_machine.proofs.Keeping.{all_kept, kept_still, listed_lists}
use Rattle.q4_machine.proofs.one_desk.OneDeskDesk.wait.Goals as goal

pub invariant_of-self : goal.invariant_of-self
invariant_of-self g c =
    record { desk = desk_reserved c.self.inside.recorded.log c.begin.new.self.log c.self.inside.current c.self.invariant.desk c.begin.ensures.seen c.begin.ensures.kept; defined = ap definitions_of c.begin.ensures.seen ∙ c.self.invariant.defined; begins = begins_same c.self.inside.defs c.self.inside.recorded.log.seen c.begin.new.self.log.seen c.self.invariant.begins c.begin.ensures.seen }

pub returns-in-Err-clause-part : goal.returns-in-Err-clause-part
returns-in-Err-clause-part g c =
    fault_for c.args.self.now c.self.inside.recorded.log.seen c.self.inside.current c.begin.new.self.log.seen (call.Look c.args.list.now) c.in-Err.fault c.self.view_is c.begin.ensures.seen c.in-Err.ensures.worn

pub invariant_of-self-in_default-copy : goal.invariant_of-self-in_default-copy
invariant_of-self-in_default-copy g c =
    record { desk = desk_reserved c.self.inside.recorded.log c.begin.new.self.log c.self.inside.current c.self.invariant.desk c.begin.ensures.seen c.begin.ensures.kept; defined = ap definitions_of c.begin.ensures.seen ∙ c.self.invariant.defined; begins = begins_same c.self.inside.defs c.self.inside.recorded.log.seen c.begin.new.self.log.seen c.self.invariant.begins c.begin.ensures.seen }

pub invariant_of-self-in-Err-keep : goal.invariant_of-self-in-Err-keep
invariant_of-self-in-Err-keep g c =
    rw c.keep.ensures.log
    (record { desk = desk_reserved c.self.inside.recorded.log c.begin.new.self.log c.self.inside.current c.self.invariant.desk c.begin.ensures.seen c.begin.ensures.kept; defined = ap definitions_of c.begin.ensures.seen ∙ c.self.invariant.defined; begins = begins_same c.self.inside.defs c.self.inside.recorded.log.seen c.begin.new.self.log.seen c.self.invariant.begins c.begin.ensures.seen })

pub returns-in-Err-keep-clause-part : goal.returns-in-Err-keep-clause-part
returns-in-Err-keep-clause-part g c =
    let seen = ap (λ (r : Recorded). r.seen) c.keep.ensures.log ∙ c.begin.ensures.seen in
    fault_for c.args.self.now c.self.inside.recorded.log.seen c.self.inside.current c.keep.new.self.log.seen (call.Look c.args.list.now) c.in-Err-keep.fault c.self.view_is seen (inl c.in-Err-keep.ensures.memory)

pub invariant_of-self-2 : goal.invariant_of-self-2
invariant_of-self-2 g c =
    let begun = subst (HasBegun c.self.inside.recorded.log.seen) (sym c.keep.ensures.log) c.in_default-begin.ensures.begun in
    let seen = ap (λ (r : Recorded). r.seen) c.keep.ensures.log ∙ c.begin.ensures.seen in
    let called = waited c.self.inside.recorded.log c.keep.new.self.log c.end_first-owes.new.recorded.log c.look_until.new.recorded.log c.self.inside.current c.in-Some.session c.in-Ok.copy (look_reply c.look_until.result) c.end_first-owes.result c.in-Some.is c.self.invariant.desk begun c.end_first-owes.ensures.ended c.end_first-owes.ensures.owes c.look_until.ensures.looked c.look_until.ensures.sound c.look_until.ensures.is_open in
    record { desk = called.desk; defined = c.look_until.ensures.defined ∙ c.end_first-owes.ensures.defined ∙ ap definitions_of seen ∙ c.self.invariant.defined; begins = begins_grown c.self.inside.defs c.self.inside.recorded.log.seen _ _ c.self.invariant.begins called.part }

pub returns-clause-in_order : goal.returns-clause-in_order
returns-clause-in_order g c =
    let begun = subst (HasBegun c.self.inside.recorded.log.seen) (sym c.keep.ensures.log) c.in_default-begin.ensures.begun in
    let called = waited c.self.inside.recorded.log c.keep.new.self.log c.end_first-owes.new.recorded.log c.look_until.new.recorded.log c.self.inside.current c.in-Some.session c.in-Ok.copy (look_reply c.look_until.result) c.end_first-owes.result c.in-Some.is c.self.invariant.desk begun c.end_first-owes.ensures.ended c.end_first-owes.ensures.owes c.look_until.ensures.looked c.look_until.ensures.sound c.look_until.ensures.is_open in
    called.desk.in_order

pub returns-clause-part : goal.returns-clause-part
returns-clause-part g c =
    let begun = subst (HasBegun c.self.inside.recorded.log.seen) (sym c.keep.ensures.log) c.in_default-begin.ensures.begun in
    let called = waited c.self.inside.recorded.log c.keep.new.self.log c.end_first-owes.new.recorded.log c.look_until.new.recorded.log c.self.inside.current c.in-Some.session c.in-Ok.copy (look_reply c.look_until.result) c.end_first-owes.result c.in-Some.is c.self.invariant.desk begun c.end_first-owes.ensures.ended c.end_first-owes.ensures.owes c.look_until.ensures.looked c.look_until.ensures.sound c.look_until.ensures.is_open in
    part_for c.args.self.now c.self.inside.recorded.log.seen c.self.inside.current c.in-Some.session c.look_until.new.recorded.log.seen (call.Look c.args.list.now) (wait_answer (Ok c.look_until.result)) c.self.view_is c.in-Some.is
    (part_as c.self.inside.recorded.log.seen c.look_until.new.recorded.log.seen c.in-Some.session (call.Look c.in-Ok.copy) (call.Look c.args.list.now) (Replied (look_reply c.look_until.result)) (wait_answer (Ok c.look_until.result)) (ap call.Look c.in-Ok.ensures) (wait_replied c.look_until.result) called.part)

pub returns-clause-kept : goal.returns-clause-kept
returns-clause-kept g c = λ few.
    let listed = subst (λ (d : DeskState). All (IsListed (definitions_of d.seen)) c.args.list.now) (sym c.self.view_is) c.requires.listed in
    let begun = subst (λ (h : List Entry). All (IsListed (definitions_of h)) c.args.list.now) (sym c.begin.ensures.seen) listed in
    let inside = listed_lists (definitions_of c.begin.new.self.log.seen) c.args.list.now c.begin.new.self.kept c.keep.ensures.lists begun in
    let kept = subst (λ (ks : List (List Cursor)). AreKept ks c.args.list.now) (sym (c.end_first-owes.ensures.cursors ∙ c.in_default-keep.ensures.kept)) (all_kept c.args.list.now c.begin.new.self.kept few inside) in
    kept_still c.end_first-owes.new.recorded.kept c.look_until.new.recorded.kept c.args.list.now c.look_until.ensures.kept kept
