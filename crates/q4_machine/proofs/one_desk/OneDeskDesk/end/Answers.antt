use Rattle.std.proofs.Common.{◌≡◌, ◌∙◌, Err, sym, ap, refl, true, false, is_some}
use Rattle.q4_machine.specs.declared.entry.Call.TheVariants as call
use Rattle.q4_machine.specs.declared.entry.Reply.TheVariants as reply
use Rattle.q4_machine.specs.declared.desk.ModeFault.TheVariants as fault
use Rattle.q4_machine.specs.Machine.{mode_of}
use Rattle.q4_machine.specs.History.{state_after, definitions_of, is_owner}
use Rattle.q4_machine.specs.Parts.{Replied, mode_answer}
use Rattle.q4_machine.proofs.Desks.{begins_grown, begins_same, desk_reserved, synced_call, calm_call, part_for, part_as, fault_for}
use Rattle.q4_machine.proofs.one_desk.OneDeskDesk.end.Goals as goal

pub invariant_of-self : goal.invariant_of-self
invariant_of-self c =
    record { desk = desk_reserved c.self.inside.recorded.log c.begin.new.self.log c.self.inside.current c.self.invariant.desk c.begin.ensures.seen c.begin.ensures.kept; defined = ap definitions_of c.begin.ensures.seen ∙ c.self.invariant.defined; begins = begins_same c.self.inside.defs c.self.inside.recorded.log.seen c.begin.new.self.log.seen c.self.invariant.begins c.begin.ensures.seen }

pub returns-in-Err-clause-part : goal.returns-in-Err-clause-part
returns-in-Err-clause-part c =
    fault_for c.args.self.now c.self.inside.recorded.log.seen c.self.inside.current c.begin.new.self.log.seen call.End c.in-Err.fault c.self.view_is c.begin.ensures.seen c.in-Err.ensures.worn

pub invariant_of-self-in-Ok-Some : goal.invariant_of-self-in-Ok-Some
invariant_of-self-in-Ok-Some c =
    let change : is_owner (mode_of (state_after c.self.inside.recorded.log.seen) c.in-Some.session) ≡ true = ap (λ h. is_owner (mode_of (state_after h) c.in-Some.session)) (sym c.begin.ensures.seen) ∙ sym c.in-Ok-Some.ensures.removed ∙ ap is_some c.in-Ok-Some.field-0-is in
    let called = synced_call c.self.inside.recorded.log c.begin.new.self.log c.end.new.self.log c.sync.new.self.log c.self.inside.current c.in-Some.session call.End reply.Done c.in-Some.is c.self.invariant.desk c.in_default-begin.ensures.begun c.in-Ok-Some.ensures.ended c.sync.ensures.synced change (λ e. cc e) refl refl c.sync.ensures.sound c.sync.ensures.is_open in
    record { desk = called.desk; defined = c.sync.ensures.defined ∙ c.end.ensures.defined ∙ ap definitions_of c.begin.ensures.seen ∙ c.self.invariant.defined; begins = begins_grown c.self.inside.defs c.self.inside.recorded.log.seen _ _ c.self.invariant.begins called.part }

pub returns-in-Ok-Some-clause-in_order : goal.returns-in-Ok-Some-clause-in_order
returns-in-Ok-Some-clause-in_order c =
    let change : is_owner (mode_of (state_after c.self.inside.recorded.log.seen) c.in-Some.session) ≡ true = ap (λ h. is_owner (mode_of (state_after h) c.in-Some.session)) (sym c.begin.ensures.seen) ∙ sym c.in-Ok-Some.ensures.removed ∙ ap is_some c.in-Ok-Some.field-0-is in
    let called = synced_call c.self.inside.recorded.log c.begin.new.self.log c.end.new.self.log c.sync.new.self.log c.self.inside.current c.in-Some.session call.End reply.Done c.in-Some.is c.self.invariant.desk c.in_default-begin.ensures.begun c.in-Ok-Some.ensures.ended c.sync.ensures.synced change (λ e. cc e) refl refl c.sync.ensures.sound c.sync.ensures.is_open in
    called.desk.in_order

pub returns-in-Ok-Some-clause-part : goal.returns-in-Ok-Some-clause-part
returns-in-Ok-Some-clause-part c =
    let change : is_owner (mode_of (state_after c.self.inside.recorded.log.seen) c.in-Some.session) ≡ true = ap (λ h. is_owner (mode_of (state_after h) c.in-Some.session)) (sym c.begin.ensures.seen) ∙ sym c.in-Ok-Some.ensures.removed ∙ ap is_some c.in-Ok-Some.field-0-is in
    let called = synced_call c.self.inside.recorded.log c.begin.new.self.log c.end.new.self.log c.sync.new.self.log c.self.inside.current c.in-Some.session call.End reply.Done c.in-Some.is c.self.invariant.desk c.in_default-begin.ensures.begun c.in-Ok-Some.ensures.ended c.sync.ensures.synced change (λ e. cc e) refl refl c.sync.ensures.sound c.sync.ensures.is_open in
    part_for c.args.self.now c.self.inside.recorded.log.seen c.self.inside.current c.in-Some.session c.sync.new.self.log.seen call.End (Replied reply.Done) c.self.view_is c.in-Some.is called.part

pub invariant_of-self-in-Ok-None : goal.invariant_of-self-in-Ok-None
invariant_of-self-in-Ok-None c =
    let calm : is_owner (mode_of (state_after c.self.inside.recorded.log.seen) c.in-Some.session) ≡ false = ap (λ h. is_owner (mode_of (state_after h) c.in-Some.session)) (sym c.begin.ensures.seen) ∙ sym c.in-Ok-None.ensures.removed ∙ ap is_some c.in-Ok-None.field-0-is in
    let called = calm_call c.self.inside.recorded.log c.begin.new.self.log c.end.new.self.log c.self.inside.current c.in-Some.session call.End reply.Done c.in-Some.is c.self.invariant.desk c.in_default-begin.ensures.begun c.in-Ok-None.ensures.ended calm (λ e. cc e) refl refl c.end.ensures.sound c.end.ensures.is_open in
    record { desk = called.desk; defined = c.end.ensures.defined ∙ ap definitions_of c.begin.ensures.seen ∙ c.self.invariant.defined; begins = begins_grown c.self.inside.defs c.self.inside.recorded.log.seen _ _ c.self.invariant.begins called.part }

pub returns-in-Ok-None-clause-in_order : goal.returns-in-Ok-None-clause-in_order
returns-in-Ok-None-clause-in_order c =
    let calm : is_owner (mode_of (state_after c.self.inside.recorded.log.seen) c.in-Some.session) ≡ false = ap (λ h. is_owner (mode_of (state_after h) c.in-Some.session)) (sym c.begin.ensures.seen) ∙ sym c.in-Ok-None.ensures.removed ∙ ap is_some c.in-Ok-None.field-0-is in
    let called = calm_call c.self.inside.recorded.log c.begin.new.self.log c.end.new.self.log c.self.inside.current c.in-Some.session call.End reply.Done c.in-Some.is c.self.invariant.desk c.in_default-begin.ensures.begun c.in-Ok-None.ensures.ended calm (λ e. cc e) refl refl c.end.ensures.sound c.end.ensures.is_open in
    called.desk.in_order

pub returns-in-Ok-None-clause-part : goal.returns-in-Ok-None-clause-part
returns-in-Ok-None-clause-part c =
    let calm : is_owner (mode_of (state_after c.self.inside.recorded.log.seen) c.in-Some.session) ≡ false = ap (λ h. is_owner (mode_of (state_after h) c.in-Some.session)) (sym c.begin.ensures.seen) ∙ sym c.in-Ok-None.ensures.removed ∙ ap is_some c.in-Ok-None.field-0-is in
    let called = calm_call c.self.inside.recorded.log c.begin.new.self.log c.end.new.self.log c.self.inside.current c.in-Some.session call.End reply.Done c.in-Some.is c.self.invariant.desk c.in_default-begin.ensures.begun c.in-Ok-None.ensures.ended calm (λ e. cc e) refl refl c.end.ensures.sound c.end.ensures.is_open in
    part_for c.args.self.now c.self.inside.recorded.log.seen c.self.inside.current c.in-Some.session c.end.new.self.log.seen call.End (Replied reply.Done) c.self.view_is c.in-Some.is called.part

pub invariant_of-self-in-Err-end : goal.invariant_of-self-in-Err-end
invariant_of-self-in-Err-end c =
    let calm : is_owner (mode_of (state_after c.self.inside.recorded.log.seen) c.in-Some.session) ≡ false = ap (λ h. is_owner (mode_of (state_after h) c.in-Some.session)) (sym c.begin.ensures.seen) ∙ ap is_owner c.in-Err-end.ensures.refused in
    let called = calm_call c.self.inside.recorded.log c.begin.new.self.log c.end.new.self.log c.self.inside.current c.in-Some.session call.End (reply.Refused c.in-Err-end.field-0) c.in-Some.is c.self.invariant.desk c.in_default-begin.ensures.begun c.in-Err-end.ensures.ended calm (λ e. cc e) refl refl c.end.ensures.sound c.end.ensures.is_open in
    record { desk = called.desk; defined = c.end.ensures.defined ∙ ap definitions_of c.begin.ensures.seen ∙ c.self.invariant.defined; begins = begins_grown c.self.inside.defs c.self.inside.recorded.log.seen _ _ c.self.invariant.begins called.part }

pub returns-in-Err-end-clause-in_order : goal.returns-in-Err-end-clause-in_order
returns-in-Err-end-clause-in_order c =
    let calm : is_owner (mode_of (state_after c.self.inside.recorded.log.seen) c.in-Some.session) ≡ false = ap (λ h. is_owner (mode_of (state_after h) c.in-Some.session)) (sym c.begin.ensures.seen) ∙ ap is_owner c.in-Err-end.ensures.refused in
    let called = calm_call c.self.inside.recorded.log c.begin.new.self.log c.end.new.self.log c.self.inside.current c.in-Some.session call.End (reply.Refused c.in-Err-end.field-0) c.in-Some.is c.self.invariant.desk c.in_default-begin.ensures.begun c.in-Err-end.ensures.ended calm (λ e. cc e) refl refl c.end.ensures.sound c.end.ensures.is_open in
    called.desk.in_order

pub returns-in-Err-end-clause-part : goal.returns-in-Err-end-clause-part
returns-in-Err-end-clause-part c =
    let calm : is_owner (mode_of (state_after c.self.inside.recorded.log.seen) c.in-Some.session) ≡ false = ap (λ h. is_owner (mode_of (state_after h) c.in-Some.session)) (sym c.begin.ensures.seen) ∙ ap is_owner c.in-Err-end.ensures.refused in
    let called = calm_call c.self.inside.recorded.log c.begin.new.self.log c.end.new.self.log c.self.inside.current c.in-Some.session call.End (reply.Refused c.in-Err-end.field-0) c.in-Some.is c.self.invariant.desk c.in_default-begin.ensures.begun c.in-Err-end.ensures.ended calm (λ e. cc e) refl refl c.end.ensures.sound c.end.ensures.is_open in
    part_for c.args.self.now c.self.inside.recorded.log.seen c.self.inside.current c.in-Some.session c.end.new.self.log.seen call.End (mode_answer (Err fault.NotOwner)) c.self.view_is c.in-Some.is (part_as c.self.inside.recorded.log.seen c.end.new.self.log.seen c.in-Some.session call.End call.End (Replied (reply.Refused c.in-Err-end.field-0)) (mode_answer (Err fault.NotOwner)) refl (ap (λ r. Replied (reply.Refused r)) c.in-Err-end.ensures.refusal) called.part)
