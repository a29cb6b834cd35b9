use Rattle.std.proofs.Common.{◌∙◌, Ok, sym, ap, subst}
use Rattle.q4_machine.specs.History.{definitions_of}
use Rattle.q4_machine.specs.Parts.{Grows, IsOpened}
use Rattle.q4_machine.specs.Recorded.{Recorded, RecordedView, DeskState, entry_limit}
use Rattle.q4_machine.specs.OneDesk.{IsDesk, IsOneDesk}
use Rattle.q4_machine.proofs.Desks.{begins_grown, begins_same, desk_reserved, opened_desk}
use Rattle.q4_machine.proofs.one_desk.OneDeskDesk.open.Goals as goal

pub invariant_of-self : goal.invariant_of-self
invariant_of-self c =
    record { desk = desk_reserved c.self.inside.recorded.log c.begin.new.self.log c.self.inside.current c.self.invariant.desk c.begin.ensures.seen c.begin.ensures.kept; defined = ap definitions_of c.begin.ensures.seen ∙ c.self.invariant.defined; begins = begins_same c.self.inside.defs c.self.inside.recorded.log.seen c.begin.new.self.log.seen c.self.invariant.begins c.begin.ensures.seen }

pub invariant_of-self-in_err-session : goal.invariant_of-self-in_err-session
invariant_of-self-in_err-session c =
    subst (λ (r : Recorded). IsOneDesk r c.self.inside.defs c.self.inside.current) (sym (ap (λ (v : RecordedView). v.log) c.in_err-session.ensures.kept))
    (record { desk = desk_reserved c.self.inside.recorded.log c.begin.new.self.log c.self.inside.current c.self.invariant.desk c.begin.ensures.seen c.begin.ensures.kept; defined = ap definitions_of c.begin.ensures.seen ∙ c.self.invariant.defined; begins = begins_same c.self.inside.defs c.self.inside.recorded.log.seen c.begin.new.self.log.seen c.self.invariant.begins c.begin.ensures.seen })

pub invariant_of-self-2 : goal.invariant_of-self-2
invariant_of-self-2 c =
    let none = ap (λ (d : DeskState). d.current) c.self.view_is ∙ c.requires in
    let desk = subst (IsDesk c.self.inside.recorded.log) none c.self.invariant.desk in
    let opened = opened_desk c.self.inside.recorded.log c.begin.new.self.log c.open.new.self.log c.in_ok-session.session desk c.in_ok-begin.ensures.begun c.in_ok-session.ensures.opened c.open.ensures.sound c.in_ok-session.ensures.is_open in
    record { desk = opened.0; defined = c.open.ensures.defined ∙ ap definitions_of c.begin.ensures.seen ∙ c.self.invariant.defined; begins = begins_grown c.self.inside.defs c.self.inside.recorded.log.seen _ _ c.self.invariant.begins opened.1 }

pub returns-clause-in_order : goal.returns-clause-in_order
returns-clause-in_order c =
    let none = ap (λ (d : DeskState). d.current) c.self.view_is ∙ c.requires in
    let desk = subst (IsDesk c.self.inside.recorded.log) none c.self.invariant.desk in
    let opened = opened_desk c.self.inside.recorded.log c.begin.new.self.log c.open.new.self.log c.in_ok-session.session desk c.in_ok-begin.ensures.begun c.in_ok-session.ensures.opened c.open.ensures.sound c.in_ok-session.ensures.is_open in
    opened.0.in_order

pub returns-clause-entry : goal.returns-clause-entry
returns-clause-entry c =
    let none = ap (λ (d : DeskState). d.current) c.self.view_is ∙ c.requires in
    let desk = subst (IsDesk c.self.inside.recorded.log) none c.self.invariant.desk in
    let opened = opened_desk c.self.inside.recorded.log c.begin.new.self.log c.open.new.self.log c.in_ok-session.session desk c.in_ok-begin.ensures.begun c.in_ok-session.ensures.opened c.open.ensures.sound c.in_ok-session.ensures.is_open in
    subst (λ (d : DeskState). Grows d.seen c.open.new.self.log.seen (λ grown. IsOpened entry_limit d.seen grown 0 (Ok c.in_ok-session.session))) c.self.view_is opened.1
