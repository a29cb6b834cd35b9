use Rattle.std.proofs.Common.{◌≡◌, ◌∙◌, Some, sym, subst}
use Rattle.q4_machine.specs.Definitions.{IsRowFor}
use Rattle.q4_machine.specs.Step.{insert_reply}
use Rattle.q4_machine.specs.History.{definitions_of, IsOpenFor}
use Rattle.q4_machine.specs.Recorded.{RecordedView, HasRoom}
use Rattle.q4_machine.proofs.Recording.{insert_goes}
use Rattle.q4_machine.proofs.recorded.RecordedMachine.insert.Goals as goal

pub invariant_of-self : goal.invariant_of-self
invariant_of-self c =
    let was = subst (λ (r : RecordedView). IsOpenFor r.log.seen 0 c.args.session) (sym c.self.view_is) c.requires.is_open in
    let room = subst (λ (r : RecordedView). HasRoom r.log 1) (sym c.self.view_is) c.requires.room in
    let for_it = subst (λ (r : RecordedView). IsRowFor (definitions_of r.log.seen) c.args.table c.args.row) (sym c.self.view_is) c.requires.row in
    let told : insert_reply c.insert.result ≡ Some c.in-Some.reply = sym c.desk_answer-answer.ensures.reply ∙ sym c.reply_of.ensures ∙ c.in-Some.is in
    let goes = insert_goes c.self.inside.machine.state c.insert.new.self.state c.self.inside.history.items c.args.session c.args.table c.args.row c.in-Some.reply c.self.invariant (c.insert.ensures.step c.in-Some.reply told) for_it was room.1 in
    rw (c.push_reserved.ensures.items, c.entry.ensures, c.requires.copy) goes.recorded

pub returns-in-Some-clause-is_open : goal.returns-in-Some-clause-is_open
returns-in-Some-clause-is_open c =
    let was = subst (λ (r : RecordedView). IsOpenFor r.log.seen 0 c.args.session) (sym c.self.view_is) c.requires.is_open in
    let room = subst (λ (r : RecordedView). HasRoom r.log 1) (sym c.self.view_is) c.requires.room in
    let for_it = subst (λ (r : RecordedView). IsRowFor (definitions_of r.log.seen) c.args.table c.args.row) (sym c.self.view_is) c.requires.row in
    let told : insert_reply c.insert.result ≡ Some c.in-Some.reply = sym c.desk_answer-answer.ensures.reply ∙ sym c.reply_of.ensures ∙ c.in-Some.is in
    let goes = insert_goes c.self.inside.machine.state c.insert.new.self.state c.self.inside.history.items c.args.session c.args.table c.args.row c.in-Some.reply c.self.invariant (c.insert.ensures.step c.in-Some.reply told) for_it was room.1 in
    rw (c.push_reserved.ensures.items, c.entry.ensures, c.requires.copy) goes.is_open

pub returns-in-Some-clause-sound : goal.returns-in-Some-clause-sound
returns-in-Some-clause-sound c =
    let was = subst (λ (r : RecordedView). IsOpenFor r.log.seen 0 c.args.session) (sym c.self.view_is) c.requires.is_open in
    let room = subst (λ (r : RecordedView). HasRoom r.log 1) (sym c.self.view_is) c.requires.room in
    let for_it = subst (λ (r : RecordedView). IsRowFor (definitions_of r.log.seen) c.args.table c.args.row) (sym c.self.view_is) c.requires.row in
    let told : insert_reply c.insert.result ≡ Some c.in-Some.reply = sym c.desk_answer-answer.ensures.reply ∙ sym c.reply_of.ensures ∙ c.in-Some.is in
    let goes = insert_goes c.self.inside.machine.state c.insert.new.self.state c.self.inside.history.items c.args.session c.args.table c.args.row c.in-Some.reply c.self.invariant (c.insert.ensures.step c.in-Some.reply told) for_it was room.1 in
    rw (c.push_reserved.ensures.items, c.entry.ensures, c.requires.copy) goes.recorded.sound
