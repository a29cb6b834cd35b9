use Rattle.std.proofs.Common.{◌≢◌, ◌∙◌, [], List, ℕ, IsTrue, refl, sym, ap, subst, arith}
use Rattle.std.proofs.lemmas.List.Elements.{All-nil}
use Rattle.q4_flow.specs.declared.lines.LineEnd.TheVariants as line
use Rattle.q4_flow.specs.Reading.{Reading}
use Rattle.q4_flow.proofs.Known.{gave_nothing}
use Rattle.q4_machine.specs.History.{definitions_of}
use Rattle.q4_proto.specs.Told.{told}
use Rattle.q4_proto.specs.Text.{text}
use Rattle.q4_session.specs.declared.sessions.SessionEnd.TheVariants as end
use Rattle.q4_session.specs.declared.answering.Answered.TheVariants as answered
use Rattle.q4_session.specs.Exchanges.{Client}
use Rattle.q4_session.specs.Sessions.{Around}
use Rattle.q4_session.proofs.Causing.{stays_at_next, stays_at_line}
use Rattle.q4_session.proofs.Conversing.{Conversing, no_line, takes_of, answering_as, lined, stopped_at, goes_on_more, ends_by_quit, ends_by_fault, ends_silently, ends_by_words}
use Rattle.q4_session.proofs.sessions.converse.Goals as goal

pub loop-desk-init : goal.loop-desk-init
loop-desk-init g c = record {
  in_order = c.requires.in_order;
  caller = refl;
  limit = refl;
  defined = refl;
  current = refl;
  running = ap (λ (r : Reading). r.stopped) c.in-Ok.ensures;
  so_far = λ s is.
      let client : Client = (record { defs = definitions_of (g.K.Desk.seen c.args.desk.now); limit = g.K.Desk.limit c.args.desk.now; caller = g.K.Desk.caller c.args.desk.now; session = s }) in
      let old : Around = (record { seen = g.K.Desk.seen c.args.desk.now; left = g.S.Source.left c.args.source.now; written = g.W.Sink.written c.args.sink.now; patience = g.P.Patience.state c.args.patience.now }) in
      subst (λ (pending : List ℕ). Conversing client old old pending) (sym (ap (λ (r : Reading). r.pending) c.in-Ok.ensures)) (no_line client old);
  read_stayed = refl;
  stayed = refl;
}

pub loop-desk-preserved : goal.loop-desk-preserved
loop-desk-preserved g c = record {
  in_order = c.answer.ensures.in_order;
  caller = c.answer.ensures.same.0 ∙ c.loop-desk.invariant.caller;
  limit = c.answer.ensures.same.1 ∙ c.loop-desk.invariant.limit;
  defined = c.answer.ensures.defined ∙ c.loop-desk.invariant.defined;
  current = c.answer.ensures.current ∙ c.loop-desk.invariant.current;
  running = c.in-Line.ensures.going refl;
  so_far = λ s is.
      let inv = c.loop-desk.invariant in
      let answering = answering_as _ _ _ _ _ _ s _ _ _ _ _ _ _ answered.Next inv.defined inv.limit inv.caller (c.in-Next.ensures.answering s (inv.current ∙ is)) in
      goes_on_more (record { defs = definitions_of (g.K.Desk.seen c.args.desk.now); limit = g.K.Desk.limit c.args.desk.now; caller = g.K.Desk.caller c.args.desk.now; session = s }) (record { seen = g.K.Desk.seen c.args.desk.now; left = g.S.Source.left c.args.source.now; written = g.W.Sink.written c.args.sink.now; patience = g.P.Patience.state c.args.patience.now }) (record { seen = g.K.Desk.seen c.loop-desk.desk; left = g.S.Source.left c.loop-desk.source; written = g.W.Sink.written c.loop-desk.sink; patience = g.P.Patience.state c.loop-desk.patience }) (record { seen = g.K.Desk.seen c.answer.new.desk; left = g.S.Source.left c.next.new.source; written = g.W.Sink.written c.answer.new.sink; patience = g.P.Patience.state c.answer.new.patience }) c.loop-desk.lines.pending c.next.new.self.pending c.line.result.now (inv.so_far s is)
      (lined (record { defs = definitions_of (g.K.Desk.seen c.args.desk.now); limit = g.K.Desk.limit c.args.desk.now; caller = g.K.Desk.caller c.args.desk.now; session = s }) (record { seen = g.K.Desk.seen c.loop-desk.desk; left = g.S.Source.left c.loop-desk.source; written = g.W.Sink.written c.loop-desk.sink; patience = g.P.Patience.state c.loop-desk.patience }) (record { seen = g.K.Desk.seen c.answer.new.desk; left = g.S.Source.left c.next.new.source; written = g.W.Sink.written c.answer.new.sink; patience = g.P.Patience.state c.answer.new.patience }) c.loop-desk.lines c.next.new.self (IsTrue (g.S.Source.ended c.next.new.source)) c.line.result.now answered.Next inv.running c.in-Line.ensures.cut c.line.ensures answering);
  read_stayed = stays_at_line _ _ c.in-Line.ensures.stayed ∙ c.loop-desk.invariant.read_stayed;
  stayed = stays_at_next _ _ c.in-Next.ensures.cause ∙ c.loop-desk.invariant.stayed;
}

pub returns-in-Quit-clause-conversation : goal.returns-in-Quit-clause-conversation
returns-in-Quit-clause-conversation g c = λ s is.
    let inv = c.loop-desk.invariant in
    let answering = answering_as _ _ _ _ _ _ s _ _ _ _ _ _ _ answered.Quit inv.defined inv.limit inv.caller (c.in-Quit.ensures.answering s (inv.current ∙ is)) in
    ends_by_quit (record { defs = definitions_of (g.K.Desk.seen c.args.desk.now); limit = g.K.Desk.limit c.args.desk.now; caller = g.K.Desk.caller c.args.desk.now; session = s }) (record { seen = g.K.Desk.seen c.args.desk.now; left = g.S.Source.left c.args.source.now; written = g.W.Sink.written c.args.sink.now; patience = g.P.Patience.state c.args.patience.now }) (record { seen = g.K.Desk.seen c.loop-desk.desk; left = g.S.Source.left c.loop-desk.source; written = g.W.Sink.written c.loop-desk.sink; patience = g.P.Patience.state c.loop-desk.patience }) (record { seen = g.K.Desk.seen c.answer.new.desk; left = g.S.Source.left c.next.new.source; written = g.W.Sink.written c.answer.new.sink; patience = g.P.Patience.state c.answer.new.patience }) c.loop-desk.lines.pending c.next.new.self.pending c.line.result.now (IsTrue (g.S.Source.ended c.next.new.source)) (inv.so_far s is)
    (lined (record { defs = definitions_of (g.K.Desk.seen c.args.desk.now); limit = g.K.Desk.limit c.args.desk.now; caller = g.K.Desk.caller c.args.desk.now; session = s }) (record { seen = g.K.Desk.seen c.loop-desk.desk; left = g.S.Source.left c.loop-desk.source; written = g.W.Sink.written c.loop-desk.sink; patience = g.P.Patience.state c.loop-desk.patience }) (record { seen = g.K.Desk.seen c.answer.new.desk; left = g.S.Source.left c.next.new.source; written = g.W.Sink.written c.answer.new.sink; patience = g.P.Patience.state c.answer.new.patience }) c.loop-desk.lines c.next.new.self (IsTrue (g.S.Source.ended c.next.new.source)) c.line.result.now answered.Quit inv.running c.in-Line.ensures.cut c.line.ensures answering)

pub returns-in-WriteFault-clause-conversation : goal.returns-in-WriteFault-clause-conversation
returns-in-WriteFault-clause-conversation g c = λ s is.
    let inv = c.loop-desk.invariant in
    let answering = answering_as _ _ _ _ _ _ s _ _ _ _ _ _ _ answered.WriteFault inv.defined inv.limit inv.caller (c.in-WriteFault.ensures.answering s (inv.current ∙ is)) in
    ends_by_fault (record { defs = definitions_of (g.K.Desk.seen c.args.desk.now); limit = g.K.Desk.limit c.args.desk.now; caller = g.K.Desk.caller c.args.desk.now; session = s }) (record { seen = g.K.Desk.seen c.args.desk.now; left = g.S.Source.left c.args.source.now; written = g.W.Sink.written c.args.sink.now; patience = g.P.Patience.state c.args.patience.now }) (record { seen = g.K.Desk.seen c.loop-desk.desk; left = g.S.Source.left c.loop-desk.source; written = g.W.Sink.written c.loop-desk.sink; patience = g.P.Patience.state c.loop-desk.patience }) (record { seen = g.K.Desk.seen c.answer.new.desk; left = g.S.Source.left c.next.new.source; written = g.W.Sink.written c.answer.new.sink; patience = g.P.Patience.state c.answer.new.patience }) c.loop-desk.lines.pending c.next.new.self.pending c.line.result.now (IsTrue (g.S.Source.ended c.next.new.source)) (inv.so_far s is)
    (lined (record { defs = definitions_of (g.K.Desk.seen c.args.desk.now); limit = g.K.Desk.limit c.args.desk.now; caller = g.K.Desk.caller c.args.desk.now; session = s }) (record { seen = g.K.Desk.seen c.loop-desk.desk; left = g.S.Source.left c.loop-desk.source; written = g.W.Sink.written c.loop-desk.sink; patience = g.P.Patience.state c.loop-desk.patience }) (record { seen = g.K.Desk.seen c.answer.new.desk; left = g.S.Source.left c.next.new.source; written = g.W.Sink.written c.answer.new.sink; patience = g.P.Patience.state c.answer.new.patience }) c.loop-desk.lines c.next.new.self (IsTrue (g.S.Source.ended c.next.new.source)) c.line.result.now answered.WriteFault inv.running c.in-Line.ensures.cut c.line.ensures answering)

pub returns-in-End-clause-conversation : goal.returns-in-End-clause-conversation
returns-in-End-clause-conversation g c = λ s is.
    let inv = c.loop-desk.invariant in
    let so_far = inv.so_far s is in
    let takes = takes_of c.loop-desk.lines c.next.new.self _ _ _ line.End c.in-End.ensures.cut inv.running in
    ends_silently (record { defs = definitions_of (g.K.Desk.seen c.args.desk.now); limit = g.K.Desk.limit c.args.desk.now; caller = g.K.Desk.caller c.args.desk.now; session = s }) (record { seen = g.K.Desk.seen c.args.desk.now; left = g.S.Source.left c.args.source.now; written = g.W.Sink.written c.args.sink.now; patience = g.P.Patience.state c.args.patience.now }) (record { seen = g.K.Desk.seen c.loop-desk.desk; left = g.S.Source.left c.loop-desk.source; written = g.W.Sink.written c.loop-desk.sink; patience = g.P.Patience.state c.loop-desk.patience }) (record { seen = g.K.Desk.seen c.loop-desk.desk; left = g.S.Source.left c.next.new.source; written = g.W.Sink.written c.loop-desk.sink; patience = g.P.Patience.state c.loop-desk.patience }) c.loop-desk.lines.pending _ (IsTrue (g.S.Source.ended c.next.new.source)) end.Ended so_far
    (stopped_at (record { seen = g.K.Desk.seen c.loop-desk.desk; left = g.S.Source.left c.loop-desk.source; written = g.W.Sink.written c.loop-desk.sink; patience = g.P.Patience.state c.loop-desk.patience }) (record { seen = g.K.Desk.seen c.loop-desk.desk; left = g.S.Source.left c.next.new.source; written = g.W.Sink.written c.loop-desk.sink; patience = g.P.Patience.state c.loop-desk.patience }) c.loop-desk.lines c.next.new.self (IsTrue (g.S.Source.ended c.next.new.source)) line.End inv.running c.in-End.ensures.cut refl refl) refl (so_far.goes_on, takes.2.1, takes.2.0) refl

pub returns-in-ReadFault-clause-conversation : goal.returns-in-ReadFault-clause-conversation
returns-in-ReadFault-clause-conversation g c = λ s is.
    let inv = c.loop-desk.invariant in
    let so_far = inv.so_far s is in
    let takes = takes_of c.loop-desk.lines c.next.new.self _ _ _ line.ReadFault c.in-ReadFault.ensures.cut inv.running in
    ends_silently (record { defs = definitions_of (g.K.Desk.seen c.args.desk.now); limit = g.K.Desk.limit c.args.desk.now; caller = g.K.Desk.caller c.args.desk.now; session = s }) (record { seen = g.K.Desk.seen c.args.desk.now; left = g.S.Source.left c.args.source.now; written = g.W.Sink.written c.args.sink.now; patience = g.P.Patience.state c.args.patience.now }) (record { seen = g.K.Desk.seen c.loop-desk.desk; left = g.S.Source.left c.loop-desk.source; written = g.W.Sink.written c.loop-desk.sink; patience = g.P.Patience.state c.loop-desk.patience }) (record { seen = g.K.Desk.seen c.loop-desk.desk; left = g.S.Source.left c.next.new.source; written = g.W.Sink.written c.loop-desk.sink; patience = g.P.Patience.state c.loop-desk.patience }) c.loop-desk.lines.pending _ (IsTrue (g.S.Source.ended c.next.new.source)) end.ReadFault so_far
    (stopped_at (record { seen = g.K.Desk.seen c.loop-desk.desk; left = g.S.Source.left c.loop-desk.source; written = g.W.Sink.written c.loop-desk.sink; patience = g.P.Patience.state c.loop-desk.patience }) (record { seen = g.K.Desk.seen c.loop-desk.desk; left = g.S.Source.left c.next.new.source; written = g.W.Sink.written c.loop-desk.sink; patience = g.P.Patience.state c.loop-desk.patience }) c.loop-desk.lines c.next.new.self (IsTrue (g.S.Source.ended c.next.new.source)) line.ReadFault inv.running c.in-ReadFault.ensures.cut refl refl) refl (so_far.goes_on, takes.2) refl

pub returns-in-Partial-clause-conversation : goal.returns-in-Partial-clause-conversation
returns-in-Partial-clause-conversation g c = λ s is.
    let inv = c.loop-desk.invariant in
    let so_far = inv.so_far s is in
    let takes = takes_of c.loop-desk.lines c.next.new.self _ _ _ (line.Partial c.in-Partial.count) c.in-Partial.ensures.cut inv.running in
    ends_by_words (record { defs = definitions_of (g.K.Desk.seen c.args.desk.now); limit = g.K.Desk.limit c.args.desk.now; caller = g.K.Desk.caller c.args.desk.now; session = s }) (record { seen = g.K.Desk.seen c.args.desk.now; left = g.S.Source.left c.args.source.now; written = g.W.Sink.written c.args.sink.now; patience = g.P.Patience.state c.args.patience.now }) (record { seen = g.K.Desk.seen c.loop-desk.desk; left = g.S.Source.left c.loop-desk.source; written = g.W.Sink.written c.loop-desk.sink; patience = g.P.Patience.state c.loop-desk.patience }) (record { seen = g.K.Desk.seen c.loop-desk.desk; left = g.S.Source.left c.next.new.source; written = g.W.Sink.written c.last_reply-in-Partial.new.sink; patience = g.P.Patience.state c.loop-desk.patience }) c.loop-desk.lines.pending _ (IsTrue (g.S.Source.ended c.next.new.source)) (end.Partial c.in-Partial.count) c.last_reply-in-Partial.result (told c.refused-in-Partial.result) so_far
    (stopped_at (record { seen = g.K.Desk.seen c.loop-desk.desk; left = g.S.Source.left c.loop-desk.source; written = g.W.Sink.written c.loop-desk.sink; patience = g.P.Patience.state c.loop-desk.patience }) (record { seen = g.K.Desk.seen c.loop-desk.desk; left = g.S.Source.left c.next.new.source; written = g.W.Sink.written c.last_reply-in-Partial.new.sink; patience = g.P.Patience.state c.loop-desk.patience }) c.loop-desk.lines c.next.new.self (IsTrue (g.S.Source.ended c.next.new.source)) (line.Partial c.in-Partial.count) inv.running c.in-Partial.ensures.cut refl refl) (so_far.goes_on, takes.2.1, takes.2.2, takes.2.3, takes.2.0) (λ e. cc e) (ap text c.refused-in-Partial.ensures) c.last_reply-in-Partial.ensures.reply

pub returns-in-TooLong-clause-conversation : goal.returns-in-TooLong-clause-conversation
returns-in-TooLong-clause-conversation g c = λ s is.
    let inv = c.loop-desk.invariant in
    let so_far = inv.so_far s is in
    let takes = takes_of c.loop-desk.lines c.next.new.self _ _ _ line.TooLong c.in-TooLong.ensures.cut inv.running in
    ends_by_words (record { defs = definitions_of (g.K.Desk.seen c.args.desk.now); limit = g.K.Desk.limit c.args.desk.now; caller = g.K.Desk.caller c.args.desk.now; session = s }) (record { seen = g.K.Desk.seen c.args.desk.now; left = g.S.Source.left c.args.source.now; written = g.W.Sink.written c.args.sink.now; patience = g.P.Patience.state c.args.patience.now }) (record { seen = g.K.Desk.seen c.loop-desk.desk; left = g.S.Source.left c.loop-desk.source; written = g.W.Sink.written c.loop-desk.sink; patience = g.P.Patience.state c.loop-desk.patience }) (record { seen = g.K.Desk.seen c.loop-desk.desk; left = g.S.Source.left c.next.new.source; written = g.W.Sink.written c.last_reply-in-TooLong.new.sink; patience = g.P.Patience.state c.loop-desk.patience }) c.loop-desk.lines.pending _ (IsTrue (g.S.Source.ended c.next.new.source)) end.TooLong c.last_reply-in-TooLong.result (told c.refused-in-TooLong.result) so_far
    (stopped_at (record { seen = g.K.Desk.seen c.loop-desk.desk; left = g.S.Source.left c.loop-desk.source; written = g.W.Sink.written c.loop-desk.sink; patience = g.P.Patience.state c.loop-desk.patience }) (record { seen = g.K.Desk.seen c.loop-desk.desk; left = g.S.Source.left c.next.new.source; written = g.W.Sink.written c.last_reply-in-TooLong.new.sink; patience = g.P.Patience.state c.loop-desk.patience }) c.loop-desk.lines c.next.new.self (IsTrue (g.S.Source.ended c.next.new.source)) line.TooLong inv.running c.in-TooLong.ensures.cut refl refl) (so_far.goes_on, takes.2.0, takes.2.1) (λ e. cc e) (ap text c.refused-in-TooLong.ensures) c.last_reply-in-TooLong.ensures.reply

pub returns-in-Memory-clause-conversation : goal.returns-in-Memory-clause-conversation
returns-in-Memory-clause-conversation g c = λ s is.
    let inv = c.loop-desk.invariant in
    let so_far = inv.so_far s is in
    let takes = takes_of c.loop-desk.lines c.next.new.self _ _ _ line.Memory c.in-Memory.ensures.cut inv.running in
    ends_by_words (record { defs = definitions_of (g.K.Desk.seen c.args.desk.now); limit = g.K.Desk.limit c.args.desk.now; caller = g.K.Desk.caller c.args.desk.now; session = s }) (record { seen = g.K.Desk.seen c.args.desk.now; left = g.S.Source.left c.args.source.now; written = g.W.Sink.written c.args.sink.now; patience = g.P.Patience.state c.args.patience.now }) (record { seen = g.K.Desk.seen c.loop-desk.desk; left = g.S.Source.left c.loop-desk.source; written = g.W.Sink.written c.loop-desk.sink; patience = g.P.Patience.state c.loop-desk.patience }) (record { seen = g.K.Desk.seen c.loop-desk.desk; left = g.S.Source.left c.next.new.source; written = g.W.Sink.written c.last_reply-in-Memory.new.sink; patience = g.P.Patience.state c.loop-desk.patience }) c.loop-desk.lines.pending _ (IsTrue (g.S.Source.ended c.next.new.source)) end.Memory c.last_reply-in-Memory.result (told c.refused-in-Memory.result) so_far
    (stopped_at (record { seen = g.K.Desk.seen c.loop-desk.desk; left = g.S.Source.left c.loop-desk.source; written = g.W.Sink.written c.loop-desk.sink; patience = g.P.Patience.state c.loop-desk.patience }) (record { seen = g.K.Desk.seen c.loop-desk.desk; left = g.S.Source.left c.next.new.source; written = g.W.Sink.written c.last_reply-in-Memory.new.sink; patience = g.P.Patience.state c.loop-desk.patience }) c.loop-desk.lines c.next.new.self (IsTrue (g.S.Source.ended c.next.new.source)) line.Memory inv.running c.in-Memory.ensures.cut refl refl) (so_far.goes_on, takes.2) (λ e. cc e) (ap text c.refused-in-Memory.ensures) c.last_reply-in-Memory.ensures.reply

pub returns-in_default-clause-conversation : goal.returns-in_default-clause-conversation
returns-in_default-clause-conversation g c = λ s is.
    let start = no_line (record { defs = definitions_of (g.K.Desk.seen c.args.desk.now); limit = g.K.Desk.limit c.args.desk.now; caller = g.K.Desk.caller c.args.desk.now; session = s }) (record { seen = g.K.Desk.seen c.args.desk.now; left = g.S.Source.left c.args.source.now; written = g.W.Sink.written c.args.sink.now; patience = g.P.Patience.state c.args.patience.now }) in
    ends_by_words (record { defs = definitions_of (g.K.Desk.seen c.args.desk.now); limit = g.K.Desk.limit c.args.desk.now; caller = g.K.Desk.caller c.args.desk.now; session = s }) (record { seen = g.K.Desk.seen c.args.desk.now; left = g.S.Source.left c.args.source.now; written = g.W.Sink.written c.args.sink.now; patience = g.P.Patience.state c.args.patience.now }) (record { seen = g.K.Desk.seen c.args.desk.now; left = g.S.Source.left c.args.source.now; written = g.W.Sink.written c.args.sink.now; patience = g.P.Patience.state c.args.patience.now }) (record { seen = g.K.Desk.seen c.args.desk.now; left = g.S.Source.left c.args.source.now; written = g.W.Sink.written c.last_reply.new.sink; patience = g.P.Patience.state c.args.patience.now }) [] [] (IsTrue (g.S.Source.ended c.args.source.now)) end.Memory c.last_reply.result (told c.refused.result) start
    (record { taken = []; gave = gave_nothing (g.S.Source.left c.args.source.now); rest_is = refl; seen = refl; patience = refl }) (start.goes_on, (All-nil (λ byte. byte ≢ 10), omega arith)) (λ e. cc e) (ap text c.refused.ensures) c.last_reply.ensures.reply
