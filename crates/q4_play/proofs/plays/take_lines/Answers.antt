use Rattle.std.proofs.Common.{◌≢◌, ◌∙◌, [], List, ℕ, Option, Some, IsTrue, refl, sym, ap, subst, arith}
use Rattle.std.proofs.lemmas.List.Elements.{All-nil}
use Rattle.q4_flow.specs.declared.lines.LineEnd.TheVariants as line
use Rattle.q4_flow.specs.Reading.{Reading}
use Rattle.q4_flow.proofs.Known.{gave_nothing}
use Rattle.q4_machine.specs.History.{definitions_of}
use Rattle.q4_proto.specs.Told.{told, Refused}
use Rattle.q4_proto.specs.Text.{text_behind, code}
use Rattle.q4_session.specs.Sessions.{Around}
use Rattle.q4_play.specs.declared.plays.PlayEnd.TheVariants as ended
use Rattle.q4_play.specs.declared.turns.Turned.TheVariants as turned
use Rattle.q4_play.specs.Seated.{IsSeated}
use Rattle.q4_play.specs.Turns.{Host}
use Rattle.q4_play.proofs.Placing.{seated_nobody}
use Rattle.q4_play.proofs.Speaking.{text_some}
use Rattle.q4_play.proofs.Causing.{stays_at_next, stays_at_line}
use Rattle.q4_play.proofs.Taking.{Taken, scene, no_line, takes_of, found_line, one_more, stops_at, stopped_at, ends_silently, ends_by_words, turns_as}
use Rattle.q4_play.proofs.plays.take_lines.Goals as goal

pub loop-desk-init : goal.loop-desk-init
loop-desk-init g c = record {
  in_order = c.requires.in_order;
  caller = refl;
  limit = refl;
  defined = refl;
  seated = subst (IsSeated (g.K.Desk.seen c.args.desk.now) (g.K.Desk.caller c.args.desk.now)) (sym c.requires.nobody) (seated_nobody (g.K.Desk.seen c.args.desk.now) (g.K.Desk.caller c.args.desk.now));
  running = ap (λ (r : Reading). r.stopped) c.in-Ok.ensures;
  so_far =
      let host : Host = (record { defs = definitions_of (g.K.Desk.seen c.args.desk.now); limit = g.K.Desk.limit c.args.desk.now; caller = g.K.Desk.caller c.args.desk.now }) in
      let old : Around = (record { seen = g.K.Desk.seen c.args.desk.now; left = g.S.Source.left c.args.source.now; written = g.W.Sink.written c.args.sink.now; patience = g.P.Patience.state c.args.patience.now }) in
      subst (λ (pending : List ℕ). Taken host old old c.args.seating.now pending) (sym (ap (λ (r : Reading). r.pending) c.in-Ok.ensures))
      (subst (λ (seating : List (Option ℕ)). Taken host old old seating []) (sym c.requires.nobody) (no_line host old));
  read_stayed = refl;
  stayed = refl;
}

pub loop-desk-preserved : goal.loop-desk-preserved
loop-desk-preserved g c =
    let inv = c.loop-desk.invariant in
    record {
      in_order = c.turn.ensures.in_order;
      caller = c.turn.ensures.same.0 ∙ inv.caller;
      limit = c.turn.ensures.same.1 ∙ inv.limit;
      defined = c.turn.ensures.defined ∙ inv.defined;
      seated = c.turn.ensures.seated;
      running = c.in-Line.ensures.going refl;
      so_far = one_more (record { defs = definitions_of (g.K.Desk.seen c.args.desk.now); limit = g.K.Desk.limit c.args.desk.now; caller = g.K.Desk.caller c.args.desk.now }) (record { seen = g.K.Desk.seen c.args.desk.now; left = g.S.Source.left c.args.source.now; written = g.W.Sink.written c.args.sink.now; patience = g.P.Patience.state c.args.patience.now }) (record { seen = g.K.Desk.seen c.loop-desk.desk; left = g.S.Source.left c.loop-desk.source; written = g.W.Sink.written c.loop-desk.sink; patience = g.P.Patience.state c.loop-desk.patience }) (record { seen = g.K.Desk.seen c.turn.new.desk; left = g.S.Source.left c.next.new.source; written = g.W.Sink.written c.turn.new.sink; patience = g.P.Patience.state c.turn.new.patience })
          c.loop-desk.seating c.turn.new.seating c.loop-desk.lines.pending c.next.new.self.pending c.line.result.now inv.so_far (found_line (record { seen = g.K.Desk.seen c.loop-desk.desk; left = g.S.Source.left c.loop-desk.source; written = g.W.Sink.written c.loop-desk.sink; patience = g.P.Patience.state c.loop-desk.patience }) (record { seen = g.K.Desk.seen c.turn.new.desk; left = g.S.Source.left c.next.new.source; written = g.W.Sink.written c.turn.new.sink; patience = g.P.Patience.state c.turn.new.patience }) c.loop-desk.lines c.next.new.self (IsTrue (g.S.Source.ended c.next.new.source)) c.line.result.now inv.running c.in-Line.ensures.cut c.line.ensures)
          (turns_as _ _ _ _ _ _ (scene (record { seen = g.K.Desk.seen c.loop-desk.desk; left = g.S.Source.left c.loop-desk.source; written = g.W.Sink.written c.loop-desk.sink; patience = g.P.Patience.state c.loop-desk.patience }) c.loop-desk.seating) (scene (record { seen = g.K.Desk.seen c.turn.new.desk; left = g.S.Source.left c.next.new.source; written = g.W.Sink.written c.turn.new.sink; patience = g.P.Patience.state c.turn.new.patience }) c.turn.new.seating) c.line.result.now turned.Next inv.defined inv.limit inv.caller c.in-Next.ensures.turns);
      read_stayed = stays_at_line _ _ c.in-Line.ensures.stayed ∙ inv.read_stayed;
      stayed = stays_at_next _ _ c.in-Next.ensures.cause ∙ inv.stayed;
    }

pub returns-in-Stops-clause-lined : goal.returns-in-Stops-clause-lined
returns-in-Stops-clause-lined g c =
    let inv = c.loop-desk.invariant in
    stops_at (record { defs = definitions_of (g.K.Desk.seen c.args.desk.now); limit = g.K.Desk.limit c.args.desk.now; caller = g.K.Desk.caller c.args.desk.now }) (record { seen = g.K.Desk.seen c.args.desk.now; left = g.S.Source.left c.args.source.now; written = g.W.Sink.written c.args.sink.now; patience = g.P.Patience.state c.args.patience.now }) (record { seen = g.K.Desk.seen c.loop-desk.desk; left = g.S.Source.left c.loop-desk.source; written = g.W.Sink.written c.loop-desk.sink; patience = g.P.Patience.state c.loop-desk.patience }) (record { seen = g.K.Desk.seen c.turn.new.desk; left = g.S.Source.left c.next.new.source; written = g.W.Sink.written c.turn.new.sink; patience = g.P.Patience.state c.turn.new.patience })
    c.loop-desk.seating c.turn.new.seating c.loop-desk.lines.pending c.next.new.self.pending c.line.result.now (IsTrue (g.S.Source.ended c.next.new.source)) c.in-Stops.end inv.so_far (found_line (record { seen = g.K.Desk.seen c.loop-desk.desk; left = g.S.Source.left c.loop-desk.source; written = g.W.Sink.written c.loop-desk.sink; patience = g.P.Patience.state c.loop-desk.patience }) (record { seen = g.K.Desk.seen c.turn.new.desk; left = g.S.Source.left c.next.new.source; written = g.W.Sink.written c.turn.new.sink; patience = g.P.Patience.state c.turn.new.patience }) c.loop-desk.lines c.next.new.self (IsTrue (g.S.Source.ended c.next.new.source)) c.line.result.now inv.running c.in-Line.ensures.cut c.line.ensures)
    (turns_as _ _ _ _ _ _ (scene (record { seen = g.K.Desk.seen c.loop-desk.desk; left = g.S.Source.left c.loop-desk.source; written = g.W.Sink.written c.loop-desk.sink; patience = g.P.Patience.state c.loop-desk.patience }) c.loop-desk.seating) (scene (record { seen = g.K.Desk.seen c.turn.new.desk; left = g.S.Source.left c.next.new.source; written = g.W.Sink.written c.turn.new.sink; patience = g.P.Patience.state c.turn.new.patience }) c.turn.new.seating) c.line.result.now (turned.Stops c.in-Stops.end) inv.defined inv.limit inv.caller c.in-Stops.ensures.turns)

pub returns-in-End-clause-lined : goal.returns-in-End-clause-lined
returns-in-End-clause-lined g c =
    let inv = c.loop-desk.invariant in
    let takes = takes_of c.loop-desk.lines c.next.new.self _ _ _ line.End c.in-End.ensures.cut inv.running in
    ends_silently (record { defs = definitions_of (g.K.Desk.seen c.args.desk.now); limit = g.K.Desk.limit c.args.desk.now; caller = g.K.Desk.caller c.args.desk.now }) (record { seen = g.K.Desk.seen c.args.desk.now; left = g.S.Source.left c.args.source.now; written = g.W.Sink.written c.args.sink.now; patience = g.P.Patience.state c.args.patience.now }) (record { seen = g.K.Desk.seen c.loop-desk.desk; left = g.S.Source.left c.loop-desk.source; written = g.W.Sink.written c.loop-desk.sink; patience = g.P.Patience.state c.loop-desk.patience }) (record { seen = g.K.Desk.seen c.loop-desk.desk; left = g.S.Source.left c.next.new.source; written = g.W.Sink.written c.loop-desk.sink; patience = g.P.Patience.state c.loop-desk.patience })
    c.loop-desk.seating c.loop-desk.lines.pending _ (IsTrue (g.S.Source.ended c.next.new.source)) ended.Ended inv.so_far
    (stopped_at (record { seen = g.K.Desk.seen c.loop-desk.desk; left = g.S.Source.left c.loop-desk.source; written = g.W.Sink.written c.loop-desk.sink; patience = g.P.Patience.state c.loop-desk.patience }) (record { seen = g.K.Desk.seen c.loop-desk.desk; left = g.S.Source.left c.next.new.source; written = g.W.Sink.written c.loop-desk.sink; patience = g.P.Patience.state c.loop-desk.patience }) c.loop-desk.lines c.next.new.self (IsTrue (g.S.Source.ended c.next.new.source)) line.End inv.running c.in-End.ensures.cut refl refl) (takes.2.1, takes.2.0) refl refl

pub returns-in-ReadFault-clause-lined : goal.returns-in-ReadFault-clause-lined
returns-in-ReadFault-clause-lined g c =
    let inv = c.loop-desk.invariant in
    let takes = takes_of c.loop-desk.lines c.next.new.self _ _ _ line.ReadFault c.in-ReadFault.ensures.cut inv.running in
    ends_silently (record { defs = definitions_of (g.K.Desk.seen c.args.desk.now); limit = g.K.Desk.limit c.args.desk.now; caller = g.K.Desk.caller c.args.desk.now }) (record { seen = g.K.Desk.seen c.args.desk.now; left = g.S.Source.left c.args.source.now; written = g.W.Sink.written c.args.sink.now; patience = g.P.Patience.state c.args.patience.now }) (record { seen = g.K.Desk.seen c.loop-desk.desk; left = g.S.Source.left c.loop-desk.source; written = g.W.Sink.written c.loop-desk.sink; patience = g.P.Patience.state c.loop-desk.patience }) (record { seen = g.K.Desk.seen c.loop-desk.desk; left = g.S.Source.left c.next.new.source; written = g.W.Sink.written c.loop-desk.sink; patience = g.P.Patience.state c.loop-desk.patience })
    c.loop-desk.seating c.loop-desk.lines.pending _ (IsTrue (g.S.Source.ended c.next.new.source)) ended.ReadFault inv.so_far
    (stopped_at (record { seen = g.K.Desk.seen c.loop-desk.desk; left = g.S.Source.left c.loop-desk.source; written = g.W.Sink.written c.loop-desk.sink; patience = g.P.Patience.state c.loop-desk.patience }) (record { seen = g.K.Desk.seen c.loop-desk.desk; left = g.S.Source.left c.next.new.source; written = g.W.Sink.written c.loop-desk.sink; patience = g.P.Patience.state c.loop-desk.patience }) c.loop-desk.lines c.next.new.self (IsTrue (g.S.Source.ended c.next.new.source)) line.ReadFault inv.running c.in-ReadFault.ensures.cut refl refl) takes.2 refl refl

pub returns-in-Partial-clause-lined : goal.returns-in-Partial-clause-lined
returns-in-Partial-clause-lined g c =
    let inv = c.loop-desk.invariant in
    let takes = takes_of c.loop-desk.lines c.next.new.self _ _ _ (line.Partial c.in-Partial.count) c.in-Partial.ensures.cut inv.running in
    ends_by_words (record { defs = definitions_of (g.K.Desk.seen c.args.desk.now); limit = g.K.Desk.limit c.args.desk.now; caller = g.K.Desk.caller c.args.desk.now }) (record { seen = g.K.Desk.seen c.args.desk.now; left = g.S.Source.left c.args.source.now; written = g.W.Sink.written c.args.sink.now; patience = g.P.Patience.state c.args.patience.now }) (record { seen = g.K.Desk.seen c.loop-desk.desk; left = g.S.Source.left c.loop-desk.source; written = g.W.Sink.written c.loop-desk.sink; patience = g.P.Patience.state c.loop-desk.patience }) (record { seen = g.K.Desk.seen c.loop-desk.desk; left = g.S.Source.left c.next.new.source; written = g.W.Sink.written c.last_reply-in-Partial.new.sink; patience = g.P.Patience.state c.loop-desk.patience })
    c.loop-desk.seating c.loop-desk.lines.pending _ (text_behind (Some 0) (told c.refused-in-Partial.result)) (IsTrue (g.S.Source.ended c.next.new.source)) (ended.Partial c.in-Partial.count) c.last_reply-in-Partial.result inv.so_far
    (stopped_at (record { seen = g.K.Desk.seen c.loop-desk.desk; left = g.S.Source.left c.loop-desk.source; written = g.W.Sink.written c.loop-desk.sink; patience = g.P.Patience.state c.loop-desk.patience }) (record { seen = g.K.Desk.seen c.loop-desk.desk; left = g.S.Source.left c.next.new.source; written = g.W.Sink.written c.last_reply-in-Partial.new.sink; patience = g.P.Patience.state c.loop-desk.patience }) c.loop-desk.lines c.next.new.self (IsTrue (g.S.Source.ended c.next.new.source)) (line.Partial c.in-Partial.count) inv.running c.in-Partial.ensures.cut refl refl) (takes.2.1, takes.2.2, takes.2.3, takes.2.0) (text_some 0 (Refused (code 61))) (ap (text_behind (Some 0)) c.refused-in-Partial.ensures) c.last_reply-in-Partial.ensures.says

pub returns-in-TooLong-clause-lined : goal.returns-in-TooLong-clause-lined
returns-in-TooLong-clause-lined g c =
    let inv = c.loop-desk.invariant in
    let takes = takes_of c.loop-desk.lines c.next.new.self _ _ _ line.TooLong c.in-TooLong.ensures.cut inv.running in
    ends_by_words (record { defs = definitions_of (g.K.Desk.seen c.args.desk.now); limit = g.K.Desk.limit c.args.desk.now; caller = g.K.Desk.caller c.args.desk.now }) (record { seen = g.K.Desk.seen c.args.desk.now; left = g.S.Source.left c.args.source.now; written = g.W.Sink.written c.args.sink.now; patience = g.P.Patience.state c.args.patience.now }) (record { seen = g.K.Desk.seen c.loop-desk.desk; left = g.S.Source.left c.loop-desk.source; written = g.W.Sink.written c.loop-desk.sink; patience = g.P.Patience.state c.loop-desk.patience }) (record { seen = g.K.Desk.seen c.loop-desk.desk; left = g.S.Source.left c.next.new.source; written = g.W.Sink.written c.last_reply-in-TooLong.new.sink; patience = g.P.Patience.state c.loop-desk.patience })
    c.loop-desk.seating c.loop-desk.lines.pending _ (text_behind (Some 0) (told c.refused-in-TooLong.result)) (IsTrue (g.S.Source.ended c.next.new.source)) ended.TooLong c.last_reply-in-TooLong.result inv.so_far
    (stopped_at (record { seen = g.K.Desk.seen c.loop-desk.desk; left = g.S.Source.left c.loop-desk.source; written = g.W.Sink.written c.loop-desk.sink; patience = g.P.Patience.state c.loop-desk.patience }) (record { seen = g.K.Desk.seen c.loop-desk.desk; left = g.S.Source.left c.next.new.source; written = g.W.Sink.written c.last_reply-in-TooLong.new.sink; patience = g.P.Patience.state c.loop-desk.patience }) c.loop-desk.lines c.next.new.self (IsTrue (g.S.Source.ended c.next.new.source)) line.TooLong inv.running c.in-TooLong.ensures.cut refl refl) (takes.2.0, takes.2.1) (text_some 0 (Refused (code 60))) (ap (text_behind (Some 0)) c.refused-in-TooLong.ensures) c.last_reply-in-TooLong.ensures.says

pub returns-in-Memory-clause-lined : goal.returns-in-Memory-clause-lined
returns-in-Memory-clause-lined g c =
    let inv = c.loop-desk.invariant in
    let takes = takes_of c.loop-desk.lines c.next.new.self _ _ _ line.Memory c.in-Memory.ensures.cut inv.running in
    ends_by_words (record { defs = definitions_of (g.K.Desk.seen c.args.desk.now); limit = g.K.Desk.limit c.args.desk.now; caller = g.K.Desk.caller c.args.desk.now }) (record { seen = g.K.Desk.seen c.args.desk.now; left = g.S.Source.left c.args.source.now; written = g.W.Sink.written c.args.sink.now; patience = g.P.Patience.state c.args.patience.now }) (record { seen = g.K.Desk.seen c.loop-desk.desk; left = g.S.Source.left c.loop-desk.source; written = g.W.Sink.written c.loop-desk.sink; patience = g.P.Patience.state c.loop-desk.patience }) (record { seen = g.K.Desk.seen c.loop-desk.desk; left = g.S.Source.left c.next.new.source; written = g.W.Sink.written c.last_reply-in-Memory.new.sink; patience = g.P.Patience.state c.loop-desk.patience })
    c.loop-desk.seating c.loop-desk.lines.pending _ (text_behind (Some 0) (told c.refused-in-Memory.result)) (IsTrue (g.S.Source.ended c.next.new.source)) ended.Memory c.last_reply-in-Memory.result inv.so_far
    (stopped_at (record { seen = g.K.Desk.seen c.loop-desk.desk; left = g.S.Source.left c.loop-desk.source; written = g.W.Sink.written c.loop-desk.sink; patience = g.P.Patience.state c.loop-desk.patience }) (record { seen = g.K.Desk.seen c.loop-desk.desk; left = g.S.Source.left c.next.new.source; written = g.W.Sink.written c.last_reply-in-Memory.new.sink; patience = g.P.Patience.state c.loop-desk.patience }) c.loop-desk.lines c.next.new.self (IsTrue (g.S.Source.ended c.next.new.source)) line.Memory inv.running c.in-Memory.ensures.cut refl refl) takes.2 (text_some 0 (Refused (code 90))) (ap (text_behind (Some 0)) c.refused-in-Memory.ensures) c.last_reply-in-Memory.ensures.says

pub returns-in_default-clause-lined : goal.returns-in_default-clause-lined
returns-in_default-clause-lined g c =
    ends_by_words (record { defs = definitions_of (g.K.Desk.seen c.args.desk.now); limit = g.K.Desk.limit c.args.desk.now; caller = g.K.Desk.caller c.args.desk.now }) (record { seen = g.K.Desk.seen c.args.desk.now; left = g.S.Source.left c.args.source.now; written = g.W.Sink.written c.args.sink.now; patience = g.P.Patience.state c.args.patience.now }) (record { seen = g.K.Desk.seen c.args.desk.now; left = g.S.Source.left c.args.source.now; written = g.W.Sink.written c.args.sink.now; patience = g.P.Patience.state c.args.patience.now }) (record { seen = g.K.Desk.seen c.args.desk.now; left = g.S.Source.left c.args.source.now; written = g.W.Sink.written c.last_reply.new.sink; patience = g.P.Patience.state c.args.patience.now })
    c.args.seating.now [] [] (text_behind (Some 0) (told c.refused.result)) (IsTrue (g.S.Source.ended c.args.source.now)) ended.Memory c.last_reply.result
    (subst (λ (seating : List (Option ℕ)). Taken (record { defs = definitions_of (g.K.Desk.seen c.args.desk.now); limit = g.K.Desk.limit c.args.desk.now; caller = g.K.Desk.caller c.args.desk.now }) (record { seen = g.K.Desk.seen c.args.desk.now; left = g.S.Source.left c.args.source.now; written = g.W.Sink.written c.args.sink.now; patience = g.P.Patience.state c.args.patience.now }) (record { seen = g.K.Desk.seen c.args.desk.now; left = g.S.Source.left c.args.source.now; written = g.W.Sink.written c.args.sink.now; patience = g.P.Patience.state c.args.patience.now }) seating []) (sym c.requires.nobody) (no_line (record { defs = definitions_of (g.K.Desk.seen c.args.desk.now); limit = g.K.Desk.limit c.args.desk.now; caller = g.K.Desk.caller c.args.desk.now }) (record { seen = g.K.Desk.seen c.args.desk.now; left = g.S.Source.left c.args.source.now; written = g.W.Sink.written c.args.sink.now; patience = g.P.Patience.state c.args.patience.now })))
    (record { taken = []; gave = gave_nothing (g.S.Source.left c.args.source.now); rest_is = refl; seen = refl; patience = refl }) (All-nil (λ byte. byte ≢ 10), omega arith) (text_some 0 (Refused (code 90))) (ap (text_behind (Some 0)) c.refused.ensures) c.last_reply.ensures.says

pub returns-in_default-clause-seated : goal.returns-in_default-clause-seated
returns-in_default-clause-seated g c = subst (IsSeated (g.K.Desk.seen c.args.desk.now) (g.K.Desk.caller c.args.desk.now)) (sym c.requires.nobody) (seated_nobody (g.K.Desk.seen c.args.desk.now) (g.K.Desk.caller c.args.desk.now))
