use Rattle.std.proofs.Common.{◌≡◌, None}
use Rattle.q4_flow.specs.Lines.{fuel}
use Rattle.q4_machine.specs.History.{definitions_of}
use Rattle.q4_machine.specs.Parts.{IsInOrder}
use Rattle.q4_play.specs.Seated.{IsSeated}
use Rattle.q4_play.proofs.Taking.{Taken}
use Rattle.q4_play.proofs.plays.take_lines.Given as goal

-- The desk is in order, the labels' sessions are open, and the lines so far were taken.
abbrev pub invariant-loop-desk : goal.invariant-loop-desk
invariant-loop-desk g l = record {
  in_order : IsInOrder (g.K.Desk.seen l.desk) (g.K.Desk.caller l.desk) (g.K.Desk.current l.desk);
  caller : g.K.Desk.caller l.desk ≡ g.K.Desk.caller l.fn.desk;
  limit : g.K.Desk.limit l.desk ≡ g.K.Desk.limit l.fn.desk;
  defined : definitions_of (g.K.Desk.seen l.desk) ≡ definitions_of (g.K.Desk.seen l.fn.desk);
  seated : IsSeated (g.K.Desk.seen l.desk) (g.K.Desk.caller l.desk) l.seating;
  running : l.lines.stopped ≡ None;
  so_far : Taken
      (record { defs = definitions_of (g.K.Desk.seen l.fn.desk); limit = g.K.Desk.limit l.fn.desk; caller = g.K.Desk.caller l.fn.desk })
      (record { seen = g.K.Desk.seen l.fn.desk; left = g.S.Source.left l.fn.source; written = g.W.Sink.written l.fn.sink; patience = g.P.Patience.state l.fn.patience })
      (record { seen = g.K.Desk.seen l.desk; left = g.S.Source.left l.source; written = g.W.Sink.written l.sink; patience = g.P.Patience.state l.patience })
      l.seating l.lines.pending;
  read_stayed : g.S.Source.faults l.source ≡ g.S.Source.faults l.fn.source;
  stayed : g.W.Sink.faults l.sink ≡ g.W.Sink.faults l.fn.sink;
}

abbrev pub decreases-loop-desk : goal.decreases-loop-desk
decreases-loop-desk g l = fuel (g.S.Source.reads l.source) l.lines.pending
