use Rattle.std.proofs.Common.{◌≡◌, take}
use Rattle.q4_machine.specs.History.{definitions_of}
use Rattle.q4_machine.specs.Parts.{IsInOrder, Grows}
use Rattle.q4_play.specs.Plays.{AreClosed}
use Rattle.q4_play.proofs.Placing.{AreLeft}
use Rattle.q4_play.proofs.plays.close_all.Given as goal

-- The sessions of the labels before this place are closed, and those of the others are open.
abbrev pub invariant-loop-place : goal.invariant-loop-place
invariant-loop-place g l = record {
  in_order : IsInOrder (g.K.Desk.seen l.desk) (g.K.Desk.caller l.desk) (g.K.Desk.current l.desk);
  caller : g.K.Desk.caller l.desk ≡ g.K.Desk.caller l.fn.desk;
  limit : g.K.Desk.limit l.desk ≡ g.K.Desk.limit l.fn.desk;
  defined : definitions_of (g.K.Desk.seen l.desk) ≡ definitions_of (g.K.Desk.seen l.fn.desk);
  left : AreLeft (g.K.Desk.seen l.desk) (g.K.Desk.caller l.desk) l.seating l.place;
  closed : Grows (g.K.Desk.seen l.fn.desk) (g.K.Desk.seen l.desk) (λ closing. AreClosed (g.K.Desk.caller l.fn.desk) (take l.place l.seating) closing);
}
