use Rattle.std.proofs.Common.{◌≤◌}
use Rattle.q4_turn.specs.Turns.{view, IsFree}
use Rattle.q4_turn.specs.Counted.{Grew}
use Rattle.q4_turn.proofs.tests.counter.work.Given as goal

abbrev pub invariant-loop-i : goal.invariant-loop-i
invariant-loop-i g l =
    record {
      free : IsFree l.turn l.pass;
      grew : Grew (view l.initial.pass) l.added (view l.pass);
      few : l.added ≤ l.i;
    }
