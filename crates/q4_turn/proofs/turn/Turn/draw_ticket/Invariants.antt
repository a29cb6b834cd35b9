use Rattle.std.proofs.Common.{◌≡◌}
use Rattle.q4_turn.specs.Passes.{Rests}
use Rattle.q4_turn.proofs.turn.Turn.draw_ticket.Given as goal

abbrev pub invariant-loop : goal.invariant-loop
invariant-loop g l =
    record {
      can : (goal.iterator-loop g).can_next l.iterator' × (goal.iterator-loop g).is_finite l.iterator';
      free : Rests l.self.table.shared.table_id l.pass.seat;
      view : l.pass.seat.me.0 ≡ l.initial.pass.seat.me.0;
    }
