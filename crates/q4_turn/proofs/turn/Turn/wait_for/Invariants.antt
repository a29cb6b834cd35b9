use Rattle.std.proofs.Common.{◌≡◌}
use Rattle.q4_turn.specs.Passes.{Waits}
use Rattle.q4_turn.proofs.turn.Turn.wait_for.Given as goal

abbrev pub invariant-loop : goal.invariant-loop
invariant-loop g l =
    record {
      can : (goal.iterator-loop g).can_next l.iterator' × (goal.iterator-loop g).is_finite l.iterator';
      waits : Waits l.self.table.shared.table_id l.ticket l.pass.seat;
      view : l.pass.seat.me.0 ≡ l.initial.pass.seat.me.0;
    }
