use Rattle.std.proofs.Common.{[], ◌∷◌}
use Rattle.q4_turn.proofs.tests.desk.call_twice.Given as goal

abbrev pub ghost-leave_two : goal.ghost-leave_two
ghost-leave_two g a = g.V.Office.entry a.pass.now.seat.me.0.number a._x a._replies.0 ∷ g.V.Office.entry a.pass.now.seat.me.0.number a._x a._replies.1 ∷ []

abbrev pub ghost-leave : goal.ghost-leave
ghost-leave g a = []
