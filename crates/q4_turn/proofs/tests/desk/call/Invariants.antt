use Rattle.std.proofs.Common.{[], ◌∷◌}
use Rattle.q4_turn.proofs.tests.desk.call.Given as goal

abbrev pub ghost-leave_one : goal.ghost-leave_one
ghost-leave_one g a = g.V.Office.entry a.pass.now.seat.me.0.number a._x a._reply ∷ []

abbrev pub ghost-leave : goal.ghost-leave
ghost-leave g a = []
