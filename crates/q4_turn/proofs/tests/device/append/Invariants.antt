use Rattle.std.proofs.Common.{[], ◌∷◌}
use Rattle.q4_turn.proofs.tests.device.append.Given as goal

abbrev pub ghost-leave_line : goal.ghost-leave_line
ghost-leave_line g a = record { caller = a.pass.now.seat.me.0.number; what = a._what } ∷ []

abbrev pub ghost-leave : goal.ghost-leave
ghost-leave g a = []
