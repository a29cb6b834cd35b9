use Rattle.q4_turn.proofs.tests.device.leave_line.Given as goal

abbrev pub ghost-leave : goal.ghost-leave
ghost-leave g a = g.es
