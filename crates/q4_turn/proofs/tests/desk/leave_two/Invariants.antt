use Rattle.q4_turn.proofs.tests.desk.leave_two.Given as goal

abbrev pub ghost-leave : goal.ghost-leave
ghost-leave g a = g.es
