use Rattle.q4_turn.proofs.tests.desk.add_by_two.Given as goal

abbrev pub ghost-new : goal.ghost-new
ghost-new g a = (0, 0, 0)
