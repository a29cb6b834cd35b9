use Rattle.q4_turn.proofs.tests.crowd.counted.Given as goal

abbrev pub ghost-new : goal.ghost-new
ghost-new g a = 0
