use Rattle.q4_turn.proofs.turn.Turn.leave.Given as goal

abbrev pub ghosts-leave_named : goal.ghosts-leave_named
ghosts-leave_named g a = record { entries = g.es }
