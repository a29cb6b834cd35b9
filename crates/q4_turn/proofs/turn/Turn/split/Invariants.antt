use Rattle.q4_turn.proofs.turn.Turn.split.Given as goal

abbrev pub ghosts-split_named : goal.ghosts-split_named
ghosts-split_named g a = record { parts = a.parts }
