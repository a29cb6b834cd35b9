use Rattle.std.proofs.Common.{[], ◌∷◌}
use Rattle.q4_turn.proofs.turn.Turn.new.Given as goal

abbrev pub ghosts-new_named : goal.ghosts-new_named
ghosts-new_named g a = record { entries = g.entry ∷ [] }
