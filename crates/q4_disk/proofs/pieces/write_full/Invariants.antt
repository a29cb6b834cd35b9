use Rattle.std.proofs.Common.{◌≡◌, ◌≤◌, length, take, IsTrue}
use Rattle.q4_disk.specs.Pieces.{file_after_write}
use Rattle.q4_disk.proofs.pieces.write_full.Given as goal

abbrev pub invariant-loop : goal.invariant-loop
invariant-loop g l = record {
  room : l.done ≤ length l.new;
  wrote : IsTrue g.F.Pieces.tells → g.F.Pieces.holds l.file ≡ file_after_write (g.F.Pieces.holds l.initial.file) l.at (take l.done l.new);
}
