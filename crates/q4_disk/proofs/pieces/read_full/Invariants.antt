use Rattle.std.proofs.Common.{◌≤◌, length, IsTrue}
use Rattle.q4_disk.proofs.Pieced.{HasRead}
use Rattle.q4_disk.proofs.pieces.read_full.Given as goal

abbrev pub invariant-loop : goal.invariant-loop
invariant-loop g l = record {
  room : l.done ≤ length l.initial.into;
  read : IsTrue g.F.Pieces.tells → HasRead (g.F.Pieces.holds l.file).bytes l.at l.initial.into l.into l.done;
}
