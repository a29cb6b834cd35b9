use Rattle.std.proofs.Common.{arith, sym, subst}
use Rattle.q4_disk.proofs.Pieced.{HasRead, part_room, read_more_at, read_again_at}
use Rattle.q4_disk.proofs.pieces.read_full.Goals as goal
use Rattle.q4_disk.proofs.pieces.read_full.Goals.{in-Ok, in-Err}

pub loop-preserved : goal.loop-preserved
loop-preserved g c =
    let so_far = c.loop.invariant in
    elim c.match-read_piece.branch [
      | in-Ok w ↦ record {
        room = omega (arith, w.done-is, part_room c.loop.done w.in-Ok.count c.loop.into (omega (arith, so_far.room, c.loop.auto.into)) w.in-Ok.ensures.room, c.loop.auto.into);
        read = λ h. subst (HasRead _ _ _ _) (sym w.done-is) (read_more_at _ _ _ c.loop.into c.read_piece.new.into c.loop.done w.in-Ok.count (so_far.read h) (w.in-Ok.ensures.read h) w.in-Ok.ensures.room);
      }
      | in-Err w ↦ record {
        room = omega (arith, w.done-is, so_far.room);
        read = λ h. subst (HasRead _ _ _ _) (sym w.done-is) (read_again_at _ _ _ c.loop.into c.read_piece.new.into c.loop.done (so_far.read h) (w.in-Err.ensures.kept h));
      }
    ]
