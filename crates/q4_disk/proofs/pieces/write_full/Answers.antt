use Rattle.std.proofs.Common.{ℕ, ◌∙◌, arith, take, sym, ap}
use Rattle.q4_disk.specs.Pieces.{file_after_write}
use Rattle.q4_disk.proofs.Pieced.{part_room, file_piece_at}
use Rattle.q4_disk.proofs.pieces.write_full.Goals as goal
use Rattle.q4_disk.proofs.pieces.write_full.Goals.{in-Ok, in-Err}

pub loop-preserved : goal.loop-preserved
loop-preserved g c =
    let so_far = c.loop.invariant in
    let before = g.F.Pieces.holds c.args.file.now in
    elim c.match-write_piece.branch [
      | in-Ok w ↦ record {
        room = omega (arith, w.done-is, part_room c.loop.done w.in-Ok.count c.args.new.now so_far.room w.in-Ok.ensures.room);
        wrote = λ h. file_piece_at before c.args.at c.args.new.now c.loop.done w.in-Ok.count _ _ (c.requires h) so_far.room (so_far.wrote h) (w.in-Ok.ensures.wrote h)
            ∙ ap (λ (k : ℕ). file_after_write before c.args.at (take k c.args.new.now)) (sym w.done-is);
      }
      | in-Err w ↦ record {
        room = omega (arith, w.done-is, so_far.room);
        wrote = λ h. w.in-Err.ensures.kept h ∙ so_far.wrote h ∙ ap (λ (k : ℕ). file_after_write before c.args.at (take k c.args.new.now)) (sym w.done-is);
      }
    ]
