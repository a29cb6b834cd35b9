use Rattle.std.proofs.Common.{arith}
use Rattle.std.proofs.lemmas.List.{get_or_default}
use Rattle.std.proofs.lemmas.List.Edits.{map_over_more}
use Rattle.q4_table.specs.Cursors.{lowered_to}
use Rattle.q4_table.proofs.cursors.Cursors.lower.Goals as goal

pub loop-watched-preserved : goal.loop-watched-preserved
loop-watched-preserved c =
    rw c.lower.ensures (map_over_more (lowered_to c.args.number) _ c.loop-watched.watched-items c.loop-watched.watched-index _ (omega arith) c.loop-watched.invariant (get_or_default c.loop-watched.watched-items c.loop-watched.watched-index _ _ (omega arith)))
