use Rattle.q4_record.proofs.WrittenSides.{written_side}
use Rattle.q4_record.proofs.laws.written_sides_are_read.Goals as goal

pub returns : goal.returns
returns c = written_side
