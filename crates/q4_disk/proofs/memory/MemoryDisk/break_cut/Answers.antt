use Rattle.std.proofs.Common.{refl}
use Rattle.q4_disk.proofs.Replayed.{no_cut}
use Rattle.q4_disk.proofs.memory.MemoryDisk.break_cut.Goals as goal

pub returns-in-Err-clause-cut : goal.returns-in-Err-clause-cut
returns-in-Err-clause-cut c = rw (← c.self.view_is) (no_cut _ c.self.inside.history c.begin_cut.new.self c.self.inside.tally c.count_refused.new.self c.args.side c.args.length refl c.in-Err.ensures.kept)
