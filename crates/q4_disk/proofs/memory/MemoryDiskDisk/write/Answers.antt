use Rattle.std.proofs.Common.{◌≤◌, length, sym, subst}
use Rattle.q4_disk.specs.Images.{on}
use Rattle.q4_disk.specs.Memory.{Memory}
use Rattle.q4_disk.specs.Replay.{read_after}
use Rattle.q4_disk.proofs.Counted.{failed_write}
use Rattle.q4_disk.proofs.Replayed.{wrote}
use Rattle.q4_disk.proofs.memory.MemoryDiskDisk.write.Goals as goal

pub returns-in-Ok-clause-write : goal.returns-in-Ok-clause-write
returns-in-Ok-clause-write c =
    let within = subst (λ (m : Memory). c.args.at ≤ length (on c.args.side (read_after m.steps))) (sym c.self.view_is) c.requires in
    rw (← c.self.view_is) (wrote c.self.inside.history c.write.new.self c.self.inside.tally c.count_write.new.self c.args.side c.args.at c.args.bytes.now within c.in-Ok.ensures.done)

pub returns-in-Err-clause-call : goal.returns-in-Err-clause-call
returns-in-Err-clause-call c = rw (← c.self.view_is) (failed_write _ _ _ _ _ _ _ _ _ _ c.count_write.ensures c.count_refused.ensures.counted c.count_refused.ensures.later)
