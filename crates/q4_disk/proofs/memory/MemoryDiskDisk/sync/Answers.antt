use Rattle.q4_disk.proofs.Counted.{failed_sync}
use Rattle.q4_disk.proofs.Replayed.{synced}
use Rattle.q4_disk.proofs.memory.MemoryDiskDisk.sync.Goals as goal

pub returns-in-Ok-clause-sync : goal.returns-in-Ok-clause-sync
returns-in-Ok-clause-sync c = rw (← c.self.view_is) (synced c.self.inside.history c.sync.new.self c.self.inside.tally c.count_sync.new.self c.args.side c.in-Ok.ensures.done)

pub returns-in-Err-clause-call : goal.returns-in-Err-clause-call
returns-in-Err-clause-call c = rw (← c.self.view_is) (failed_sync _ _ _ _ _ _ _ _ c.count_sync.ensures c.count_refused.ensures.counted c.count_refused.ensures.later)
