use Rattle.q4_disk.proofs.Counted.{failed_call}
use Rattle.q4_disk.proofs.memory.MemoryDiskDisk.cut.Goals as goal

pub returns-in-Err-clause-call : goal.returns-in-Err-clause-call
returns-in-Err-clause-call c = rw (← c.self.view_is) (failed_call _ _ _ _ _ _ _ _ c.count_call.ensures c.count_refused.ensures.counted c.count_refused.ensures.later)
