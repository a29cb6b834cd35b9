use Rattle.q4_disk.proofs.Picks.{pair_image}
use Rattle.q4_disk.proofs.stop.StopDisk.image.Goals as goal

pub returns-clause-allowed : goal.returns-clause-allowed
returns-clause-allowed c there = pair_image c.args.side c.args.pick there c.args.self.now.memory.steps
