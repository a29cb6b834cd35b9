use Rattle.q4_cond.proofs.Taking.{open_deep}
use Rattle.std.proofs.Common.{◌≤◌, arith}
use Rattle.q4_cond.specs.Machine.{open_count}
use Rattle.q4_cond.proofs.reader.Reader.open.Goals as goal

pub returns-then-open_count-ge-DEPTH : goal.returns-then-open_count-ge-DEPTH
returns-then-open_count-ge-DEPTH c = let many : 32 ≤ open_count c.args.self.now.frames = omega arith in open_deep c.args.frame c.args.self.now.frames c.args.self.now.nodes.items many
