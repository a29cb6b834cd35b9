use Rattle.std.proofs.Common.{replicate, refl}
use Rattle.q4_disk.specs.Images.{on}
use Rattle.q4_store.proofs.FirstBytes.{read_front, head_whole}
use Rattle.q4_store.proofs.head.read_head.Goals as goal

pub returns-clause-head : goal.returns-clause-head
returns-clause-head g c h =
    let read = c.in_ok-count.ensures.read h in
    head_whole (on c.args.side (g.D.Disk.told c.args.disk.now).bytes) _ c.head_of.result (read_front _ (replicate 21 0) c.read.new.into c.in_ok-count.count 21 refl read.count read.into) c.head_of.ensures
