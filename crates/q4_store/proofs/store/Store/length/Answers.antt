use Rattle.std.proofs.Common.{refl, arith}
use Rattle.q4_store.proofs.Lengths.{adds_up, store_length}
use Rattle.q4_store.proofs.store.Store.length.Goals as goal

pub returns-clause-content : goal.returns-clause-content
returns-clause-content g c content s = (adds_up g.D.Disk.told _ _ content 0 _ _ c.self.view_is s c.pending_size.ensures refl).0

pub returns-clause-least : goal.returns-clause-least
returns-clause-least g c content s =
    let sum = (adds_up g.D.Disk.told _ _ content 0 _ _ c.self.view_is s c.pending_size.ensures refl).0 in
    let all = store_length g.D.Disk.told _ content s in
    let long = s.long in
    omega (arith, sum, all, long)
