use Rattle.std.proofs.Common.{arith, sym, subst}
use Rattle.q4_store.specs.Store.{StandsFor}
use Rattle.q4_store.proofs.Carrying.{kept_stands}
use Rattle.q4_store.proofs.Lengths.{adds_up}
use Rattle.q4_store.proofs.store.Store.reserve.Goals as goal

pub returns-in-Err-clause-content_fault : goal.returns-in-Err-clause-content_fault
returns-in-Err-clause-content_fault g c content s =
    let sums = adds_up g.D.Disk.told _ _ content c.args.size _ _ c.self.view_is s c.pending_size.ensures c.batch_cost.ensures in
    let full = c.in-Err.ensures.full in
    (omega (arith, full.0, sums.0), omega (arith, full.1, sums.0, sums.1, c.from.ensures))

pub returns-then-is_err-clause-content_fault : goal.returns-then-is_err-clause-content_fault
returns-then-is_err-clause-content_fault g c content s over =
    let sums = adds_up g.D.Disk.told _ _ content c.args.size _ _ c.self.view_is s c.pending_size.ensures c.batch_cost.ensures in
    c.in_default.ensures.has (omega (arith, over, sums.0, sums.1, c.from.ensures))

pub returns-clause-content_room : goal.returns-clause-content_room
returns-clause-content_room g c content s over =
    let sums = adds_up g.D.Disk.told _ _ content c.args.size _ _ c.self.view_is s c.pending_size.ensures c.batch_cost.ensures in
    c.in_default.ensures.has (omega (arith, over, sums.0, sums.1, c.from.ensures))

pub returns-clause-stands : goal.returns-clause-stands
returns-clause-stands g c content s =
    kept_stands g.D.Disk.told _ content c.reserve.new.self.records c.reserve-else-is_err.new.self.items c.if-self-live.self (subst (λ store. StandsFor g.D.Disk.told store content) (sym c.self.view_is) s) c.reserve.ensures.records c.reserve-else-is_err.ensures.items
