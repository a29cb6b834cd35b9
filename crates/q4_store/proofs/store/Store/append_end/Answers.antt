use Rattle.std.proofs.Common.{◌+◌, ◌-◌, sym, subst}
use Rattle.q4_store.specs.Content.{row_ended, table_of, with_change}
use Rattle.q4_store.specs.Store.{Stored, StandsFor, IsLongerBy, end_extra}
use Rattle.q4_store.proofs.Appending.{end_appended}
use Rattle.q4_store.proofs.Excess.{row_ended_longer}
use Rattle.q4_store.proofs.store.Store.append_end.Goals as goal

pub returns-clause-stands : goal.returns-clause-stands
returns-clause-stands g c content s there =
    end_appended g.D.Disk.told _ content c.args.number c.put_end.new.self.records c.put_waiting.new.ends.items c.self.inside.reserved (subst (λ store. StandsFor g.D.Disk.told store content) (sym c.self.view_is) s) there c.put_end.ensures.records c.put_waiting.ensures.items

pub returns-clause-copy : goal.returns-clause-copy
returns-clause-copy g c content row extra s there longer =
    let told = g.D.Disk.told in
    subst (λ (store : Stored g.row.D.Denot). IsLongerBy (record { disk = c.self.inside.disk; columns = c.self.inside.columns; side = c.self.inside.side; end = c.self.inside.end; generation = c.self.inside.generation; records = c.put_end.new.self.records; rows = c.self.inside.rows - 1; reserved = c.self.inside.reserved; known = c.self.inside.known; failed = c.self.inside.failed; copy = c.self.inside.copy; ends = c.put_waiting.new.ends.items }) (table_of (with_change content (row_ended c.args.number))) (extra + end_extra store.copy store.columns c.args.number row)) c.self.view_is
    (row_ended_longer told _ content c.args.number row c.put_end.new.self.records c.put_waiting.new.ends.items (c.self.inside.rows - 1) c.self.inside.reserved extra (subst (λ store. StandsFor told store content) (sym c.self.view_is) s) there c.put_waiting.ensures.items
    (subst (λ (store : Stored g.row.D.Denot). IsLongerBy store (table_of content) extra) (sym c.self.view_is) longer))
