use Rattle.std.proofs.Common.{◌<◌, ◌^◌, IsTrue, false, Some, refl, sym, ◌∙◌, ap, subst}
use Rattle.q4_disk.specs.Images.{on, other, Within}
use Rattle.q4_disk.specs.Time.{LeavesOnly, OtherStays}
use Rattle.q4_store.specs.Parts.{IsReady, IsBlank}
use Rattle.q4_store.specs.Content.{table_of, IsPrefix}
use Rattle.q4_store.specs.Device.{BrokeOff, close_calls}
use Rattle.q4_store.specs.Store.{Stored, StandsFor}
use Rattle.q4_store.proofs.CopyStands.{prefix_moments, stands_beside, begun_stands, none_copied}
use Rattle.q4_store.proofs.Excess.{begun_longer}
use Rattle.q4_store.proofs.store.Store.compact_begin.Goals as goal

pub returns-in-Ok-clause-any_moment : goal.returns-in-Ok-clause-any_moment
returns-in-Ok-clause-any_moment g c content s h =
    subst (λ (store : Stored g.row.D.Denot). IsTrue (g.D.Disk.told store.disk).honest → LeavesOnly (g.D.Disk.told store.disk) (g.D.Disk.told c.prepare.new.disk) (IsPrefix content store.generation)) c.self.view_is
    (λ honest. prefix_moments g.D.Disk.told _ content (subst (λ store. StandsFor g.D.Disk.told store content) (sym c.self.view_is) s) (ap (λ (store : Stored g.row.D.Denot). store.failed) c.self.view_is ∙ c.requires.whole) c.prepare.new.disk c.prepare.ensures.honest honest (c.prepare.ensures.any_moment content.committed.columns honest)) h

pub returns-in-Err-clause-any_moment : goal.returns-in-Err-clause-any_moment
returns-in-Err-clause-any_moment g c content s h =
    subst (λ (store : Stored g.row.D.Denot). IsTrue (g.D.Disk.told store.disk).honest → LeavesOnly (g.D.Disk.told store.disk) (g.D.Disk.told c.prepare.new.disk) (IsPrefix content store.generation)) c.self.view_is
    (λ honest. prefix_moments g.D.Disk.told _ content (subst (λ store. StandsFor g.D.Disk.told store content) (sym c.self.view_is) s) (ap (λ (store : Stored g.row.D.Denot). store.failed) c.self.view_is ∙ c.requires.whole) c.prepare.new.disk c.prepare.ensures.honest honest (c.prepare.ensures.any_moment content.committed.columns honest)) h

pub returns-in-Ok-clause-stands : goal.returns-in-Ok-clause-stands
returns-in-Ok-clause-stands g c content s =
    let told = g.D.Disk.told in
    let here = subst (λ store. StandsFor told store content) (sym c.self.view_is) s in
    let whole = ap (λ (store : Stored g.row.D.Denot). store.failed) c.self.view_is ∙ c.requires.whole in
    let new = c.prepare.new.disk in
    stands_beside told _ content here whole new c.prepare.ensures.honest c.prepare.new.known (Some (record { cursor = 1; at = 21 })) c.truncate.new.self.items (g.met.D.Disk.reads_image new) (c.prepare.ensures.reads content.committed.columns)
    (λ h. subst (λ side. OtherStays side (told c.self.inside.disk) (told new)) c.other_of.ensures (c.prepare.ensures.other h))
    (λ h. subst (λ side. Within (told new).images (IsReady c.prepare.new.known side)) c.other_of.ensures (c.prepare.ensures.ready h))
    (begun_stands told _ content here whole new c.prepare.ensures.honest c.prepare.new.known c.truncate.new.self.items c.in-Ok.ensures.known c.truncate.ensures.items (subst (λ n. n < 2 ^ 62) (sym (ap (λ (store : Stored g.row.D.Denot). store.generation) c.self.view_is)) c.requires.limit)
    (λ h. subst (λ side. IsBlank (on side (told new).bytes)) c.other_of.ensures (c.in-Ok.ensures.blank h)))

pub returns-in-Err-clause-stands : goal.returns-in-Err-clause-stands
returns-in-Err-clause-stands g c content s =
    let told = g.D.Disk.told in
    let here = subst (λ store. StandsFor told store content) (sym c.self.view_is) s in
    let whole = ap (λ (store : Stored g.row.D.Denot). store.failed) c.self.view_is ∙ c.requires.whole in
    let new = c.prepare.new.disk in
    stands_beside told _ content here whole new c.prepare.ensures.honest c.prepare.new.known c.self.inside.copy c.truncate.new.self.items (g.met.D.Disk.reads_image new) (c.prepare.ensures.reads content.committed.columns)
    (λ h. subst (λ side. OtherStays side (told c.self.inside.disk) (told new)) c.other_of.ensures (c.prepare.ensures.other h))
    (λ h. subst (λ side. Within (told new).images (IsReady c.prepare.new.known side)) c.other_of.ensures (c.prepare.ensures.ready h))
    (none_copied _ c.self.inside.copy (ap (λ (store : Stored g.row.D.Denot). store.copy) c.self.view_is ∙ c.requires.idle))

pub returns-in-Ok-clause-length : goal.returns-in-Ok-clause-length
returns-in-Ok-clause-length g c content s =
    begun_longer (record { disk = c.prepare.new.disk; columns = c.self.inside.columns; side = c.self.inside.side; end = c.self.inside.end; generation = c.self.inside.generation; records = c.self.inside.batch.records; rows = c.self.inside.rows; reserved = c.self.inside.reserved; known = c.prepare.new.known; failed = c.self.inside.failed; copy = Some (record { cursor = 1; at = 21 }); ends = c.truncate.new.self.items })
    (table_of content) s.valid refl c.truncate.ensures.items

pub returns-in-Ok-clause-known : goal.returns-in-Ok-clause-known
returns-in-Ok-clause-known g c is = c.prepare.ensures.kept (ap (λ (store : Stored g.row.D.Denot). store.known) c.self.view_is ∙ is)

pub returns-in-Err-clause-known : goal.returns-in-Err-clause-known
returns-in-Err-clause-known g c is = c.prepare.ensures.kept (ap (λ (store : Stored g.row.D.Denot). store.known) c.self.view_is ∙ is)

pub returns-in-Ok-clause-unknown : goal.returns-in-Ok-clause-unknown
returns-in-Ok-clause-unknown g c is =
    subst (λ (store : Stored g.row.D.Denot). BrokeOff g.D.Disk.told (close_calls (other store.side) false) store.disk c.prepare.new.disk) c.self.view_is
    (subst (λ side. BrokeOff g.D.Disk.told (close_calls side false) c.self.inside.disk c.prepare.new.disk) c.other_of.ensures (c.prepare.ensures.unknown is))

pub returns-in-Err-clause-unknown : goal.returns-in-Err-clause-unknown
returns-in-Err-clause-unknown g c is =
    subst (λ (store : Stored g.row.D.Denot). BrokeOff g.D.Disk.told (close_calls (other store.side) false) store.disk c.prepare.new.disk) c.self.view_is
    (subst (λ side. BrokeOff g.D.Disk.told (close_calls side false) c.self.inside.disk c.prepare.new.disk) c.other_of.ensures (c.prepare.ensures.unknown is))
