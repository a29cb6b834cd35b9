use Rattle.std.proofs.Common.{List, [], IsTrue, refl, sym, ◌∙◌, ap, inl, inr, arith}
use Rattle.q4_value.specs.declared.column.Column.{Column}
use Rattle.q4_disk.specs.Images.{on, written, Within}
use Rattle.q4_disk.proofs.Moments.{Along, other_stepped, other_synced, other_then}
use Rattle.q4_store.specs.Reading.{ReadsAs}
use Rattle.q4_store.specs.Device.{fill_calls}
use Rattle.q4_store.proofs.Runs.{broke}
use Rattle.q4_store.proofs.Idle.{Beside, Shut, shut_idle, torn_late, idle_start, idle_write, idle_sync}
use Rattle.q4_store.proofs.Filling.{long_written, twice_written, filled_with}
use Rattle.q4_store.proofs.parts.fill.Given as given
use Rattle.q4_store.proofs.parts.fill.Goals as goal
use Rattle.q4_store.proofs.parts.fill.Goals.{After-write, After-write-2, After-sync}

-- what an image has after each device call
module _ (g : given.Over) (columns : List Column) where
  after_last : (c : goal.After-write g) → IsTrue (g.D.Disk.told c.args.disk.now).honest → Within (g.D.Disk.told c.args.disk.now).images (Shut c.args.side) → Along (g.D.Disk.told c.args.disk.now) (g.D.Disk.told c.write.new.self) (ReadsAs columns (g.D.Disk.told c.args.disk.now).images) (Beside c.args.side (g.D.Disk.told c.args.disk.now).images (Shut c.args.side))
  after_last c h shut =
      let side = c.args.side in
      let a0 = idle_start columns side _ (Shut side) h (g.met.D.Disk.only_now c.args.disk.now h) shut (shut_idle side) in
      idle_write columns side _ _ _ (Shut side) (Shut side) c.args.at c.args.last.now a0 c.write.ensures.call.counted.honest c.write.ensures.write (torn_late side c.args.at _ c.requires.behind) (shut_idle side)

  after_header : (c : goal.After-write-2 g) → IsTrue (g.D.Disk.told c.args.disk.now).honest → Within (g.D.Disk.told c.args.disk.now).images (Shut c.args.side) → Along (g.D.Disk.told c.args.disk.now) (g.D.Disk.told c.write-2.new.self) (ReadsAs columns (g.D.Disk.told c.args.disk.now).images) (Beside c.args.side (g.D.Disk.told c.args.disk.now).images (Shut c.args.side))
  after_header c h shut =
      let side = c.args.side in
      idle_write columns side _ _ _ (Shut side) (Shut side) 1 c.args.header.now (after_last (goal.at.After-write-2 g c).After-write h shut) c.write-2.ensures.call.counted.honest c.write-2.ensures.write (torn_late side 1 _ (omega arith)) (shut_idle side)

  after_sync : (c : goal.After-sync g) → IsTrue (g.D.Disk.told c.args.disk.now).honest → Within (g.D.Disk.told c.args.disk.now).images (Shut c.args.side) → Along (g.D.Disk.told c.args.disk.now) (g.D.Disk.told c.sync.new.self) (ReadsAs columns (g.D.Disk.told c.args.disk.now).images) (Beside c.args.side (g.D.Disk.told c.args.disk.now).images (Shut c.args.side))
  after_sync c h shut =
      let side = c.args.side in
      idle_sync columns side _ _ _ (Shut side) (after_header (goal.at.After-sync g c).After-write-2 h shut) c.sync.ensures.call.counted.honest c.sync.ensures.sync (shut_idle side)

pub write-requires-2 : goal.write-requires-2
write-requires-2 g c h =
    let h0 = sym c.write.ensures.call.counted.honest ∙ h in
    long_written c.args.side _ _ c.args.at c.args.last.now c.requires.behind (c.requires.place h0) (c.in_ok-write.ensures.write h0).done

pub returns-in_err-write-clause-any_moment : goal.returns-in_err-write-clause-any_moment
returns-in_err-write-clause-any_moment g c columns h shut = (after_last g columns (goal.at.returns-in_err-write-clause-any_moment g c).After-write h shut).only

pub returns-in_err-write-clause-shut : goal.returns-in_err-write-clause-shut
returns-in_err-write-clause-shut g c h shut d left = ((after_last g [] (goal.at.returns-in_err-write-clause-shut g c).After-write h shut).now d left).here

pub returns-in_err-write-2-clause-any_moment : goal.returns-in_err-write-2-clause-any_moment
returns-in_err-write-2-clause-any_moment g c columns h shut = (after_header g columns (goal.at.returns-in_err-write-2-clause-any_moment g c).After-write-2 h shut).only

pub returns-in_err-write-2-clause-shut : goal.returns-in_err-write-2-clause-shut
returns-in_err-write-2-clause-shut g c h shut d left = ((after_header g [] (goal.at.returns-in_err-write-2-clause-shut g c).After-write-2 h shut).now d left).here

pub returns-in_err-sync-clause-any_moment : goal.returns-in_err-sync-clause-any_moment
returns-in_err-sync-clause-any_moment g c columns h shut = (after_sync g columns (goal.at.returns-in_err-sync-clause-any_moment g c).After-sync h shut).only

pub returns-in_err-sync-clause-shut : goal.returns-in_err-sync-clause-shut
returns-in_err-sync-clause-shut g c h shut d left = ((after_sync g [] (goal.at.returns-in_err-sync-clause-shut g c).After-sync h shut).now d left).here

pub returns-clause-any_moment : goal.returns-clause-any_moment
returns-clause-any_moment g c columns h shut = (after_sync g columns (goal.at.returns-clause-any_moment g c).After-sync h shut).only

pub returns-clause-shut : goal.returns-clause-shut
returns-clause-shut g c h shut d left = ((after_sync g [] (goal.at.returns-clause-shut g c).After-sync h shut).now d left).here

pub returns-in_err-write-clause-other : goal.returns-in_err-write-clause-other
returns-in_err-write-clause-other g c h = other_stepped (c.write.ensures.write h)

pub returns-in_err-write-2-clause-other : goal.returns-in_err-write-2-clause-other
returns-in_err-write-2-clause-other g c h =
    let h1 = c.write.ensures.call.counted.honest ∙ h in
    other_then (other_stepped (c.write.ensures.write h)) (other_stepped (c.write-2.ensures.write h1))

pub returns-in_err-sync-clause-other : goal.returns-in_err-sync-clause-other
returns-in_err-sync-clause-other g c h =
    let h1 = c.write.ensures.call.counted.honest ∙ h in
    let h2 = c.write-2.ensures.call.counted.honest ∙ h1 in
    other_then (other_then (other_stepped (c.write.ensures.write h)) (other_stepped (c.write-2.ensures.write h1))) (other_synced (c.sync.ensures.sync h2))

pub returns-clause-other : goal.returns-clause-other
returns-clause-other g c h =
    let h1 = c.write.ensures.call.counted.honest ∙ h in
    let h2 = c.write-2.ensures.call.counted.honest ∙ h1 in
    other_then (other_then (other_stepped (c.write.ensures.write h)) (other_stepped (c.write-2.ensures.write h1))) (other_synced (c.sync.ensures.sync h2))

pub returns-in_err-write-clause-device : goal.returns-in_err-write-clause-device
returns-in_err-write-clause-device g c = broke g.D.Disk.told (fill_calls c.args.side c.args.at c.args.last.now c.args.header.now) c.from_residual.result _ _ c.from_residual.ensures.0 (inl (c.in_err-write.ensures.call, c.in_err-write.ensures.write))

pub returns-in_err-write-2-clause-device : goal.returns-in_err-write-2-clause-device
returns-in_err-write-2-clause-device g c =
    broke g.D.Disk.told (fill_calls c.args.side c.args.at c.args.last.now c.args.header.now) c.from_residual-in_err-write-2.result _ _ c.from_residual-in_err-write-2.ensures.0
    (inr (c.write.new.self, (c.in_ok-write.ensures.call, c.in_ok-write.ensures.write), inl (c.in_err-write-2.ensures.call, c.in_err-write-2.ensures.write)))

pub returns-in_err-sync-clause-device : goal.returns-in_err-sync-clause-device
returns-in_err-sync-clause-device g c =
    broke g.D.Disk.told (fill_calls c.args.side c.args.at c.args.last.now c.args.header.now) c.from_residual-in_err-sync.result _ _ c.from_residual-in_err-sync.ensures.0
    (inr (
      c.write.new.self,
      (c.in_ok-write.ensures.call, c.in_ok-write.ensures.write),
      inr (c.write-2.new.self, (c.in_ok-write-2.ensures.call, c.in_ok-write-2.ensures.write), inl (c.in_err-sync.ensures.call, c.in_err-sync.ensures.sync)),
    ))

pub returns-clause-device : goal.returns-clause-device
returns-clause-device g c = (
  c.write.new.self,
  (c.in_ok-write.ensures.call, c.in_ok-write.ensures.write),
  (c.write-2.new.self, (c.in_ok-write-2.ensures.call, c.in_ok-write-2.ensures.write), (c.sync.new.self, (c.in_ok-sync.ensures.call, c.in_ok-sync.ensures.sync), refl)),
)

pub returns-clause-filled : goal.returns-clause-filled
returns-clause-filled g c columns table generation len h shut stands behind =
    let side = c.args.side in
    let h1 = c.write.ensures.call.counted.honest ∙ h in
    let h2 = c.write-2.ensures.call.counted.honest ∙ h1 in
    let last = after_sync g columns (goal.at.returns-clause-filled g c).After-sync h shut in
    let synced = c.in_ok-sync.ensures.sync h2 in
    let bytes = twice_written side _ _ _ _ c.args.at 1 c.args.last.now c.args.header.now (c.in_ok-write.ensures.write h).done (c.in_ok-write-2.ensures.write h1).done synced.bytes in
    let stays = other_then (other_then (other_stepped (c.write.ensures.write h)) (other_stepped (c.write-2.ensures.write h1))) (other_synced (c.sync.ensures.sync h2)) in
    filled_with (g.D.Disk.told c.args.disk.now) (g.D.Disk.told c.sync.new.self) side (written (written (on side (g.D.Disk.told c.args.disk.now).bytes) c.args.at c.args.last.now) 1 c.args.header.now) columns table generation len bytes stands
    (last.now _ (g.met.D.Disk.reads_image c.sync.new.self last.honest)).here (λ x left. synced.durable x left ∙ sym (ap (on side) synced.bytes)) stays behind
