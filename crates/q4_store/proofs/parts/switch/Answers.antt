use Rattle.std.proofs.Common.{ℕ, List, IsTrue, refl, sym, ◌∙◌, ap, inl, inr}
use Rattle.q4_value.specs.declared.column.Column.{Column}
use Rattle.q4_table.specs.TableState.{TableState}
use Rattle.q4_disk.specs.Images.{on}
use Rattle.q4_disk.proofs.Moments.{Along, other_stepped, other_synced, other_then}
use Rattle.q4_store.specs.Parts.{IsFilled}
use Rattle.q4_store.specs.Device.{switch_calls}
use Rattle.q4_store.proofs.Runs.{broke}
use Rattle.q4_store.proofs.Switching.{May, AnyGate, gate_written, gate_whole, switched, switch_start, switch_write, switch_sync}
use Rattle.q4_store.proofs.parts.switch.Given as given
use Rattle.q4_store.proofs.parts.switch.Goals as goal
use Rattle.q4_store.proofs.parts.switch.Goals.{After-write, After-sync}

-- what an image has after each device call
module _ (g : given.Over) (columns : List Column) (table : TableState) (generation len : ℕ) where
  after_write : (c : goal.After-write g) → IsTrue (g.D.Disk.told c.args.disk.now).honest → (f : IsFilled (g.D.Disk.told c.args.disk.now) c.args.side columns table generation len) → Along (g.D.Disk.told c.args.disk.now) (g.D.Disk.told c.write.new.self) (May columns table generation len c.args.side (g.D.Disk.told c.args.disk.now) f) (AnyGate columns table generation len c.args.side (g.D.Disk.told c.args.disk.now) f)
  after_write c h f =
      let a0 = switch_start columns table generation len c.args.side _ f h (g.met.D.Disk.only_now c.args.disk.now h) in
      switch_write columns table generation len c.args.side _ f _ a0 c.write.ensures.call.counted.honest c.write.ensures.write

  after_sync : (c : goal.After-sync g) → IsTrue (g.D.Disk.told c.args.disk.now).honest → (f : IsFilled (g.D.Disk.told c.args.disk.now) c.args.side columns table generation len) → Along (g.D.Disk.told c.args.disk.now) (g.D.Disk.told c.sync.new.self) (May columns table generation len c.args.side (g.D.Disk.told c.args.disk.now) f) (AnyGate columns table generation len c.args.side (g.D.Disk.told c.args.disk.now) f)
  after_sync c h f = switch_sync columns table generation len c.args.side _ f _ _ (after_write (goal.at.After-sync g c).After-write h f) c.sync.ensures.call.counted.honest c.sync.ensures.sync

pub returns-in_err-write-clause-any_moment : goal.returns-in_err-write-clause-any_moment
returns-in_err-write-clause-any_moment g c columns table generation len h f = (after_write g columns table generation len (goal.at.returns-in_err-write-clause-any_moment g c).After-write h f).only

pub returns-in_err-write-clause-whole : goal.returns-in_err-write-clause-whole
returns-in_err-write-clause-whole g c columns table generation len h f d left =
    gate_whole columns table generation len c.args.side _ f d ((after_write g columns table generation len (goal.at.returns-in_err-write-clause-whole g c).After-write h f).now d left)

pub returns-in_err-sync-clause-any_moment : goal.returns-in_err-sync-clause-any_moment
returns-in_err-sync-clause-any_moment g c columns table generation len h f = (after_sync g columns table generation len (goal.at.returns-in_err-sync-clause-any_moment g c).After-sync h f).only

pub returns-in_err-sync-clause-whole : goal.returns-in_err-sync-clause-whole
returns-in_err-sync-clause-whole g c columns table generation len h f d left =
    gate_whole columns table generation len c.args.side _ f d ((after_sync g columns table generation len (goal.at.returns-in_err-sync-clause-whole g c).After-sync h f).now d left)

pub returns-clause-any_moment : goal.returns-clause-any_moment
returns-clause-any_moment g c columns table generation len h f = (after_sync g columns table generation len (goal.at.returns-clause-any_moment g c).After-sync h f).only

pub returns-clause-whole : goal.returns-clause-whole
returns-clause-whole g c columns table generation len h f d left =
    gate_whole columns table generation len c.args.side _ f d ((after_sync g columns table generation len (goal.at.returns-clause-whole g c).After-sync h f).now d left)

pub returns-in_err-write-clause-other : goal.returns-in_err-write-clause-other
returns-in_err-write-clause-other g c h = other_stepped (c.write.ensures.write h)

pub returns-clause-other : goal.returns-clause-other
returns-clause-other g c h =
    let h1 = c.write.ensures.call.counted.honest ∙ h in
    other_then (other_stepped (c.write.ensures.write h)) (other_synced (c.sync.ensures.sync h1))

pub returns-in_err-write-clause-device : goal.returns-in_err-write-clause-device
returns-in_err-write-clause-device g c = broke g.D.Disk.told (switch_calls c.args.side) c.from_residual.result _ _ c.from_residual.ensures.0 (inl (c.in_err-write.ensures.call, c.in_err-write.ensures.write))

pub returns-in_err-sync-clause-device : goal.returns-in_err-sync-clause-device
returns-in_err-sync-clause-device g c =
    broke g.D.Disk.told (switch_calls c.args.side) c.from_residual-in_err-sync.result _ _ c.from_residual-in_err-sync.ensures.0
    (inr (c.write.new.self, (c.in_ok-write.ensures.call, c.in_ok-write.ensures.write), inl (c.in_err-sync.ensures.call, c.in_err-sync.ensures.sync)))

pub returns-clause-device : goal.returns-clause-device
returns-clause-device g c = (c.write.new.self, (c.in_ok-write.ensures.call, c.in_ok-write.ensures.write), (c.sync.new.self, (c.in_ok-sync.ensures.call, c.in_ok-sync.ensures.sync), refl))

pub returns-clause-reads : goal.returns-clause-reads
returns-clause-reads g c columns table generation len h f =
    let side = c.args.side in
    let h1 = c.write.ensures.call.counted.honest ∙ h in
    let synced = c.in_ok-sync.ensures.sync h1 in
    let bytes = gate_written side _ _ _ (c.in_ok-write.ensures.write h).done synced.bytes in
    switched columns table generation len side (g.D.Disk.told c.args.disk.now) f (g.D.Disk.told c.sync.new.self) bytes (λ x left. synced.durable x left ∙ sym (ap (on side) synced.bytes))
    (other_then (other_stepped (c.write.ensures.write h)) (other_synced (c.sync.ensures.sync h1)))
