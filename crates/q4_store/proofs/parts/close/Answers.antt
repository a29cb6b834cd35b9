use Rattle.std.proofs.Common.{Result, Ok, Err, OnErr, List, [], ◌∷◌, IsTrue, false, refl, sym, ◌∙◌, subst, inl, inr}
use Rattle.q4_value.specs.declared.column.Column.{Column}
use Rattle.q4_disk.specs.Images.{Within}
use Rattle.q4_disk.proofs.Moments.{Along, other_stepped, other_synced, other_then}
use Rattle.q4_store.specs.Reading.{ReadsAs}
use Rattle.q4_store.specs.Parts.{IsSpare, IsReady}
use Rattle.q4_store.specs.Device.{Makes, AllMade, close_calls}
use Rattle.q4_store.proofs.Runs.{broke}
use Rattle.q4_store.proofs.Idle.{Beside, spare_idle, ready_idle, torn_spare, closed_shut, idle_start, idle_write, idle_sync}
use Rattle.q4_store.proofs.parts.close.Given as given
use Rattle.q4_store.proofs.parts.close.Goals as goal
use Rattle.q4_store.proofs.parts.close.Goals.{After-write}

pub returns-then-known-clause-any_moment : goal.returns-then-known-clause-any_moment
returns-then-known-clause-any_moment g c columns h ready = (idle_start columns c.args.side _ (IsReady c.args.known c.args.side) h (g.met.D.Disk.only_now c.args.disk.now h) ready (ready_idle c.args.known c.args.side)).only

module _ (g : given.Over) (columns : List Column) where
  after_write : (c : goal.After-write g) → IsTrue (g.D.Disk.told c.args.disk.now).honest → Within (g.D.Disk.told c.args.disk.now).images (IsReady c.args.known c.args.side)
      → Along (g.D.Disk.told c.args.disk.now) (g.D.Disk.told c.write.new.self) (ReadsAs columns (g.D.Disk.told c.args.disk.now).images) (Beside c.args.side (g.D.Disk.told c.args.disk.now).images (IsSpare c.args.side))
  after_write c h ready =
      let side = c.args.side in
      let spare = subst (λ known. Within (g.D.Disk.told c.args.disk.now).images (IsReady known side)) c.if-known.false ready in
      let a0 = idle_start columns side _ (IsSpare side) h (g.met.D.Disk.only_now c.args.disk.now h) spare (spare_idle side) in
      idle_write columns side _ _ _ (IsSpare side) (IsSpare side) 0 (0 ∷ []) a0 c.write.ensures.call.counted.honest c.write.ensures.write (torn_spare side) (spare_idle side)

pub returns-in_err-write-clause-any_moment : goal.returns-in_err-write-clause-any_moment
returns-in_err-write-clause-any_moment g c columns h ready = (after_write g columns (goal.at.returns-in_err-write-clause-any_moment g c).After-write h ready).only

pub returns-in_err-write-clause-other : goal.returns-in_err-write-clause-other
returns-in_err-write-clause-other g c h = other_stepped (c.write.ensures.write h)

pub returns-in_err-sync-clause-any_moment : goal.returns-in_err-sync-clause-any_moment
returns-in_err-sync-clause-any_moment g c columns h ready =
    (idle_sync columns c.args.side _ _ _ (IsSpare c.args.side) (after_write g columns (goal.at.returns-in_err-sync-clause-any_moment g c).After-write h ready) c.sync.ensures.call.counted.honest c.sync.ensures.sync (spare_idle c.args.side)).only

pub returns-clause-any_moment : goal.returns-clause-any_moment
returns-clause-any_moment g c columns h ready =
    (idle_sync columns c.args.side _ _ _ (IsSpare c.args.side) (after_write g columns (goal.at.returns-clause-any_moment g c).After-write h ready) c.sync.ensures.call.counted.honest c.sync.ensures.sync (spare_idle c.args.side)).only

pub returns-clause-shut : goal.returns-clause-shut
returns-clause-shut g c h ready =
    let side = c.args.side in
    let a1 = after_write g [] (goal.at.returns-clause-shut g c).After-write h ready in
    let synced = c.in_ok-sync.ensures.sync a1.honest in
    λ d left. closed_shut side _ _ d (c.in_ok-write.ensures.write h).done (synced.durable d left)

pub returns-clause-other : goal.returns-clause-other
returns-clause-other g c h =
    let h1 = c.write.ensures.call.counted.honest ∙ h in
    other_then (other_stepped (c.write.ensures.write h)) (other_synced (c.sync.ensures.sync h1))

pub returns-then-known-clause-device : goal.returns-then-known-clause-device
returns-then-known-clause-device g c = subst (λ known. AllMade g.D.Disk.told (close_calls c.args.side known) c.args.disk.now c.args.disk.now) (sym c.if-known.true) refl

pub returns-in_err-write-clause-device : goal.returns-in_err-write-clause-device
returns-in_err-write-clause-device g c =
    subst (λ known. Makes g.D.Disk.told (close_calls c.args.side known) c.from_residual.result c.args.disk.now c.write.new.self) (sym c.if-known.false)
    (broke g.D.Disk.told (close_calls c.args.side false) c.from_residual.result _ _ c.from_residual.ensures.0 (inl (c.in_err-write.ensures.call, c.in_err-write.ensures.write)))

pub returns-in_err-sync-clause-device : goal.returns-in_err-sync-clause-device
returns-in_err-sync-clause-device g c =
    subst (λ known. Makes g.D.Disk.told (close_calls c.args.side known) c.from_residual-in_err-sync.result c.args.disk.now c.sync.new.self) (sym c.if-known.false)
    (broke g.D.Disk.told (close_calls c.args.side false) c.from_residual-in_err-sync.result _ _ c.from_residual-in_err-sync.ensures.0
    (inr (c.write.new.self, (c.in_ok-write.ensures.call, c.in_ok-write.ensures.write), inl (c.in_err-sync.ensures.call, c.in_err-sync.ensures.sync))))

pub returns-clause-device : goal.returns-clause-device
returns-clause-device g c =
    subst (λ known. AllMade g.D.Disk.told (close_calls c.args.side known) c.args.disk.now c.sync.new.self) (sym c.if-known.false)
    (c.write.new.self, (c.in_ok-write.ensures.call, c.in_ok-write.ensures.write), (c.sync.new.self, (c.in_ok-sync.ensures.call, c.in_ok-sync.ensures.sync), refl))

on_err : {T E : Type 0} {P : Type 0} (result : Result T E) → P → OnErr result P
on_err (Ok x) p = tt
on_err (Err why) p = p

pub returns-in_err-write-clause-spare : goal.returns-in_err-write-clause-spare
returns-in_err-write-clause-spare g c = on_err c.from_residual.result (λ h ready d left. ((after_write g [] (goal.at.returns-in_err-write-clause-spare g c).After-write h ready).now d left).here)

pub returns-in_err-sync-clause-spare : goal.returns-in_err-sync-clause-spare
returns-in_err-sync-clause-spare g c = on_err c.from_residual-in_err-sync.result (λ h ready d left.
    ((idle_sync [] c.args.side _ _ _ (IsSpare c.args.side) (after_write g [] (goal.at.returns-in_err-sync-clause-spare g c).After-write h ready) c.sync.ensures.call.counted.honest c.sync.ensures.sync (spare_idle c.args.side)).now d left).here)
