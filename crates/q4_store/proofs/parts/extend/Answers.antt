use Rattle.std.proofs.Common.{List, [], ◌∷◌, IsTrue, refl, inl}
use Rattle.q4_value.specs.declared.column.Column.{Column}
use Rattle.q4_disk.specs.Images.{Within}
use Rattle.q4_disk.proofs.Moments.{Along, other_stepped}
use Rattle.q4_store.specs.Reading.{ReadsAs}
use Rattle.q4_store.specs.Device.DeviceCall.{Write}
use Rattle.q4_store.proofs.Runs.{broke}
use Rattle.q4_store.proofs.Idle.{Beside, Shut, shut_idle, torn_late, idle_start, idle_write}
use Rattle.q4_store.proofs.parts.extend.Given as given
use Rattle.q4_store.proofs.parts.extend.Goals as goal
use Rattle.q4_store.proofs.parts.extend.Goals.{After-write}

module _ (g : given.Over) (columns : List Column) where
  after_more : (c : goal.After-write g) → IsTrue (g.D.Disk.told c.args.disk.now).honest → Within (g.D.Disk.told c.args.disk.now).images (Shut c.args.side) → Along (g.D.Disk.told c.args.disk.now) (g.D.Disk.told c.write.new.self) (ReadsAs columns (g.D.Disk.told c.args.disk.now).images) (Beside c.args.side (g.D.Disk.told c.args.disk.now).images (Shut c.args.side))
  after_more c h shut =
      let side = c.args.side in
      let a0 = idle_start columns side _ (Shut side) h (g.met.D.Disk.only_now c.args.disk.now h) shut (shut_idle side) in
      idle_write columns side _ _ _ (Shut side) (Shut side) c.args.at c.args.more.now a0 c.write.ensures.call.counted.honest c.write.ensures.write (torn_late side c.args.at _ c.requires.behind) (shut_idle side)

pub returns-in_err-write-clause-any_moment : goal.returns-in_err-write-clause-any_moment
returns-in_err-write-clause-any_moment g c columns h shut = (after_more g columns (goal.at.returns-in_err-write-clause-any_moment g c).After-write h shut).only

pub returns-in_err-write-clause-shut : goal.returns-in_err-write-clause-shut
returns-in_err-write-clause-shut g c h shut d left = ((after_more g [] (goal.at.returns-in_err-write-clause-shut g c).After-write h shut).now d left).here

pub returns-in_err-write-clause-other : goal.returns-in_err-write-clause-other
returns-in_err-write-clause-other g c h = other_stepped (c.write.ensures.write h)

pub returns-clause-any_moment : goal.returns-clause-any_moment
returns-clause-any_moment g c columns h shut = (after_more g columns (goal.at.returns-clause-any_moment g c).After-write h shut).only

pub returns-clause-shut : goal.returns-clause-shut
returns-clause-shut g c h shut d left = ((after_more g [] (goal.at.returns-clause-shut g c).After-write h shut).now d left).here

pub returns-clause-other : goal.returns-clause-other
returns-clause-other g c h = other_stepped (c.write.ensures.write h)

pub returns-in_err-write-clause-device : goal.returns-in_err-write-clause-device
returns-in_err-write-clause-device g c = broke g.D.Disk.told (Write c.args.side c.args.at c.args.more.now ∷ []) c.from_residual.result _ _ c.from_residual.ensures.0 (inl (c.in_err-write.ensures.call, c.in_err-write.ensures.write))

pub returns-clause-device : goal.returns-clause-device
returns-clause-device g c = (c.write.new.self, (c.in_ok-write.ensures.call, c.in_ok-write.ensures.write), refl)
