use Rattle.std.proofs.Common.{List, [], ◌∙◌, replicate, refl, inl, inr, IsTrue, arith}
use Rattle.q4_value.specs.declared.column.Column.{Column}
use Rattle.q4_disk.specs.Images.{Within}
use Rattle.q4_disk.proofs.Moments.{Along, other_stepped, other_then}
use Rattle.q4_store.specs.Reading.{ReadsAs}
use Rattle.q4_store.specs.Device.{blank_calls}
use Rattle.q4_store.proofs.Runs.{broke}
use Rattle.q4_store.proofs.Idle.{Beside, Shut, shut_idle, torn_late, cut_late, idle_start, idle_write, idle_cut}
use Rattle.q4_store.proofs.parts.blank.Given as given
use Rattle.q4_store.proofs.parts.blank.Goals as goal
use Rattle.q4_store.proofs.parts.blank.Goals.{After-cut, After-write}

-- what an image has after each device call
module _ (g : given.Over) (columns : List Column) where
  after_cut : (c : goal.After-cut g) → IsTrue (g.D.Disk.told c.args.disk.now).honest → Within (g.D.Disk.told c.args.disk.now).images (Shut c.args.side)
      → Along (g.D.Disk.told c.args.disk.now) (g.D.Disk.told c.cut.new.self) (ReadsAs columns (g.D.Disk.told c.args.disk.now).images) (Beside c.args.side (g.D.Disk.told c.args.disk.now).images (Shut c.args.side))
  after_cut c h shut =
      let side = c.args.side in
      let a0 = idle_start columns side _ (Shut side) h (g.met.D.Disk.only_now c.args.disk.now h) shut (shut_idle side) in
      idle_cut columns side _ _ _ (Shut side) (Shut side) 1 a0 c.cut.ensures.call.counted.honest c.cut.ensures.cut (cut_late side) (shut_idle side)

  after_write : (c : goal.After-write g) → IsTrue (g.D.Disk.told c.args.disk.now).honest → Within (g.D.Disk.told c.args.disk.now).images (Shut c.args.side)
      → Along (g.D.Disk.told c.args.disk.now) (g.D.Disk.told c.write.new.self) (ReadsAs columns (g.D.Disk.told c.args.disk.now).images) (Beside c.args.side (g.D.Disk.told c.args.disk.now).images (Shut c.args.side))
  after_write c h shut =
      let side = c.args.side in
      idle_write columns side _ _ _ (Shut side) (Shut side) 1 (replicate 20 0) (after_cut (goal.at.After-write g c).After-cut h shut) c.write.ensures.call.counted.honest c.write.ensures.write (torn_late side 1 20 (omega arith)) (shut_idle side)

pub returns-in_err-cut-clause-any_moment : goal.returns-in_err-cut-clause-any_moment
returns-in_err-cut-clause-any_moment g c columns h shut = (after_cut g columns (goal.at.returns-in_err-cut-clause-any_moment g c).After-cut h shut).only

pub returns-in_err-cut-clause-shut : goal.returns-in_err-cut-clause-shut
returns-in_err-cut-clause-shut g c h shut d left = ((after_cut g [] (goal.at.returns-in_err-cut-clause-shut g c).After-cut h shut).now d left).here

pub returns-in_err-cut-clause-other : goal.returns-in_err-cut-clause-other
returns-in_err-cut-clause-other g c h = other_stepped (c.cut.ensures.cut h)

pub returns-in_err-write-clause-any_moment : goal.returns-in_err-write-clause-any_moment
returns-in_err-write-clause-any_moment g c columns h shut = (after_write g columns (goal.at.returns-in_err-write-clause-any_moment g c).After-write h shut).only

pub returns-in_err-write-clause-shut : goal.returns-in_err-write-clause-shut
returns-in_err-write-clause-shut g c h shut d left = ((after_write g [] (goal.at.returns-in_err-write-clause-shut g c).After-write h shut).now d left).here

pub returns-clause-any_moment : goal.returns-clause-any_moment
returns-clause-any_moment g c columns h shut = (after_write g columns (goal.at.returns-clause-any_moment g c).After-write h shut).only

pub returns-clause-shut : goal.returns-clause-shut
returns-clause-shut g c h shut d left = ((after_write g [] (goal.at.returns-clause-shut g c).After-write h shut).now d left).here

pub returns-in_err-cut-clause-device : goal.returns-in_err-cut-clause-device
returns-in_err-cut-clause-device g c = broke g.D.Disk.told (blank_calls c.args.side) c.from_residual.result _ _ c.from_residual.ensures.0 (inl (c.in_err-cut.ensures.call, c.in_err-cut.ensures.cut))

pub returns-in_err-write-clause-device : goal.returns-in_err-write-clause-device
returns-in_err-write-clause-device g c =
    broke g.D.Disk.told (blank_calls c.args.side) c.from_residual-in_err-write.result _ _ c.from_residual-in_err-write.ensures.0
    (inr (c.cut.new.self, (c.in_ok-cut.ensures.call, c.in_ok-cut.ensures.cut), inl (c.in_err-write.ensures.call, c.in_err-write.ensures.write)))

pub returns-clause-device : goal.returns-clause-device
returns-clause-device g c = (c.cut.new.self, (c.in_ok-cut.ensures.call, c.in_ok-cut.ensures.cut), (c.write.new.self, (c.in_ok-write.ensures.call, c.in_ok-write.ensures.write), refl))

pub returns-in_err-write-clause-other : goal.returns-in_err-write-clause-other
returns-in_err-write-clause-other g c h = other_then (other_stepped (c.cut.ensures.cut h)) (other_stepped (c.write.ensures.write (c.cut.ensures.call.counted.honest ∙ h)))

pub returns-clause-other : goal.returns-clause-other
returns-clause-other g c h = other_then (other_stepped (c.cut.ensures.cut h)) (other_stepped (c.write.ensures.write (c.cut.ensures.call.counted.honest ∙ h)))
