use Rattle.std.proofs.Common.{◌≡◌, ◌+◌, ◌⊎◌, IsTrue, List, ℕ, [], refl, sym, ◌∙◌, ap, subst, arith}
use Rattle.q4_disk.specs.declared.disk.Side.{Side}
use Rattle.q4_disk.specs.Images.{on, other, Within}
use Rattle.q4_disk.specs.Time.{LeavesOnly}
use Rattle.q4_store.specs.declared.fault.OpenFault.TheVariants as fault
use Rattle.q4_store.specs.Reading.{ReadsAsGiven}
use Rattle.q4_store.specs.Finding.{LeavesOpened}
use Rattle.q4_store.specs.Device.{DeviceCall, AllMade, BrokeOff, write_calls}
use Rattle.q4_store.proofs.Drafts.{is_schema}
use Rattle.q4_store.proofs.Finding.{nothing_called, failed_reading}
use Rattle.q4_store.proofs.Rewriting.{limit, to_write, to_ready, to_behind, rewritten_moments, rewritten_found, rewritten_failed}
use Rattle.q4_store.proofs.migrating.rewrite.Given as given
use Rattle.q4_store.proofs.migrating.rewrite.Goals as goal
use Rattle.q4_store.proofs.migrating.rewrite.Goals.{After-write_draft}

pub overflow_add-generation : goal.overflow_add-generation
overflow_add-generation g c =
    let l = c.args.loaded in
    let most = limit l.table.state l.generation l.end l.narrow c.requires.narrow c.requires.columns c.requires.sound in
    omega (arith, most)

pub make_draft-requires : goal.make_draft-requires
make_draft-requires g c = is_schema c.args.loaded.table.state.columns c.requires.columns

pub write_draft-requires : goal.write_draft-requires
write_draft-requires g c =
    let l = c.args.loaded in
    to_ready l.table.state l.generation l.end l.narrow c.requires.narrow c.requires.columns c.requires.sound g.D.Disk.told c.args.disk.now c.args.side c.args.known c.requires.still c.requires.chosen c.requires.loaded c.other_of-side.result c.other_of-side.ensures

module _ (g : given.Over) where
  -- each image reads as one that there was, or as the table as it is given
  given_moments : (c : goal.After-write_draft g) → IsTrue (g.D.Disk.told c.args.disk.now).honest
      → LeavesOnly (g.D.Disk.told c.args.disk.now) (g.D.Disk.told c.write_draft.new.disk) (ReadsAsGiven c.args.loaded.table.state.columns c.args.loaded.table.state (c.args.loaded.generation + 1) (g.D.Disk.told c.args.disk.now).images)
  given_moments c h =
      let l = c.args.loaded in
      let written = to_write l.table.state l.generation l.end l.narrow c.requires.narrow c.requires.columns c.requires.sound in
      c.write_draft.ensures.any_moment l.table.state (l.generation + 1) written c.in-Ok.ensures h
      (to_behind l.table.state l.generation l.end l.narrow c.requires.narrow c.requires.columns c.requires.sound g.D.Disk.told c.args.disk.now c.args.side c.args.known c.requires.still c.requires.chosen c.requires.loaded c.other_of-side.result c.other_of-side.ensures h)

  moments : (c : goal.After-write_draft g) → LeavesOpened c.args.loaded.table.state.columns g.D.Disk.told c.args.disk.now c.write_draft.new.disk
  moments c =
      let l = c.args.loaded in
      rewritten_moments l.table.state l.generation l.end l.narrow c.requires.narrow c.requires.columns c.requires.sound g.D.Disk.told c.args.disk.now c.args.side c.args.known c.requires.still c.requires.chosen c.requires.loaded c.other_of-side.result c.other_of-side.ensures
      c.write_draft.new.disk (g.met.D.Disk.reads_image c.args.disk.now) (given_moments c)

pub returns-in_default-clause-none : goal.returns-in_default-clause-none
returns-in_default-clause-none g c =
    failed_reading c.args.loaded.table.state.columns g.D.Disk.told c.args.disk.now c.args.disk.now (nothing_called (g.D.Disk.told c.args.disk.now) (g.met.D.Disk.only_now c.args.disk.now)) refl fault.Memory refl (λ h. tt)

pub returns-in_default-write_draft-clause-none : goal.returns-in_default-write_draft-clause-none
returns-in_default-write_draft-clause-none g c =
    let l = c.args.loaded in
    rewritten_failed l.table.state l.generation l.end l.narrow c.requires.narrow c.requires.columns c.requires.sound g.D.Disk.told c.args.disk.now c.args.side c.args.known c.requires.still c.requires.chosen c.requires.loaded c.other_of-side.result c.other_of-side.ensures
    c.write_draft.new.disk c.in_default-write_draft.ensures.faults.failed (moments g (goal.at.returns-in_default-write_draft-clause-none g c).After-write_draft)

pub returns-in_default-write_draft-clause-device_err : goal.returns-in_default-write_draft-clause-device_err
returns-in_default-write_draft-clause-device_err g c disk =
    let l = c.args.loaded in
    subst (λ s. BrokeOff g.D.Disk.told (write_calls s c.args.known l.table.state (l.generation + 1)) c.args.disk.now c.write_draft.new.disk) c.other_of-side.ensures (c.in_default-write_draft.ensures.device l.table.state (l.generation + 1) c.in-Ok.ensures)

pub returns-clause-found : goal.returns-clause-found
returns-clause-found g c =
    let l = c.args.loaded in
    let written = to_write l.table.state l.generation l.end l.narrow c.requires.narrow c.requires.columns c.requires.sound in
    let behind = to_behind l.table.state l.generation l.end l.narrow c.requires.narrow c.requires.columns c.requires.sound g.D.Disk.told c.args.disk.now c.args.side c.args.known c.requires.still c.requires.chosen c.requires.loaded c.other_of-side.result c.other_of-side.ensures in
    rewritten_found l.table.state l.generation l.end l.narrow c.requires.narrow c.requires.columns c.requires.sound g.D.Disk.told c.args.disk.now c.args.side c.args.known c.requires.still c.requires.chosen c.requires.loaded c.other_of-side.result c.other_of-side.ensures
    c.write_draft.new.disk c.in-Ok.draft.base c.in-Ok.draft.header c.as_slice.result.now c.in-Ok.ensures c.as_slice.ensures c.in-Ok-write_draft.ensures.faults.stayed (moments g (goal.at.returns-clause-found g c).After-write_draft) (given_moments g (goal.at.returns-clause-found g c).After-write_draft)
    (λ h. c.in-Ok-write_draft.ensures.done l.table.state (l.generation + 1) written c.in-Ok.ensures h (behind h)) c.write_draft.ensures.other

pub returns-clause-device : goal.returns-clause-device
returns-clause-device g c =
    let l = c.args.loaded in
    subst (λ s. AllMade g.D.Disk.told (write_calls s c.args.known l.table.state (l.generation + 1)) c.args.disk.now c.write_draft.new.disk) c.other_of-side.ensures (c.in-Ok-write_draft.ensures.device l.table.state (l.generation + 1) c.in-Ok.ensures)
