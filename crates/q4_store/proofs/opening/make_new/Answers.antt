use Rattle.std.proofs.Common.{◌≡◌, [], IsTrue, refl, ◌∙◌, ap, subst, inl, inr}
use Rattle.q4_table.specs.Cursors.{TableView}
use Rattle.q4_table.specs.TableState.{new_table}
use Rattle.q4_disk.specs.declared.disk.Side.TheVariants.{A}
use Rattle.q4_store.specs.declared.fault.OpenFault.TheVariants as fault
use Rattle.q4_record.specs.Written.{IsWritten}
use Rattle.q4_disk.specs.Time.{LeavesOnly}
use Rattle.q4_store.specs.Reading.{ReadsAsGiven}
use Rattle.q4_store.specs.Finding.{LeavesOpened, HasFailed}
use Rattle.q4_store.specs.Device.{AllMade, BrokeOff, StopsBehindLook, write_calls}
use Rattle.q4_store.proofs.Runs.{new_written, stops_reading, stops_broken}
use Rattle.q4_store.proofs.Finding.{nothing_called, failed_reading}
use Rattle.q4_store.proofs.NewTables.{new_to_write, new_behind, new_moments, new_given, new_found, new_failed}
use Rattle.q4_store.proofs.opening.make_new.Given as given
use Rattle.q4_store.proofs.opening.make_new.Goals as goal
use Rattle.q4_store.proofs.opening.make_new.Goals.{Start, After-new-table, After-write_draft}

module _ (g : given.Over) where
  table_is : (c : goal.After-new-table g) → c.new-table.result.state ≡ new_table c.args.columns.now
  table_is c = ap (λ (v : TableView). v.state) c.new-table.ensures ∙ ap new_table c.in-Ok.ensures

  written : (c : goal.After-new-table g) → IsWritten c.new-table.result.state 1 [] 0 []
  written c = new_to_write g.D.Disk.told c.args.disk.now c.args.known c.args.other_known c.args.columns.now c.requires.columns c.requires.still c.requires.chosen c.new-table.result.state (table_is c)

  -- each image reads as one that there was, or as the table
  table_moments : (c : goal.After-write_draft g) → IsTrue (g.D.Disk.told c.args.disk.now).honest
      → LeavesOnly (g.D.Disk.told c.args.disk.now) (g.D.Disk.told c.write_draft.new.disk) (ReadsAsGiven c.new-table.result.state.columns c.new-table.result.state 1 (g.D.Disk.told c.args.disk.now).images)
  table_moments c h =
      let a = (goal.at.After-write_draft g c).After-new-table in
      c.write_draft.ensures.any_moment c.new-table.result.state 1 (written a) c.in-Ok-make_draft.ensures h
      (new_behind g.D.Disk.told c.args.disk.now c.args.known c.args.other_known c.args.columns.now c.requires.columns c.requires.still c.requires.chosen c.new-table.result.state (table_is a) h)

  moments : (c : goal.After-write_draft g) → LeavesOpened c.args.columns.now g.D.Disk.told c.args.disk.now c.write_draft.new.disk
  moments c =
      new_moments g.D.Disk.told c.args.disk.now c.args.known c.args.other_known c.args.columns.now c.requires.columns c.requires.still c.requires.chosen c.new-table.result.state (table_is (goal.at.After-write_draft g c).After-new-table) c.write_draft.new.disk
      (g.met.D.Disk.reads_image c.args.disk.now) (table_moments c)

  -- memory was wanted, and nothing was called
  unheld : (c : goal.Start g) → HasFailed c.args.columns.now g.D.Disk.told c.args.disk.now c.args.disk.now fault.Memory
  unheld c = failed_reading c.args.columns.now g.D.Disk.told c.args.disk.now c.args.disk.now (nothing_called (g.D.Disk.told c.args.disk.now) (g.met.D.Disk.only_now c.args.disk.now)) refl fault.Memory refl (λ h. tt)

  uncalled : (c : goal.Start g) → StopsBehindLook c.args.columns.now g.D.Disk.told fault.Memory c.args.disk.now c.args.disk.now
  uncalled c = stops_reading g.D.Disk.told c.args.columns.now fault.Memory [] c.args.disk.now c.args.disk.now (λ wrong. cc wrong) (inr refl) (record { front = []; rest = []; parts = refl; made = refl })

pub returns-in_default-clause-none : goal.returns-in_default-clause-none
returns-in_default-clause-none g c = unheld g (goal.at.returns-in_default-clause-none g c).Start

pub returns-in_default-clause-device_err : goal.returns-in_default-clause-device_err
returns-in_default-clause-device_err g c = uncalled g (goal.at.returns-in_default-clause-device_err g c).Start

pub returns-in_default-hold-clause-none : goal.returns-in_default-hold-clause-none
returns-in_default-hold-clause-none g c = unheld g (goal.at.returns-in_default-hold-clause-none g c).Start

pub returns-in_default-hold-clause-device_err : goal.returns-in_default-hold-clause-device_err
returns-in_default-hold-clause-device_err g c = uncalled g (goal.at.returns-in_default-hold-clause-device_err g c).Start

pub returns-in_default-make_draft-clause-none : goal.returns-in_default-make_draft-clause-none
returns-in_default-make_draft-clause-none g c = unheld g (goal.at.returns-in_default-make_draft-clause-none g c).Start

pub returns-in_default-make_draft-clause-device_err : goal.returns-in_default-make_draft-clause-device_err
returns-in_default-make_draft-clause-device_err g c = uncalled g (goal.at.returns-in_default-make_draft-clause-device_err g c).Start

pub returns-in_default-write_draft-clause-none : goal.returns-in_default-write_draft-clause-none
returns-in_default-write_draft-clause-none g c =
    new_failed g.D.Disk.told c.args.disk.now c.args.known c.args.other_known c.args.columns.now c.requires.columns c.requires.still c.requires.chosen c.new-table.result.state (table_is g (goal.at.returns-in_default-write_draft-clause-none g c).After-new-table)
    c.write_draft.new.disk c.in_default-write_draft.ensures.faults.failed (moments g (goal.at.returns-in_default-write_draft-clause-none g c).After-write_draft)

pub returns-in_default-write_draft-clause-device_err : goal.returns-in_default-write_draft-clause-device_err
returns-in_default-write_draft-clause-device_err g c =
    let told = g.D.Disk.told in
    let is = table_is g (goal.at.returns-in_default-write_draft-clause-device_err g c).After-new-table in
    let calls = write_calls A c.args.known (new_table c.args.columns.now) 1 in
    let broke = subst (λ t. BrokeOff told (write_calls A c.args.known t 1) c.args.disk.now c.write_draft.new.disk) is (c.in_default-write_draft.ensures.device c.new-table.result.state 1 c.in-Ok-make_draft.ensures) in
    stops_broken told c.args.columns.now calls c.args.disk.now c.write_draft.new.disk (inr (inr (inl (new_written c.args.columns.now (told c.args.disk.now) c.args.known c.args.other_known c.requires.chosen)))) broke

pub returns-clause-found : goal.returns-clause-found
returns-clause-found g c =
    let told = g.D.Disk.told in
    let a = (goal.at.returns-clause-found g c).After-new-table in
    let b = (goal.at.returns-clause-found g c).After-write_draft in
    let is = table_is g a in
    new_found told c.args.disk.now c.args.known c.args.other_known c.args.columns.now c.requires.columns c.requires.still c.requires.chosen c.new-table.result.state is
    c.write_draft.new.disk c.in-Ok-make_draft.draft.base c.in-Ok-make_draft.draft.header c.as_slice.result.now c.in-Ok-make_draft.ensures c.as_slice.ensures c.in-Ok-write_draft.ensures.faults.stayed (moments g b)
    (new_given told c.args.disk.now c.args.known c.args.other_known c.args.columns.now c.requires.columns c.requires.still c.requires.chosen c.new-table.result.state is c.write_draft.new.disk (table_moments g b))
    (λ h. c.in-Ok-write_draft.ensures.done c.new-table.result.state 1 (written g a) c.in-Ok-make_draft.ensures h
    (new_behind told c.args.disk.now c.args.known c.args.other_known c.args.columns.now c.requires.columns c.requires.still c.requires.chosen c.new-table.result.state is h))
    c.write_draft.ensures.other

pub returns-clause-device : goal.returns-clause-device
returns-clause-device g c =
    let is = table_is g (goal.at.returns-clause-device g c).After-new-table in (
      write_calls A c.args.known (new_table c.args.columns.now) 1,
      new_written c.args.columns.now (g.D.Disk.told c.args.disk.now) c.args.known c.args.other_known c.requires.chosen,
      subst (λ t. AllMade g.D.Disk.told (write_calls A c.args.known t 1) c.args.disk.now c.write_draft.new.disk) is (c.in-Ok-write_draft.ensures.device c.new-table.result.state 1 c.in-Ok-make_draft.ensures),
    )
