use Rattle.std.proofs.Common.{◌≡◌, ◌+◌, ◌++◌, ℕ, true, IsTrue, List, [], inl, refl, sym, ap, subst}
use Rattle.std.specs.Result.{IfOk, IfErr}
use Rattle.std.proofs.lemmas.List.{append-nil}
use Rattle.std.proofs.lemmas.Result.{IfOk-weaker, IfErr-weaker}
use Rattle.q4_value.specs.declared.column.Column.{Column}
use Rattle.q4_value.specs.Names.{AreColumns}
use Rattle.q4_table.specs.TableState.{TableState}
use Rattle.q4_disk.specs.Images.{on, other}
use Rattle.q4_store.specs.declared.fault.OpenFault.{OpenFault}
use Rattle.q4_store.specs.declared.fault.OpenFault.TheVariants as fault
use Rattle.q4_store.specs.Looking.{IsLoaded}
use Rattle.q4_store.specs.Finding.{HasFound, HasFailed}
use Rattle.q4_store.specs.Device.{Rewrites, load_calls, write_calls}
use Rattle.q4_store.proofs.Commits.{not_so}
use Rattle.q4_store.proofs.Lifting.{own_stays}
use Rattle.q4_store.proofs.Runs.{current_read, stops_reading, stops_loading, rewrites_ok, rewrites_err}
use Rattle.q4_store.proofs.Finding.{failed_reading, found_current, failed_current, found_after, failed_after}
use Rattle.q4_store.proofs.Rewriting.{rewritten_calls}
use Rattle.q4_store.proofs.opening.find_current.Given as given
use Rattle.q4_store.proofs.opening.find_current.Goals as goal
use Rattle.q4_store.proofs.opening.find_current.Goals.{In-Ok}

pub returns-in-Err-clause-none : goal.returns-in-Err-clause-none
returns-in-Err-clause-none g c =
    failed_current c.args.columns.now g.D.Disk.told c.args.disk.now c.load.new.disk c.load.ensures.rests c.load.ensures.writes c.args.side c.args.known c.in-Err.fault c.in-Err.ensures.faults c.requires.chosen c.in-Err.ensures.fails

pub returns-clause-found : goal.returns-clause-found
returns-clause-found g c =
    let l = c.in-Ok.loaded in
    found_current c.args.columns.now g.D.Disk.told c.args.disk.now c.load.new.disk c.load.ensures.rests c.load.ensures.writes c.args.side c.args.known l.table.state l.generation l.end l.narrow c.requires.columns c.if-loaded.false c.in-Ok.ensures.calm c.requires.still c.requires.chosen c.in-Ok.ensures.sound c.in-Ok.ensures.loaded

pub returns-clause-device : goal.returns-clause-device
returns-clause-device g c =
    let l = c.in-Ok.loaded in
    let told = g.D.Disk.told c.args.disk.now in
    let loads = c.in-Ok.ensures.device in
    let read = current_read told c.args.side c.args.known loads.0 c.requires.chosen loads.1 in
    (load_calls c.args.side loads.0, inl (read, λ h outgrown. own_stays c.args.columns.now c.args.side told.bytes (c.requires.chosen h).0 (not_so l.narrow (c.in-Ok.ensures.loaded h).narrow_is c.if-loaded.false) outgrown), loads.2)

module _ (g : given.Over) where
  -- the table has the columns
  columns_are : (c : goal.In-Ok g) → c.in-Ok.loaded.table.state.columns ≡ c.args.columns.now
  columns_are c = ap (λ (t : TableState). t.columns) c.in-Ok.ensures.sound.1.side.table_is

  rewrites : (c : goal.In-Ok g) → c.in-Ok.loaded.narrow ≡ true → Rewrites c.args.columns.now (g.D.Disk.told c.args.disk.now) (load_calls c.args.side c.in-Ok.ensures.device.0 ++ write_calls (other c.args.side) c.args.known c.in-Ok.loaded.table.state (c.in-Ok.loaded.generation + 1))
  rewrites c is =
      let l = c.in-Ok.loaded in
      let told = g.D.Disk.told in
      let same = columns_are c in
      let sound = subst (λ (cs : List Column). (bytes : List ℕ) × IsLoaded cs bytes l.table.state l.generation l.end l.narrow) (sym same) c.in-Ok.ensures.sound in
      let loaded = subst (λ (cs : List Column). IsTrue (told c.args.disk.now).honest → IsLoaded cs (on c.args.side (told c.args.disk.now).bytes) l.table.state l.generation l.end l.narrow) (sym same) c.in-Ok.ensures.loaded in
      subst (λ (cs : List Column). Rewrites cs (told c.args.disk.now) (load_calls c.args.side c.in-Ok.ensures.device.0 ++ write_calls (other c.args.side) c.args.known l.table.state (l.generation + 1))) same
      (rewritten_calls l.table.state l.generation l.end l.narrow is (subst AreColumns (sym same) c.requires.columns) sound told c.args.disk.now c.args.side c.args.known c.requires.still c.requires.chosen loaded (other c.args.side) refl c.in-Ok.ensures.device.0 c.in-Ok.ensures.device.1)

pub returns-then-loaded-clause-found : goal.returns-then-loaded-clause-found
returns-then-loaded-clause-found g c =
    let told = g.D.Disk.told in
    let same = columns_are g (goal.at.returns-then-loaded-clause-found g c).In-Ok in
    IfOk-weaker c.rewrite.result
    (λ found. HasFound c.in-Ok.loaded.table.state.columns told c.load.new.disk c.rewrite.new.disk found.table.state found.side found.generation found.end found.known)
    (λ found. HasFound c.args.columns.now told c.args.disk.now c.rewrite.new.disk found.table.state found.side found.generation found.end found.known)
    (λ found is. found_after c.args.columns.now told c.args.disk.now c.load.new.disk c.rewrite.new.disk c.load.ensures.honest c.in-Ok.ensures.calm c.load.ensures.rests c.load.ensures.writes found.table.state found.side found.generation found.end found.known
    (subst (λ (cs : List Column). HasFound cs told c.load.new.disk c.rewrite.new.disk found.table.state found.side found.generation found.end found.known) same is))
    c.rewrite.ensures.found

pub returns-then-loaded-clause-none : goal.returns-then-loaded-clause-none
returns-then-loaded-clause-none g c =
    let told = g.D.Disk.told in
    let same = columns_are g (goal.at.returns-then-loaded-clause-none g c).In-Ok in
    IfErr-weaker c.rewrite.result (λ (why : OpenFault). HasFailed c.in-Ok.loaded.table.state.columns told c.load.new.disk c.rewrite.new.disk why) (λ (why : OpenFault). HasFailed c.args.columns.now told c.args.disk.now c.rewrite.new.disk why)
    (λ why is. failed_after c.args.columns.now told c.args.disk.now c.load.new.disk c.rewrite.new.disk c.load.ensures.honest c.in-Ok.ensures.calm c.load.ensures.rests c.load.ensures.writes why
    (subst (λ (cs : List Column). HasFailed cs told c.load.new.disk c.rewrite.new.disk why) same is))
    c.rewrite.ensures.none

pub returns-then-loaded-clause-device : goal.returns-then-loaded-clause-device
returns-then-loaded-clause-device g c =
    let l = c.in-Ok.loaded in
    let loads = c.in-Ok.ensures.device in
    rewrites_ok g.D.Disk.told c.args.columns.now c.rewrite.result (load_calls c.args.side loads.0) (write_calls (other c.args.side) c.args.known l.table.state (l.generation + 1)) c.args.disk.now c.load.new.disk c.rewrite.new.disk
    (rewrites g (goal.at.returns-then-loaded-clause-device g c).In-Ok c.if-loaded.true) loads.2 c.rewrite.ensures.device

pub returns-then-loaded-clause-device_err : goal.returns-then-loaded-clause-device_err
returns-then-loaded-clause-device_err g c =
    let l = c.in-Ok.loaded in
    let told = g.D.Disk.told in
    let loads = c.in-Ok.ensures.device in
    rewrites_err told c.args.columns.now c.rewrite.result (load_calls c.args.side loads.0) (write_calls (other c.args.side) c.args.known l.table.state (l.generation + 1)) c.args.disk.now c.load.new.disk c.rewrite.new.disk
    (current_read (told c.args.disk.now) c.args.side c.args.known loads.0 c.requires.chosen loads.1) (rewrites g (goal.at.returns-then-loaded-clause-device_err g c).In-Ok c.if-loaded.true) loads.2 c.rewrite.ensures.device_err c.rewrite.ensures.refused

pub returns-in-Err-clause-device_err : goal.returns-in-Err-clause-device_err
returns-in-Err-clause-device_err g c =
    let told = g.D.Disk.told in
    let loads = c.in-Err.ensures.device_err in
    stops_loading told c.args.columns.now c.in-Err.fault (load_calls c.args.side loads.0) c.args.disk.now c.load.new.disk (current_read (told c.args.disk.now) c.args.side c.args.known loads.0 c.requires.chosen loads.1) loads.2

-- memory was wanted behind what was read
pub returns-in_default-clause-none : goal.returns-in_default-clause-none
returns-in_default-clause-none g c = failed_reading c.args.columns.now g.D.Disk.told c.args.disk.now c.load.new.disk c.load.ensures.rests c.load.ensures.writes fault.Memory c.in-Ok.ensures.calm (λ h. tt)

pub returns-in_default-clause-device_err : goal.returns-in_default-clause-device_err
returns-in_default-clause-device_err g c =
    let told = g.D.Disk.told in
    let loads = c.in-Ok.ensures.device in
    let calls = load_calls c.args.side loads.0 in
    stops_reading told c.args.columns.now fault.Memory calls c.args.disk.now c.load.new.disk (λ wrong. cc wrong) (inl (current_read (told c.args.disk.now) c.args.side c.args.known loads.0 c.requires.chosen loads.1))
    (record { front = calls; rest = []; parts = sym (append-nil calls); made = loads.2 })
