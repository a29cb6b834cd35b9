use Rattle.std.specs.Result.{IfOk, IfErr}
use Rattle.std.proofs.lemmas.Result.{IfOk-weaker, IfErr-weaker}
use Rattle.q4_store.specs.declared.fault.OpenFault.{OpenFault}
use Rattle.q4_store.specs.declared.fault.OpenFault.TheVariants as fault
use Rattle.q4_store.specs.Finding.{HasFound, HasFailed}
use Rattle.q4_store.proofs.Runs.{opened_ok, opened_err, look_broke}
use Rattle.q4_store.proofs.Finding.{found_after, failed_after, failed_reading}
use Rattle.q4_store.proofs.opening.find.Goals as goal

pub returns-in_default-clause-none : goal.returns-in_default-clause-none
returns-in_default-clause-none g c = failed_reading c.args.columns.now g.D.Disk.told c.args.disk.now c.look.new.disk c.look.ensures.rests c.look.ensures.writes fault.Disk c.in_default.ensures.faults.failed (λ h. tt)

pub returns-clause-found : goal.returns-clause-found
returns-clause-found g c =
    let columns = c.args.columns.now in
    let told = g.D.Disk.told in
    IfOk-weaker c.find_by.result
    (λ found. HasFound columns told c.look.new.disk c.find_by.new.disk found.table.state found.side found.generation found.end found.known)
    (λ found. HasFound columns told c.args.disk.now c.find_by.new.disk found.table.state found.side found.generation found.end found.known)
    (λ found is. found_after columns told c.args.disk.now c.look.new.disk c.find_by.new.disk c.look.ensures.honest c.in-Ok.ensures.faults.stayed c.look.ensures.rests c.look.ensures.writes found.table.state found.side found.generation found.end found.known is)
    c.find_by.ensures.found

pub returns-clause-none : goal.returns-clause-none
returns-clause-none g c =
    let columns = c.args.columns.now in
    let told = g.D.Disk.told in
    IfErr-weaker c.find_by.result (λ (why : OpenFault). HasFailed columns told c.look.new.disk c.find_by.new.disk why) (λ (why : OpenFault). HasFailed columns told c.args.disk.now c.find_by.new.disk why)
    (λ why is. failed_after columns told c.args.disk.now c.look.new.disk c.find_by.new.disk c.look.ensures.honest c.in-Ok.ensures.faults.stayed c.look.ensures.rests c.look.ensures.writes why is)
    c.find_by.ensures.none

pub returns-in_default-clause-device_err : goal.returns-in_default-clause-device_err
returns-in_default-clause-device_err g c = look_broke g.D.Disk.told c.args.columns.now c.args.disk.now c.look.new.disk c.in_default.ensures.device

pub returns-clause-device : goal.returns-clause-device
returns-clause-device g c =
    opened_ok g.D.Disk.told c.args.columns.now c.find_by.result c.args.disk.now c.look.new.disk c.find_by.new.disk c.in-Ok.ensures.device c.look.ensures.honest (λ h. (c.look.ensures.rests h).bytes) c.find_by.ensures.device

pub returns-clause-device_err : goal.returns-clause-device_err
returns-clause-device_err g c =
    opened_err g.D.Disk.told c.args.columns.now c.find_by.result c.args.disk.now c.look.new.disk c.find_by.new.disk c.in-Ok.ensures.device c.look.ensures.honest (λ h. (c.look.ensures.rests h).bytes) c.find_by.ensures.device_err
