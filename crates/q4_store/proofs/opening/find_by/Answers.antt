use Rattle.std.proofs.Common.{[], refl, inr, subst}
use Rattle.q4_store.specs.Looking.{IsChoice}
use Rattle.q4_store.proofs.Runs.{stops_reading, writes_ok}
use Rattle.q4_store.proofs.Finding.{counts_none, unclear_fails, nothing_called, failed_reading}
use Rattle.q4_store.proofs.opening.find_by.Goals as goal

pub find_current-requires-clause-chosen : goal.find_current-requires-clause-chosen
find_current-requires-clause-chosen g c h =
    let bytes = (g.D.Disk.told c.args.disk.now).bytes in
    subst (IsChoice bytes) c.in-Ok-Current.field-0-is (c.in-Ok-Current.ensures.choice bytes (c.requires.head_a h) (c.requires.head_b h))

pub make_new-requires-clause-chosen : goal.make_new-requires-clause-chosen
make_new-requires-clause-chosen g c h =
    let bytes = (g.D.Disk.told c.args.disk.now).bytes in
    subst (IsChoice bytes) c.in-Ok-Neither.field-0-is (c.in-Ok-Neither.ensures.choice bytes (c.requires.head_a h) (c.requires.head_b h))

pub returns-in-Err-clause-none : goal.returns-in-Err-clause-none
returns-in-Err-clause-none g c =
    let told = g.D.Disk.told c.args.disk.now in
    failed_reading c.args.columns.now g.D.Disk.told c.args.disk.now c.args.disk.now (nothing_called told (g.met.D.Disk.only_now c.args.disk.now)) refl c.in-Err.fault (counts_none c.in-Err.fault told.faults c.in-Err.ensures.no_disk)
    (λ h. unclear_fails c.args.columns.now told.bytes c.in-Err.fault (c.in-Err.ensures.unclear told.bytes (c.requires.head_a h) (c.requires.head_b h)))

pub returns-in-Ok-Neither-clause-device : goal.returns-in-Ok-Neither-clause-device
returns-in-Ok-Neither-clause-device g c = writes_ok g.D.Disk.told c.args.columns.now c.make_new.result _ _ c.make_new.ensures.device

pub returns-in-Err-clause-device_err : goal.returns-in-Err-clause-device_err
returns-in-Err-clause-device_err g c =
    stops_reading g.D.Disk.told c.args.columns.now c.in-Err.fault [] c.args.disk.now c.args.disk.now c.in-Err.ensures.no_disk (inr refl) (record { front = []; rest = []; parts = refl; made = refl })
