use Rattle.std.proofs.Common.{List, [], ◌∷◌, ◌++◌}
use Rattle.q4_record.specs.Side.{base_at}
use Rattle.q4_disk.specs.declared.disk.Side.TheVariants.{A, B}
use Rattle.q4_store.specs.Device.{DeviceCall, Read, Sync, look_calls}
use Rattle.q4_store.proofs.Runs.{broke, made_then, broke_first, broke_then}
use Rattle.q4_store.proofs.opening.look.Goals as goal

-- the calls of each step
abbrev syncs : List DeviceCall
syncs = Sync A ∷ Sync B ∷ []

abbrev first_read : List DeviceCall
first_read = Read A 0 base_at ∷ []

abbrev second_read : List DeviceCall
second_read = Read B 0 base_at ∷ []

pub returns-in_err-sync_both-clause-device : goal.returns-in_err-sync_both-clause-device
returns-in_err-sync_both-clause-device g c =
    broke g.D.Disk.told look_calls c.from_residual.result _ _ c.from_residual.ensures.0 (broke_first g.D.Disk.told syncs (first_read ++ second_read) _ _ c.in_err-sync_both.ensures.device)

pub returns-in_err-a-clause-device : goal.returns-in_err-a-clause-device
returns-in_err-a-clause-device g c =
    broke g.D.Disk.told look_calls c.from_residual-in_err-a.result _ _ c.from_residual-in_err-a.ensures.0
    (broke_then g.D.Disk.told syncs (first_read ++ second_read) _ _ _ c.in_ok-sync_both.ensures.device (broke_first g.D.Disk.told first_read second_read _ _ c.in_err-a.ensures.device))

pub returns-in_err-b-clause-device : goal.returns-in_err-b-clause-device
returns-in_err-b-clause-device g c =
    broke g.D.Disk.told look_calls c.from_residual-in_err-b.result _ _ c.from_residual-in_err-b.ensures.0
    (broke_then g.D.Disk.told syncs (first_read ++ second_read) _ _ _ c.in_ok-sync_both.ensures.device
    (broke_then g.D.Disk.told first_read second_read _ _ _ c.in_ok-a.ensures.device c.in_err-b.ensures.device))

pub returns-clause-device : goal.returns-clause-device
returns-clause-device g c =
    made_then g.D.Disk.told syncs (first_read ++ second_read) _ _ _ c.in_ok-sync_both.ensures.device
    (made_then g.D.Disk.told first_read second_read _ _ _ c.in_ok-a.ensures.device c.in_ok-b.ensures.device)
