use Rattle.std.proofs.Common.{[], ◌∷◌, length, refl}
use Rattle.q4_disk.specs.Images.{on}
use Rattle.q4_store.specs.Device.{Read}
use Rattle.q4_store.proofs.Runs.{called_ok, all_called}
use Rattle.q4_store.proofs.FirstBytes.{read_all, fails_of}
use Rattle.q4_store.proofs.loading.load_into.Goals as goal

pub returns-clause-fails : goal.returns-clause-fails
returns-clause-fails g c =
    fails_of c.parse.result (g.D.Disk.told c.args.disk.now).honest c.args.columns.now _ (on c.args.side (g.D.Disk.told c.args.disk.now).bytes) c.args.side
    (λ h. let read = c.in-Ok.ensures.read h in read_all _ c.args.bytes.now c.read.new.into c.in-Ok.count (c.requires.size h) read.count read.into) c.parse.ensures.fails

pub returns-clause-device_err : goal.returns-clause-device_err
returns-clause-device_err g c =
    all_called g.D.Disk.told (Read c.args.side 0 (length c.args.bytes.now) ∷ []) c.parse.result _ _ (c.read.new.self, (called_ok c.in-Ok.count _ _ c.in-Ok.ensures.call, λ h. (c.in-Ok.ensures.read h).rests), refl) c.parse.ensures.no_disk
