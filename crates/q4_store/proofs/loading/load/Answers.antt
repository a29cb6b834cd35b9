use Rattle.std.proofs.Common.{◌≡◌, [], ◌∷◌, length, refl, sym, ◌∙◌, ap, inl}
use Rattle.std.proofs.lemmas.Result.{err_from_is_err_and}
use Rattle.q4_disk.specs.Images.{on, size}
use Rattle.q4_store.specs.declared.fault.OpenFault.TheVariants as fault
use Rattle.q4_store.specs.Device.{AllMade, Size, Read}
use Rattle.q4_store.proofs.Runs.{called_ok, called_err, stops_early, load_made, load_stops}
use Rattle.q4_store.proofs.FirstBytes.{fails_still}
use Rattle.q4_store.proofs.loading.load.Given as given
use Rattle.q4_store.proofs.loading.load.Goals as goal
use Rattle.q4_store.proofs.loading.load.Goals.{In-Ok}

pub returns-clause-fails : goal.returns-clause-fails
returns-clause-fails g c =
    fails_still c.load_into.result (g.D.Disk.told c.args.disk.now).honest _ c.args.columns.now _ (on c.args.side (g.D.Disk.told c.args.disk.now).bytes) c.args.side c.size.ensures.call.counted.honest
    (λ h. ap (on c.args.side) (c.size.ensures.size h).rests.bytes) c.load_into.ensures.fails

-- the side's size was asked for
module _ (g : given.Over) where
  sized : (c : goal.In-Ok g) → AllMade g.D.Disk.told (Size c.args.side ∷ []) c.args.disk.now c.size.new.self
  sized c = (c.size.new.self, (called_ok c.in-Ok.size _ _ c.in-Ok.ensures.call, λ h. (c.in-Ok.ensures.size h).rests), refl)

pub returns-in_default-clause-device_err : goal.returns-in_default-clause-device_err
returns-in_default-clause-device_err g c =
    (size c.args.side (g.D.Disk.told c.args.disk.now).bytes, (λ h. refl), inl (called_err c.in_default.field-0 _ _ c.in_default.ensures.call, λ h. (c.in_default.ensures.size h).rests))

pub returns-then-size-gt-SIDE_LIMIT-clause-device_err : goal.returns-then-size-gt-SIDE_LIMIT-clause-device_err
returns-then-size-gt-SIDE_LIMIT-clause-device_err g c = (
  c.in-Ok.size,
  (λ h. (c.in-Ok.ensures.size h).size),
  record { front = Size c.args.side ∷ []; rest = Read c.args.side 0 c.in-Ok.size ∷ []; parts = refl; made = sized g (goal.at.returns-then-size-gt-SIDE_LIMIT-clause-device_err g c).In-Ok },
)

pub returns-in_err-bytes-clause-device_err : goal.returns-in_err-bytes-clause-device_err
returns-in_err-bytes-clause-device_err g c =
    let p = err_from_is_err_and c.from_residual.result c.from_residual.ensures.1 in
    let none = sized g (goal.at.returns-in_err-bytes-clause-device_err g c).In-Ok in
    rw (p.1, p.2) (
      c.in-Ok.size,
      (λ h. (c.in-Ok.ensures.size h).size),
      stops_early g.D.Disk.told c.in_err-bytes.field-0.0 (Size c.args.side ∷ []) (Read c.args.side 0 c.in-Ok.size ∷ []) _ _ (λ disk. let wrong : fault.Memory ≡ fault.Disk = sym c.in_err-bytes.ensures.memory ∙ disk in absurd (cc wrong)) none,
    )

pub returns-clause-device : goal.returns-clause-device
returns-clause-device g c =
    load_made g.D.Disk.told c.args.side (length c.deref_mut.result.now) (size c.args.side (g.D.Disk.told c.args.disk.now).bytes) (g.D.Disk.told c.args.disk.now).honest c.load_into.result _ _ _
    (λ h. ap length c.deref_mut.ensures.value ∙ c.in_ok-bytes.ensures.size ∙ (c.in-Ok.ensures.size h).size) (sized g (goal.at.returns-clause-device g c).In-Ok) c.load_into.ensures.device

pub returns-clause-device_err : goal.returns-clause-device_err
returns-clause-device_err g c =
    load_stops g.D.Disk.told c.args.side (length c.deref_mut.result.now) (size c.args.side (g.D.Disk.told c.args.disk.now).bytes) (g.D.Disk.told c.args.disk.now).honest c.load_into.result _ _ _
    (λ h. ap length c.deref_mut.ensures.value ∙ c.in_ok-bytes.ensures.size ∙ (c.in-Ok.ensures.size h).size) (sized g (goal.at.returns-clause-device_err g c).In-Ok) c.load_into.ensures.device_err
