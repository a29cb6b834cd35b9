-- The counts of a call that failed.
use Rattle.std.proofs.Common.{◌≡◌, ℕ, ◌≤◌, List, Some, Err, refl, ◌∙◌, ap, arith}
use Rattle.q4_disk.specs.declared.disk.DiskFailed.{DiskFailed}
use Rattle.q4_disk.specs.declared.disk.Side.{Side}
use Rattle.q4_disk.specs.declared.history.Step.{Step}
use Rattle.q4_disk.specs.declared.tally.Tally.{Tally}
use Rattle.q4_disk.specs.declared.tally.DeviceCall.{DeviceCall}
use Rattle.q4_disk.specs.declared.tally.DeviceCall.TheVariants as call
use Rattle.q4_disk.specs.Calls.{bump, CountsFault, IsCall, IsWrite, IsSync}
use Rattle.q4_disk.proofs.Replayed.{told_at}

faults : {T : Type 0} (failed : DiskFailed) (t0 t1 t2 : Tally) (r : ℕ) → t1.faults ≡ t0.faults → t2 ≡ record t1 { faults = bump t1.faults; refused = r } → t1.faults ≤ t2.faults → CountsFault {T = T} (Err failed) t0.faults t2.faults
faults failed t0 t1 t2 r same rose later =
    let is : t2.faults ≡ bump t0.faults = ap (λ (t : Tally). t.faults) rose ∙ ap bump same in
    record { later = omega (arith, same, later); failed = omega (arith, is); stayed = tt }

pub failed_call : {T : Type 0} (made : DeviceCall) (failed : DiskFailed) (s0 s1 : List Step) (t0 t1 t2 : Tally) (r : ℕ) → t1 ≡ record t0 { last = Some made; calls = bump t0.calls } → t2 ≡ record t1 { faults = bump t1.faults; refused = r } → t1.faults ≤ t2.faults
    → IsCall {T = T} made (Err failed) (told_at s0 t0) (told_at s1 t2)
failed_call made failed s0 s1 t0 t1 t2 r counted rose later = record {
  counted = record {
    honest = refl;
    faults = faults failed t0 t1 t2 r (ap (λ (t : Tally). t.faults) counted) rose later;
    calls = ap (λ (t : Tally). t.calls) rose ∙ ap (λ (t : Tally). t.calls) counted;
    last = ap (λ (t : Tally). t.last) rose ∙ ap (λ (t : Tally). t.last) counted;
  };
  writes = ap (λ (t : Tally). t.writes) rose ∙ ap (λ (t : Tally). t.writes) counted;
  syncs = ap (λ (t : Tally). t.syncs) rose ∙ ap (λ (t : Tally). t.syncs) counted;
}

pub failed_write : {T : Type 0} (side : Side) (at count : ℕ) (failed : DiskFailed) (s0 s1 : List Step) (t0 t1 t2 : Tally) (r : ℕ) → t1 ≡ record t0 { last = Some (call.Write side at count); calls = bump t0.calls; writes = bump t0.writes } → t2 ≡ record t1 { faults = bump t1.faults; refused = r } → t1.faults ≤ t2.faults
    → IsWrite {T = T} side at count (Err failed) (told_at s0 t0) (told_at s1 t2)
failed_write side at count failed s0 s1 t0 t1 t2 r counted rose later = record {
  counted = record {
    honest = refl;
    faults = faults failed t0 t1 t2 r (ap (λ (t : Tally). t.faults) counted) rose later;
    calls = ap (λ (t : Tally). t.calls) rose ∙ ap (λ (t : Tally). t.calls) counted;
    last = ap (λ (t : Tally). t.last) rose ∙ ap (λ (t : Tally). t.last) counted;
  };
  writes = ap (λ (t : Tally). t.writes) rose ∙ ap (λ (t : Tally). t.writes) counted;
  syncs = ap (λ (t : Tally). t.syncs) rose ∙ ap (λ (t : Tally). t.syncs) counted;
}

pub failed_sync : {T : Type 0} (side : Side) (failed : DiskFailed) (s0 s1 : List Step) (t0 t1 t2 : Tally) (r : ℕ) → t1 ≡ record t0 { last = Some (call.Sync side); calls = bump t0.calls; syncs = bump t0.syncs } → t2 ≡ record t1 { faults = bump t1.faults; refused = r } → t1.faults ≤ t2.faults
    → IsSync {T = T} side (Err failed) (told_at s0 t0) (told_at s1 t2)
failed_sync side failed s0 s1 t0 t1 t2 r counted rose later = record {
  counted = record {
    honest = refl;
    faults = faults failed t0 t1 t2 r (ap (λ (t : Tally). t.faults) counted) rose later;
    calls = ap (λ (t : Tally). t.calls) rose ∙ ap (λ (t : Tally). t.calls) counted;
    last = ap (λ (t : Tally). t.last) rose ∙ ap (λ (t : Tally). t.last) counted;
  };
  writes = ap (λ (t : Tally). t.writes) rose ∙ ap (λ (t : Tally). t.writes) counted;
  syncs = ap (λ (t : Tally). t.syncs) rose ∙ ap (λ (t : Tally). t.syncs) counted;
}
