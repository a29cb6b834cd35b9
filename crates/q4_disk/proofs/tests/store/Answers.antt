use Rattle.std.proofs.Common.{◌≡◌, ℕ, List, length, Result, IsTrue, refl}
use Rattle.q4_disk.specs.declared.disk.Side.{Side}
use Rattle.q4_disk.specs.Told.{Sides, Told}
use Rattle.q4_disk.specs.Images.{on, Torn, Sided}
use Rattle.q4_disk.specs.Calls.{Wrote}
use Rattle.q4_disk.specs.inner.Laws.{torn_none}
use Rattle.q4_disk.proofs.Moments.{Along, began, wrote, synced}
use Rattle.q4_disk.proofs.tests.store.Goals as goal

-- an image of before, or one with any bytes in the range
abbrev May : Told → Side → List ℕ → Sides → Type 0
May old side bytes c = (d : Sides) × old.images d × Sided side (Torn 0 (length bytes)) d c

-- what is known after the write, whether it fails or not
after_write : {T E : Type 0} {result : Result T E} (old mid : Told) (side : Side) (bytes : List ℕ) → IsTrue old.honest → ((c : Sides) → old.since old.moment c → old.images c) → mid.honest ≡ old.honest → (IsTrue old.honest → Wrote side 0 bytes result old mid)
    → Along old mid (May old side bytes) (May old side bytes)
after_write old mid side bytes honest only_now same did =
    let whole : (c : Sides) → old.images c → May old side bytes c = λ c im. (c, im, record { here = torn_none 0 (length bytes) (on side c); there = refl }) in
    wrote old old mid (May old side bytes) old.images (May old side bytes) side 0 bytes (began old (May old side bytes) old.images honest only_now (λ c im. im) whole) same did (λ d c im is. (d, im, is)) (λ c is. is)

pub returns-in_err-write-clause-moments : goal.returns-in_err-write-clause-moments
returns-in_err-write-clause-moments g c h = (after_write _ _ c.args.side c.args.bytes.now h (g.met.D.Disk.only_now c.args.disk.now h) c.write.ensures.call.counted.honest c.write.ensures.write).only

pub returns-clause-moments : goal.returns-clause-moments
returns-clause-moments g c h =
    let so_far = after_write _ _ c.args.side c.args.bytes.now h (g.met.D.Disk.only_now c.args.disk.now h) c.write.ensures.call.counted.honest c.write.ensures.write in
    (synced _ _ _ _ _ c.args.side so_far c.sync.ensures.call.counted.honest c.sync.ensures.sync (λ s is. is)).only
