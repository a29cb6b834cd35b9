-- One more call in a record.
use Rattle.std.proofs.Common.{◌≡◌, ℕ, ◌≤◌, ◌⊎◌, Bool, true, false, List, ◌∷◌, length, take, Result, Ok, Err, IsErr, OnOk, OnErr, refl, sym, ◌∙◌, ap, subst, inl, inr, arith}
use Rattle.q4_disk.specs.declared.disk.Side.{Side}
use Rattle.q4_disk.specs.declared.disk.DiskFailed.{DiskFailed}
use Rattle.q4_disk.specs.declared.history.Step.{Step}
use Rattle.q4_disk.specs.declared.history.Step.TheVariants.{Write, CutTo, Sync}
use Rattle.q4_disk.specs.declared.tally.Tally.{Tally}
use Rattle.q4_disk.specs.Told.{Sides, Told}
use Rattle.q4_disk.specs.Images.{on, put, written, Torn, Cut, Sided}
use Rattle.q4_disk.specs.Time.{Elapses}
use Rattle.q4_disk.specs.Calls.{Steps, Wrote, DidCut, Synced}
use Rattle.q4_disk.specs.Replay.{side_of, place, reads, Leaves, read_after, IsImage}
use Rattle.q4_disk.specs.Memory.{told_of}
use Rattle.q4_disk.specs.inner.Laws.{on_put, other_put, torn_none, cut_none}
use Rattle.q4_disk.proofs.Mixed.{put_same, sided_put, put_read}

abbrev pub told_at : List Step → Tally → Told
told_at steps tally = told_of (record { steps = steps; tally = tally })

turned : {P Q R : Type 0} → P ⊎ (Q × R) → R ⊎ P
turned (inl now) = inr now
turned (inr before) = inl before.1

pub elapses : (steps : List Step) (step : Step) (t0 t1 : Tally) → Elapses (told_at steps t0) (told_at (step ∷ steps) t1)
elapses steps step t0 t1 = record {
  later = omega arith;
  nothing_else = λ t c le left. turned left;
  keeps = λ t c le left. inr (le, left);
}

stands : (steps : List Step) (t0 t1 : Tally) → Elapses (told_at steps t0) (told_at steps t1)
stands steps t0 t1 = record { later = omega arith; nothing_else = λ t c le left. inl left; keeps = λ t c le left. left }

no_ok : {T E : Type 0} (result : Result T E) (P : Type 0) → IsErr result → OnOk result P
no_ok (Ok x) P failed = absurd (cc failed)
no_ok (Err e) P failed = tt

on_err : {T E : Type 0} (result : Result T E) {P : Type 0} → P → OnErr result P
on_err (Ok x) p = tt
on_err (Err e) p = p

on_ok : {T E : Type 0} (result : Result T E) {P : Type 0} → P → OnOk result P
on_ok (Ok x) p = p
on_ok (Err e) p = tt

map_ok : {T E : Type 0} (result : Result T E) {P Q : Type 0} → (P → Q) → OnOk result P → OnOk result Q
map_ok (Ok x) f p = f p
map_ok (Err e) f p = tt

map_err : {T E : Type 0} (result : Result T E) {P Q : Type 0} → (P → Q) → OnErr result P → OnErr result Q
map_err (Ok x) f p = tt
map_err (Err e) f p = f p

-- what is read after a call that failed and left it as it was
sided_same : (side : Side) (R : List ℕ → List ℕ → Type 0) (old new : Sides) → R (on side old) (on side old) → new ≡ old → Sided side R old new
sided_same side R old new none is = subst (Sided side R old) (sym is) (record { here = none; there = refl })

-- a write or a cut that stands in the record
stepped : {T E : Type 0} (result : Result T E) (steps : List Step) (step : Step) (t0 t1 : Tally) (R : List ℕ → List ℕ → Type 0) (after : List ℕ)
    → ((old new : List ℕ) → Leaves step (on (side_of step) (read_after steps)) old new → R old new)
    → ((old new : List ℕ) → R old new → Leaves step (on (side_of step) (read_after steps)) old new)
    → ((old : List ℕ) → R old old)
    → OnOk result (reads step (on (side_of step) (read_after steps)) ≡ after)
    → OnErr result (reads step (on (side_of step) (read_after steps)) ≡ on (side_of step) (read_after steps))
    → Steps (side_of step) R after result (told_at steps t0) (told_at (step ∷ steps) t1)
stepped result steps step t0 t1 R after no_more no_fewer none done failed = record {
  time = elapses steps step t0 t1;
  done = map_ok result (λ is. ap (λ (l : List ℕ). put (side_of step) l (read_after steps)) is) done;
  failed = map_err result (λ is. sided_same (side_of step) R (read_after steps) (read_after (step ∷ steps)) (none (on (side_of step) (read_after steps))) (ap (λ (l : List ℕ). put (side_of step) l (read_after steps)) is ∙ put_same (side_of step) (read_after steps))) failed;
  images = λ c im. (im.0, im.1, record { here = no_more (on (side_of step) im.0) (on (side_of step) c) im.2.here; there = im.2.there });
  each = on_ok result (λ d c im is. (d, im, record { here = no_fewer (on (side_of step) d) (on (side_of step) c) is.here; there = is.there }));
  kept = λ c im. (c, im, record { here = no_fewer (on (side_of step) c) (on (side_of step) c) (none (on (side_of step) c)); there = refl });
}

-- an offset within what is read is the place of a write
placed : (seen : List ℕ) (at : ℕ) → at ≤ length seen → place seen at ≡ at
placed seen at le = omega (arith, le)

wrote_at : {T E : Type 0} (result : Result T E) (steps : List Step) (t0 t1 : Tally) (side : Side) (at : ℕ) (bytes : List ℕ) (done : Bool) → at ≤ length (on side (read_after steps))
    → OnOk result (reads (Write side at bytes done) (on side (read_after steps)) ≡ written (on side (read_after steps)) at bytes)
    → OnErr result (reads (Write side at bytes done) (on side (read_after steps)) ≡ on side (read_after steps))
    → Wrote side at bytes result (told_at steps t0) (told_at (Write side at bytes done ∷ steps) t1)
wrote_at result steps t0 t1 side at bytes done le is_done is_failed =
    let here = placed (on side (read_after steps)) at le in
    stepped result steps (Write side at bytes done) t0 t1 (Torn at (length bytes)) (written (on side (read_after steps)) at bytes)
    (λ old new torn. subst (λ (k : ℕ). Torn k (length bytes) old new) here torn)
    (λ old new torn. subst (λ (k : ℕ). Torn k (length bytes) old new) (sym here) torn)
    (λ old. torn_none at (length bytes) old)
    is_done is_failed

-- a write, a cut or a sync that failed and left no step
unmoved : {T E : Type 0} (result : Result T E) (steps now : List Step) (t0 t1 : Tally) (side : Side) (R : List ℕ → List ℕ → Type 0) (after : List ℕ) → IsErr result → now ≡ steps → ((old : List ℕ) → R old old)
    → Steps side R after result (told_at steps t0) (told_at now t1)
unmoved result steps now t0 t1 side R after failed is none =
    subst (λ (l : List Step). Steps side R after result (told_at steps t0) (told_at l t1)) (sym is) (record {
      time = stands steps t0 t1;
      done = no_ok result _ failed;
      failed = on_err result (record { here = none (on side (read_after steps)); there = refl });
      images = λ c im. (c, im, record { here = none (on side c); there = refl });
      each = no_ok result _ failed;
      kept = λ c im. im;
    })

pub no_write : (result : Result (Unit {0}) DiskFailed) (steps now : List Step) (t0 t1 : Tally) (side : Side) (at : ℕ) (bytes : List ℕ) → IsErr result → now ≡ steps → Wrote side at bytes result (told_at steps t0) (told_at now t1)
no_write result steps now t0 t1 side at bytes failed is = unmoved result steps now t0 t1 side (Torn at (length bytes)) (written (on side (read_after steps)) at bytes) failed is (torn_none at (length bytes))

pub no_cut : (result : Result (Unit {0}) DiskFailed) (steps now : List Step) (t0 t1 : Tally) (side : Side) (to : ℕ) → IsErr result → now ≡ steps → DidCut side to result (told_at steps t0) (told_at now t1)
no_cut result steps now t0 t1 side to failed is = unmoved result steps now t0 t1 side (Cut to) (take to (on side (read_after steps))) failed is (cut_none to)

pub no_sync : (result : Result (Unit {0}) DiskFailed) (steps now : List Step) (t0 t1 : Tally) (side : Side) → IsErr result → now ≡ steps → Synced side result (told_at steps t0) (told_at now t1)
no_sync result steps now t0 t1 side failed is =
    subst (λ (l : List Step). Synced side result (told_at steps t0) (told_at l t1)) (sym is) (record {
      time = stands steps t0 t1;
      bytes = refl;
      images = λ c im. im;
      durable = no_ok result _ failed;
      kept = no_ok result _ failed;
      failed = on_err result (λ c im. im);
    })

-- a write that was done
pub wrote : (steps now : List Step) (t0 t1 : Tally) (side : Side) (at : ℕ) (bytes : List ℕ) → at ≤ length (on side (read_after steps)) → now ≡ Write side at bytes true ∷ steps
    → Wrote {T = Unit {0}} {E = DiskFailed} side at bytes (Ok tt) (told_at steps t0) (told_at now t1)
wrote steps now t0 t1 side at bytes le is =
    let seen = on side (read_after steps) in
    subst (λ (l : List Step). Wrote {T = Unit {0}} {E = DiskFailed} side at bytes (Ok tt) (told_at steps t0) (told_at l t1)) (sym is)
    (wrote_at (Ok tt) steps t0 t1 side at bytes true le (ap (λ (k : ℕ). written seen k bytes) (placed seen at le)) tt)

-- a write that was cut off
pub began_write : (steps now : List Step) (t0 t1 : Tally) (failed : DiskFailed) (side : Side) (at : ℕ) (bytes : List ℕ) → at ≤ length (on side (read_after steps)) → now ≡ Write side at bytes false ∷ steps
    → Wrote {T = Unit {0}} {E = DiskFailed} side at bytes (Err failed) (told_at steps t0) (told_at now t1)
began_write steps now t0 t1 failed side at bytes le is =
    subst (λ (l : List Step). Wrote {T = Unit {0}} {E = DiskFailed} side at bytes (Err failed) (told_at steps t0) (told_at l t1)) (sym is)
    (wrote_at (Err failed) steps t0 t1 side at bytes false le tt refl)

-- a cut that was done
pub did_cut : (steps now : List Step) (t0 t1 : Tally) (side : Side) (to : ℕ) → now ≡ CutTo side to true ∷ steps
    → DidCut {T = Unit {0}} {E = DiskFailed} side to (Ok tt) (told_at steps t0) (told_at now t1)
did_cut steps now t0 t1 side to is =
    subst (λ (l : List Step). DidCut {T = Unit {0}} {E = DiskFailed} side to (Ok tt) (told_at steps t0) (told_at l t1)) (sym is)
    (stepped (Ok tt) steps (CutTo side to true) t0 t1 (Cut to) (take to (on side (read_after steps))) (λ old new is_cut. is_cut) (λ old new is_cut. is_cut) (cut_none to) refl tt)

-- a cut that was cut off
pub began_cut : (steps now : List Step) (t0 t1 : Tally) (failed : DiskFailed) (side : Side) (to : ℕ) → now ≡ CutTo side to false ∷ steps
    → DidCut {T = Unit {0}} {E = DiskFailed} side to (Err failed) (told_at steps t0) (told_at now t1)
began_cut steps now t0 t1 failed side to is =
    subst (λ (l : List Step). DidCut {T = Unit {0}} {E = DiskFailed} side to (Err failed) (told_at steps t0) (told_at l t1)) (sym is)
    (stepped (Err failed) steps (CutTo side to false) t0 t1 (Cut to) (take to (on side (read_after steps))) (λ old new is_cut. is_cut) (λ old new is_cut. is_cut) (cut_none to) tt refl)

-- a sync that was done
pub synced : (steps now : List Step) (t0 t1 : Tally) (side : Side) → now ≡ Sync side ∷ steps
    → Synced {T = Unit {0}} {E = DiskFailed} side (Ok tt) (told_at steps t0) (told_at now t1)
synced steps now t0 t1 side is =
    let seen = read_after steps in
    subst (λ (l : List Step). Synced {T = Unit {0}} {E = DiskFailed} side (Ok tt) (told_at steps t0) (told_at l t1)) (sym is) (record {
      time = elapses steps (Sync side) t0 t1;
      bytes = put_same side seen;
      images = λ c im. subst (IsImage steps) (sym (sided_put side (on side seen) im.0 c im.2)) (put_read steps side im.0 im.1);
      durable = λ c im. im.2.here;
      kept = λ c im. (c, im, record { here = on_put side (on side seen) c; there = other_put side (on side seen) c });
      failed = tt;
    })
