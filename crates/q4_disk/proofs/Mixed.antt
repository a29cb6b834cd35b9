-- The images of the two sides don't depend on each other.
use Rattle.std.proofs.Common.{◌≡◌, ℕ, List, [], ◌∷◌, refl}
use Rattle.q4_disk.specs.declared.disk.Side.{Side}
use Rattle.q4_disk.specs.declared.disk.Side.TheVariants.{A, B}
use Rattle.q4_disk.specs.declared.history.Step.{Step}
use Rattle.q4_disk.specs.Told.{Sides}
use Rattle.q4_disk.specs.Images.{on, put, both, Sided}
use Rattle.q4_disk.specs.Replay.{side_of, Leaves, read_after, IsImage}
use Rattle.q4_disk.specs.inner.Laws.{reads_image}

pub put_same : (side : Side) (s : Sides) → put side (on side s) s ≡ s
put_same A s = refl
put_same B s = refl

-- what comes of a side that is these bytes, and the other side as it was
pub sided_put : (side : Side) (x : List ℕ) (d c : Sides) → Sided side (λ old new. new ≡ x) d c → c ≡ put side x d
sided_put A x d c is = λ i. record { a = is.here i; b = is.there i }
sided_put B x d c is = λ i. record { a = is.there i; b = is.here i }

-- a step of one side, where the images are taken apart
sided_mix : (side : Side) (P : List ℕ → List ℕ → Type 0) (c d c0 d0 : Sides) → Sided side P c0 c → Sided side P d0 d → Sided side P (both c0.a d0.b) (both c.a d.b)
sided_mix A P c d c0 d0 first second = record { here = first.here; there = second.there }
sided_mix B P c d c0 d0 first second = record { here = second.here; there = first.there }

-- one image's side A with another's side B
pub mix : (steps : List Step) (c d : Sides) → IsImage steps c → IsImage steps d → IsImage steps (both c.a d.b)
mix [] c d ic id = λ i. record { a = (ic i).a; b = (id i).b }
mix (step ∷ earlier) c d ic id =
    (both ic.0.a id.0.b, mix earlier ic.0 id.0 ic.1 id.1, sided_mix (side_of step) (Leaves step (on (side_of step) (read_after earlier))) c d ic.0 id.0 ic.2 id.2)

-- so an image stays one where a side is put to what is read
pub put_read : (steps : List Step) (side : Side) (d : Sides) → IsImage steps d → IsImage steps (put side (on side (read_after steps)) d)
put_read steps A d im = mix steps (read_after steps) d (reads_image steps) im
put_read steps B d im = mix steps d (read_after steps) im (reads_image steps)
