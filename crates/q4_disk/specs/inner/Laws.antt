-- The laws of the trait: of each record of calls, and of a disk of which nothing is told.
use Rattle.std.specs.Prelude.{◌≡◌, IsTrue, ℕ, ◌+◌, ◌-◌, ◌≤◌, min, true, false, List, [], ◌∷◌, ◌++◌, length, take, drop, refl}
use Rattle.std.proofs.Common.{inl, inr, sym, ◌∙◌, ap, subst, arith, append_assoc, length-append}
use Rattle.std.proofs.lemmas.List.{take_at, drop_at, take_min, take_all, length-take, length-drop}
use Rattle.q4_disk.specs.declared.disk.Side.{Side}
use Rattle.q4_disk.specs.declared.disk.Side.TheVariants.{A, B}
use Rattle.q4_disk.specs.declared.history.Step.{Step}
use Rattle.q4_disk.specs.declared.history.Step.TheVariants.{Write, CutTo, Sync}
use Rattle.q4_disk.specs.Told.{Sides}
use Rattle.q4_disk.specs.Images.{on, other, put, written, Torn, Cut}
use Rattle.q4_disk.specs.Replay.{side_of, place, reads, Leaves, read_after, IsImage, Since}

-- this moment is one of those since an earlier one
pub counts : (steps : List Step) (t : ℕ) (c : Sides) → t ≤ length steps → IsImage steps c → Since steps t c
counts [] t c le im = im
counts (step ∷ earlier) t c le im = inl im

-- since this moment there is no other
pub only : (steps : List Step) (c : Sides) → Since steps (length steps) c → IsImage steps c
only [] c left = left
only (step ∷ earlier) c (inl now) = now
only (step ∷ earlier) c (inr before) = absurd (omega (arith, before.0))

pub on_put : (side : Side) (bytes : List ℕ) (s : Sides) → on side (put side bytes s) ≡ bytes
on_put A bytes s = refl
on_put B bytes s = refl

pub other_put : (side : Side) (bytes : List ℕ) (s : Sides) → on (other side) (put side bytes s) ≡ on (other side) s
other_put A bytes s = refl
other_put B bytes s = refl

-- a write that is done is one that a crash may cut short
pub torn_whole : (old : List ℕ) (at : ℕ) (bytes : List ℕ) → at ≤ length old → Torn at (length bytes) old (written old at bytes)
torn_whole old at bytes le =
    let tail = drop (at + length bytes) old in
    let front : length (take at old) ≡ at = omega (arith, length-take at old, le) in
    let front2 : length (take at old ++ bytes) ≡ at + length bytes = omega (arith, front, length-append (take at old) bytes) in
    let sizes : length (written old at bytes) ≡ at + length bytes + length tail = omega (arith, front, length-append (take at old) (bytes ++ tail), length-append bytes tail) in
    let size_tail : length tail ≡ length old - (at + length bytes) = length-drop (at + length bytes) old in
    let least : min at (length old) ≡ at = omega (arith, le) in
    record {
      before = ap (λ (k : ℕ). take k (written old at bytes)) least ∙ take_at (take at old) (bytes ++ tail) at front;
      after = ap (λ (l : List ℕ). drop (at + length bytes) l) (sym (append_assoc (take at old) bytes tail)) ∙ drop_at (take at old ++ bytes) tail (at + length bytes) front2;
      no_shorter = omega (arith, sizes, size_tail, le);
      no_longer = omega (arith, sizes, size_tail, le);
    }

-- and so is one that left nothing
pub torn_none : (at n : ℕ) (old : List ℕ) → Torn at n old old
torn_none at n old = record { before = take_min at old; after = refl; no_shorter = omega arith; no_longer = omega arith }

pub cut_whole : (n : ℕ) (old : List ℕ) → Cut n old (take n old)
cut_whole n old = record { front = take_all n (take n old) (omega (arith, length-take n old)); no_longer = omega (arith, length-take n old) }

pub cut_none : (n : ℕ) (old : List ℕ) → Cut n old old
cut_none n old = record { front = refl; no_longer = omega arith }

place_le : (seen : List ℕ) (at : ℕ) → place seen at ≤ length seen
place_le seen at = omega arith

-- what is read after a call is among what a crash after it may leave
leaves_reads : (step : Step) (seen : List ℕ) → Leaves step seen seen (reads step seen)
leaves_reads (Write side at bytes true) seen = torn_whole seen (place seen at) bytes (place_le seen at)
leaves_reads (Write side at bytes false) seen = torn_none (place seen at) (length bytes) seen
leaves_reads (CutTo side to true) seen = cut_whole to seen
leaves_reads (CutTo side to false) seen = cut_none to seen
leaves_reads (Sync side) seen = refl

-- what is read is one of the images
pub reads_image : (steps : List Step) → IsImage steps (read_after steps)
reads_image [] = refl
reads_image (step ∷ earlier) =
    let side = side_of step in
    let seen = read_after earlier in (
      seen,
      reads_image earlier,
      record {
        here = subst (λ (l : List ℕ). Leaves step (on side seen) (on side seen) l) (sym (on_put side (reads step (on side seen)) seen)) (leaves_reads step (on side seen));
        there = other_put side (reads step (on side seen)) seen;
      },
    )

-- a disk that isn't honest owes no law
pub untold_reads : IsTrue false → ⊥
untold_reads h = absurd (cc h)
