-- What is picked is an image.
use Rattle.std.proofs.Common.{◌≡◌, ℕ, ◌+◌, ◌-◌, ◌/◌, ◌<◌, ◌≤◌, ◌==◌, min, Bool, true, false, if◌then◌else◌, List, [], ◌∷◌, ◌++◌, length, take, drop, replicate, refl, sym, ◌∙◌, ap, subst, arith, append_assoc, length-append, suc, zero}
use Rattle.std.proofs.lemmas.List.{take_at, drop_at, length-take, length-drop, length-replicate, drop-drop}
use Rattle.q4_disk.specs.declared.disk.Side.{Side}
use Rattle.q4_disk.specs.declared.disk.Side.TheVariants.{A, B}
use Rattle.q4_disk.specs.declared.history.Step.{Step}
use Rattle.q4_disk.specs.declared.history.Step.TheVariants.{Write, CutTo, Sync}
use Rattle.q4_disk.specs.declared.pick.Pick.{Pick}
use Rattle.q4_disk.specs.declared.pick.Pick.TheVariants.{Kept, Lost, Half, Ones}
use Rattle.q4_disk.specs.Images.{on, put, Torn, Cut}
use Rattle.q4_disk.specs.Replay.{side_of, place, Leaves, read_after, IsImage}
use Rattle.q4_disk.specs.Picked.{over, half, of_write, of_cut, picks, picked}
use Rattle.q4_disk.specs.inner.Laws.{on_put, other_put, torn_none, cut_whole, cut_none}
use Rattle.q4_disk.proofs.Mixed.{mix}

-- fewer bytes than the range has, or as many, at its offset
torn_over : (old : List ℕ) (at n : ℕ) (bytes : List ℕ) → length bytes ≤ n → Torn at n old (over old at bytes)
torn_over old at n bytes le =
    let tail = drop (at + length bytes) old in
    let head = take at old ++ (replicate (at - length old) 0 ++ bytes) in
    let kept : length (take at old) ≡ min at (length old) = length-take at old in
    let size : length head ≡ at + length bytes = omega (arith, kept, length-append (take at old) (replicate (at - length old) 0 ++ bytes), length-append (replicate (at - length old) 0) bytes, length-replicate {A = ℕ} (at - length old) 0) in
    let size_tail : length tail ≡ length old - (at + length bytes) = length-drop (at + length bytes) old in
    let all : length (over old at bytes) ≡ at + length bytes + length tail = omega (arith, size, length-append head tail) in
    let more = n - length bytes in
    let far : at + n ≡ (at + length bytes) + more = omega (arith, le) in
    record {
      before = ap (take (min at (length old))) (append_assoc (take at old) (replicate (at - length old) 0 ++ bytes) tail) ∙ take_at (take at old) ((replicate (at - length old) 0 ++ bytes) ++ tail) (min at (length old)) kept;
      after = ap (λ (k : ℕ). drop k (over old at bytes)) far ∙ sym (drop-drop more (at + length bytes) (over old at bytes)) ∙ ap (drop more) (drop_at head tail (at + length bytes) size) ∙ drop-drop more (at + length bytes) old ∙ ap (λ (k : ℕ). drop k old) (sym far);
      no_shorter = omega (arith, all, size_tail);
      no_longer = omega (arith, all, size_tail, le);
    }

torn_if : (b : Bool) (old : List ℕ) (at n : ℕ) (bytes : List ℕ) → length bytes ≤ n → Torn at n old (if b then old else over old at bytes)
torn_if true old at n bytes le = torn_none at n old
torn_if false old at n bytes le = torn_over old at n bytes le

torn_of : (pick : Pick) (old : List ℕ) (at : ℕ) (bytes : List ℕ) → Torn at (length bytes) old (of_write pick old at bytes)
torn_of Kept old at bytes = torn_over old at (length bytes) bytes (omega arith)
torn_of Lost old at bytes = torn_none at (length bytes) old
torn_of Half old at bytes = torn_if (length (half bytes) == 0) old at (length bytes) (half bytes) (omega (arith, length-take (length bytes / 2) bytes))
torn_of Ones old at bytes = torn_over old at (length bytes) (replicate (length bytes) 1) (omega (arith, length-replicate {A = ℕ} (length bytes) 1))

take_front : (n : ℕ) (d y : List ℕ) → (length d < n → y ≡ []) → take n (take n d ++ y) ≡ take n d
take_front zero d y h = refl
take_front (suc n) [] y h = ap (take (suc n)) (h (omega arith))
take_front (suc n) (x ∷ d) y h = ap (λ (l : List ℕ). x ∷ l) (take_front n d y (λ lt. h (omega (arith, lt))))

cut_of : (pick : Pick) (old : List ℕ) (n : ℕ) → Cut n old (of_cut pick old n)
cut_of Kept old n = cut_whole n old
cut_of Lost old n = cut_none n old
cut_of Half old n = cut_whole n old
cut_of Ones old n = record {
  front = take_front n old (replicate (length old - n) 1) (λ lt. let e : length old - n ≡ 0 = omega (arith, lt) in ap (λ (k : ℕ). replicate k 1) e);
  no_longer = omega (arith, length-append (take n old) (replicate (length old - n) 1), length-take n old, length-replicate {A = ℕ} (length old - n) 1);
}

leaves_pick : (pick : Pick) (step : Step) (seen old : List ℕ) → Leaves step seen old (picks pick step seen old)
leaves_pick pick (Write side at bytes done) seen old = torn_of pick old (place seen at) bytes
leaves_pick pick (CutTo side to done) seen old = cut_of pick old to
leaves_pick pick (Sync side) seen old = refl

-- each pick of a record is one of its images
pub picked_image : (pick : Pick) (steps : List Step) → IsImage steps (picked pick steps)
picked_image pick [] = refl
picked_image pick (step ∷ earlier) =
    let side = side_of step in
    let seen = on side (read_after earlier) in
    let old = on side (picked pick earlier) in (
      picked pick earlier,
      picked_image pick earlier,
      record {
        here = subst (λ (l : List ℕ). Leaves step seen old l) (sym (on_put side (picks pick step seen old) (picked pick earlier))) (leaves_pick pick step seen old);
        there = other_put side (picks pick step seen old) (picked pick earlier);
      },
    )

-- and so is one side of one pick with the other side of another
pub pair_image : (side : Side) (pick there : Pick) (steps : List Step) → IsImage steps (put side (on side (picked pick steps)) (picked there steps))
pair_image A pick there steps = mix steps (picked pick steps) (picked there steps) (picked_image pick steps) (picked_image there steps)
pair_image B pick there steps = mix steps (picked there steps) (picked pick steps) (picked_image there steps) (picked_image pick steps)
