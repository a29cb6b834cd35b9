-- What a loop over pieces has read or written so far.
use Rattle.std.proofs.Common.{◌≡◌, ◌⊎◌, ℕ, ◌+◌, ◌-◌, ◌≤◌, List, [], ◌++◌, length, take, drop, refl, sym, ◌∙◌, ap, subst, inl, inr, arith, append_assoc, length-append}
use Rattle.std.proofs.lemmas.List.{take_at, take_all, drop_at, drop_all, append-nil, length-take, length-drop, drop-drop, take-append-drop}
use Rattle.std.proofs.Math.Logic.{⊎_elim}
use Rattle.std.proofs.Math.Seq.{take-add}
use borrow.Rule.Slice.PartMut.{mid_of, put_mid}
use Rattle.q4_disk.specs.Images.{written}
use Rattle.q4_disk.specs.Pieces.{FileView, file_after_write, IsPiece, IsWholeRead}
use Rattle.q4_disk.proofs.Ranges.{written_at}

-- what was read stands in front of what the slice held
pub record HasRead (bytes : List ℕ) (at : ℕ) (before now : List ℕ) (done : ℕ) : Type 0 where
  pub room : done ≤ length before
  pub within : done ≤ length bytes - at
  pub into : now ≡ take done (drop at bytes) ++ drop done before

front_size : (bytes : List ℕ) (at d : ℕ) → d ≤ length bytes - at → length (take d (drop at bytes)) ≡ d
front_size bytes at d within = omega (arith, within, length-take d (drop at bytes), length-drop at bytes)

pub read_none : (bytes : List ℕ) (at : ℕ) (before : List ℕ) → HasRead bytes at before before 0
read_none bytes at before = record { room = omega arith; within = omega arith; into = refl }

pub read_length : (bytes : List ℕ) (at : ℕ) (before now : List ℕ) (d : ℕ) → HasRead bytes at before now d → length now ≡ length before
read_length bytes at before now d so_far =
    omega (arith, ap length so_far.into, length-append (take d (drop at bytes)) (drop d before), front_size bytes at d so_far.within, length-drop d before, so_far.room)

-- one piece more
pub read_more : (bytes : List ℕ) (at : ℕ) (before now piece : List ℕ) (d n : ℕ) → HasRead bytes at before now d → IsPiece bytes (at + d) (drop d now) piece n → n ≤ length (drop d now) → HasRead bytes at before (take d now ++ piece) (d + n)
read_more bytes at before now piece d n so_far is fits =
    let xs = drop at bytes in
    let size = front_size bytes at d so_far.within in
    let front : take d now ≡ take d xs = ap (take d) so_far.into ∙ take_at (take d xs) (drop d before) d size in
    let back : drop d now ≡ drop d before = ap (drop d) so_far.into ∙ drop_at (take d xs) (drop d before) d size in
    let behind : drop n (drop d now) ≡ drop (d + n) before = ap (drop n) back ∙ drop-drop n d before in
    let given : piece ≡ take n (drop d xs) ++ drop (d + n) before = is.into ∙ ap (λ (l : List ℕ). take n l ++ drop n (drop d now)) (sym (drop-drop d at bytes)) ∙ ap (λ (l : List ℕ). take n (drop d xs) ++ l) behind in
    record {
      room = omega (arith, so_far.room, fits, ap length back, length-drop d before);
      within = omega (arith, so_far.within, is.within);
      into = ap (λ (l : List ℕ). l ++ piece) front ∙ ap (λ (l : List ℕ). take d xs ++ l) given ∙ sym (append_assoc (take d xs) (take n (drop d xs)) (drop (d + n) before)) ∙ ap (λ (l : List ℕ). l ++ drop (d + n) before) (sym (take-add d n xs));
    }

-- the part of the slice behind what was read
part_is : (d : ℕ) (now : List ℕ) → mid_of d (length now - d) now ≡ drop d now
part_is d now = take_all (length now - d) (drop d now) (omega (arith, length-drop d now))

part_put : (d : ℕ) (now piece : List ℕ) → put_mid d (length now - d) now piece ≡ take d now ++ piece
part_put d now piece =
    ap (λ (l : List ℕ). take d now ++ (piece ++ l)) (drop_all (length now - d) (drop d now) (omega (arith, length-drop d now))) ∙ ap (λ (l : List ℕ). take d now ++ l) (append-nil piece)

pub part_room : (d n : ℕ) (now : List ℕ) → d ≤ length now → n ≤ length (mid_of d (length now - d) now) → d + n ≤ length now
part_room d n now le fits = omega (arith, le, fits, ap length (part_is d now), length-drop d now)

pub read_more_at : (bytes : List ℕ) (at : ℕ) (before now piece : List ℕ) (d n : ℕ) → HasRead bytes at before now d → IsPiece bytes (at + d) (mid_of d (length now - d) now) piece n → n ≤ length (mid_of d (length now - d) now) → HasRead bytes at before (put_mid d (length now - d) now piece) (d + n)
read_more_at bytes at before now piece d n so_far is fits =
    subst (λ (l : List ℕ). HasRead bytes at before l (d + n)) (sym (part_put d now piece))
    (read_more bytes at before now piece d n so_far (subst (λ (l : List ℕ). IsPiece bytes (at + d) l piece n) (part_is d now) is) (subst (λ (l : List ℕ). n ≤ length l) (part_is d now) fits))

-- a read that failed left the slice
pub read_again : (bytes : List ℕ) (at : ℕ) (before now piece : List ℕ) (d : ℕ) → HasRead bytes at before now d → piece ≡ drop d now → HasRead bytes at before (take d now ++ piece) d
read_again bytes at before now piece d so_far kept =
    record { room = so_far.room; within = so_far.within; into = ap (λ (l : List ℕ). take d now ++ l) kept ∙ take-append-drop d now ∙ so_far.into }

pub read_again_at : (bytes : List ℕ) (at : ℕ) (before now piece : List ℕ) (d : ℕ) → HasRead bytes at before now d → piece ≡ mid_of d (length now - d) now → HasRead bytes at before (put_mid d (length now - d) now piece) d
read_again_at bytes at before now piece d so_far kept =
    subst (λ (l : List ℕ). HasRead bytes at before l d) (sym (part_put d now piece)) (read_again bytes at before now piece d so_far (kept ∙ part_is d now))

-- the slice is full, or the bytes are at their end
pub read_whole : (bytes : List ℕ) (at : ℕ) (before now : List ℕ) (d : ℕ) → HasRead bytes at before now d → (length now ≤ d) ⊎ (length bytes ≤ at + d) → IsWholeRead bytes at before now d
read_whole bytes at before now d so_far end = record {
  count = omega (arith, so_far.room, so_far.within, read_length bytes at before now d so_far, end);
  into = so_far.into;
}

-- the last read gave nothing
pub read_end : (bytes : List ℕ) (at : ℕ) (before now piece : List ℕ) (d : ℕ) → HasRead bytes at before now d → IsPiece bytes (at + d) (drop d now) piece 0 → HasRead bytes at before (take d now ++ piece) d × ((length (take d now ++ piece) ≤ d) ⊎ (length bytes ≤ at + d))
read_end bytes at before now piece d so_far is =
    let more = read_again bytes at before now piece d so_far is.into in
    let same : length (take d now ++ piece) ≡ length now = read_length bytes at before (take d now ++ piece) d more ∙ sym (read_length bytes at before now d so_far) in
    (more, ⊎_elim (λ full. inl (omega (arith, full, length-drop d now, same))) (λ end. inr end) (is.none refl))

pub written_none : (bytes : List ℕ) (at : ℕ) → written bytes at [] ≡ bytes
written_none bytes at = ap (λ (k : ℕ). take at bytes ++ drop k bytes) (omega arith) ∙ take-append-drop at bytes

-- one piece more
pub written_more : (bytes : List ℕ) (at : ℕ) (x y : List ℕ) → at ≤ length bytes → written (written bytes at x) (at + length x) y ≡ written bytes at (x ++ y)
written_more bytes at x y le =
    let front = take at bytes ++ x in
    let tail = drop (at + length x) bytes in
    let size : length front ≡ at + length x = omega (arith, le, length-append (take at bytes) x, length-take at bytes) in
    let rest : drop (length y) tail ≡ drop (at + length (x ++ y)) bytes = drop-drop (length y) (at + length x) bytes ∙ ap (λ (k : ℕ). drop k bytes) (omega (arith, length-append x y)) in
    ap (λ (l : List ℕ). written l (at + length x) y) (sym (append_assoc (take at bytes) x tail))
    ∙ written_at front tail y (at + length x) size
    ∙ append_assoc (take at bytes) x (y ++ drop (length y) tail)
    ∙ ap (λ (l : List ℕ). take at bytes ++ l) (sym (append_assoc x y (drop (length y) tail)) ∙ ap (λ (l : List ℕ). (x ++ y) ++ l) rest)

-- a piece of what comes next
pub written_piece : (bytes : List ℕ) (at : ℕ) (new : List ℕ) (d n : ℕ) (now : List ℕ) → at ≤ length bytes → d ≤ length new → now ≡ written (written bytes at (take d new)) (at + d) (take n (drop d new)) → now ≡ written bytes at (take (d + n) new)
written_piece bytes at new d n now le within is =
    let size : d ≡ length (take d new) = omega (arith, within, length-take d new) in
    is ∙ ap (λ (k : ℕ). written (written bytes at (take d new)) (at + k) (take n (drop d new))) size
    ∙ written_more bytes at (take d new) (take n (drop d new)) le
    ∙ ap (written bytes at) (sym (take-add d n new))

pub written_piece_at : (bytes : List ℕ) (at : ℕ) (new : List ℕ) (d n : ℕ) (mid now : List ℕ) → at ≤ length bytes → d ≤ length new → mid ≡ written bytes at (take d new) → now ≡ written mid (at + d) (take n (mid_of d (length new - d) new)) → now ≡ written bytes at (take (d + n) new)
written_piece_at bytes at new d n mid now le within so_far is =
    written_piece bytes at new d n now le within (is ∙ ap (λ (l : List ℕ). written l (at + d) (take n (mid_of d (length new - d) new))) so_far ∙ ap (λ (l : List ℕ). written (written bytes at (take d new)) (at + d) (take n l)) (part_is d new))

-- and so for all that is told of a file
pub file_piece_at : (file : FileView) (at : ℕ) (new : List ℕ) (d n : ℕ) (mid now : FileView) → at ≤ length file.bytes → d ≤ length new → mid ≡ file_after_write file at (take d new) → now ≡ file_after_write mid (at + d) (take n (mid_of d (length new - d) new)) → now ≡ file_after_write file at (take (d + n) new)
file_piece_at file at new d n mid now le within so_far is =
    let whole : FileView → List ℕ → FileView = λ f l. record { bytes = l; synced = f.synced } in
    is ∙ ap (λ (f : FileView). file_after_write f (at + d) (take n (mid_of d (length new - d) new))) so_far
    ∙ ap (λ (l : List ℕ). whole file l) (written_piece_at file.bytes at new d n (written file.bytes at (take d new)) _ le within refl refl)
