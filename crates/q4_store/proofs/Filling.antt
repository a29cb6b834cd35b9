-- The bytes of a side that is being filled.
use Rattle.std.proofs.Common.{◌≡◌, ℕ, ◌+◌, ◌-◌, ◌≤◌, List, [], ◌∷◌, ◌++◌, length, take, drop, sym, ◌∙◌, ap, subst, arith, length-append, length-drop}
use Rattle.std.proofs.lemmas.List.{length-take}
use Rattle.q4_value.specs.declared.column.Column.{Column}
use Rattle.q4_table.specs.TableState.{TableState}
use Rattle.q4_record.specs.Side.{OwnSide}
use Rattle.q4_disk.specs.declared.disk.Side.{Side}
use Rattle.q4_disk.specs.Told.{Sides, Told}
use Rattle.q4_disk.specs.Images.{on, other, put, written, Within}
use Rattle.q4_disk.specs.Time.{OtherStays}
use Rattle.q4_disk.specs.inner.Laws.{on_put, other_put}
use Rattle.q4_store.specs.Reading.{IsBehind}
use Rattle.q4_store.specs.Parts.{IsShut, IsFilled, opened}

-- a side that was written on has at least the bytes before
pub as_long : (side : Side) (old new : Sides) (place : ℕ) (last : List ℕ) → place ≤ length (on side old) → new ≡ put side (written (on side old) place last) old → place ≤ length (on side new)
as_long side old new place last fits is =
    let e : length (on side new) ≡ length (written (on side old) place last) = ap (λ s. length (on side s)) is ∙ ap length (on_put side (written (on side old) place last) old) in
    omega (arith, e, fits, length-take place (on side old), length-append (take place (on side old)) (last ++ drop (place + length last) (on side old)))

-- and so a first byte
pub long_written : (side : Side) (old new : Sides) (place : ℕ) (last : List ℕ) → 1 ≤ place → place ≤ length (on side old) → new ≡ put side (written (on side old) place last) old → 1 ≤ length (on side new)
long_written side old new place last late fits is = let long = as_long side old new place last fits is in omega (arith, late, long)

written_length : (old : List ℕ) (place : ℕ) (last : List ℕ) → place ≤ length old → length (written old place last) ≡ place + (length last + (length old - (place + length last)))
written_length old place last fits =
    omega (arith, length-take place old, fits, length-append (take place old) (last ++ drop (place + length last) old), length-append last (drop (place + length last) old), length-drop (place + length last) old)

-- a batch behind the end, and a byte in front of it
pub long_landed : (old new : List ℕ) (end : ℕ) (batch : List ℕ) → 1 ≤ end → end ≤ length old → new ≡ written (written old end batch) (end - 1) (1 ∷ []) → end + length batch ≤ length new
long_landed old new end batch some fits is =
    let first = written old end batch in
    let long : end + length batch ≤ length first = omega (arith, written_length old end batch fits) in
    omega (arith, long, some, ap length is, written_length first (end - 1) (1 ∷ []) (omega (arith, long)))

-- what is read of a side after two writes and a sync
pub twice_written : (side : Side) (old one two three : Sides) (at place : ℕ) (last header : List ℕ) → one ≡ put side (written (on side old) at last) old → two ≡ put side (written (on side one) place header) one → three ≡ two
    → on side three ≡ written (written (on side old) at last) place header
twice_written side old one two three at place last header first second same =
    ap (on side) same ∙ ap (on side) second ∙ on_put side (written (on side one) place header) one ∙ ap (λ (l : List ℕ). written l place header) (ap (on side) first ∙ on_put side (written (on side old) at last) old)

-- where that is with an open gate a side of a table, the table is there but for its gate
pub filled_with : (old new : Told) (side : Side) (bytes : List ℕ) (columns : List Column) (table : TableState) (generation len : ℕ) → on side new.bytes ≡ bytes → OwnSide columns (opened bytes) table generation len → IsShut (on side new.bytes)
    → Within new.images (λ c. on side c ≡ on side new.bytes) → OtherStays side old new → Within old.images (λ c. IsBehind generation (on (other side) c)) → IsFilled new side columns table generation len
filled_with old new side bytes columns table generation len is stands shut only stays behind = record {
  shut = shut;
  only = only;
  stands = subst (λ (l : List ℕ). OwnSide columns (opened l) table generation len) (sym is) stands;
  behind = λ c left. let from = stays.each c left in subst (IsBehind generation) (sym from.2) (behind from.0 from.1);
}

-- a write leaves what is read of the other side
pub there_written : (side : Side) (bytes : List ℕ) (old new : Sides) → new ≡ put side bytes old → on (other side) new ≡ on (other side) old
there_written side bytes old new is = ap (on (other side)) is ∙ other_put side bytes old
