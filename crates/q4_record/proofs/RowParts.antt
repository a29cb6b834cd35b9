-- A row that is put value by value.
use Rattle.std.proofs.Common.{◌≡◌, ℕ, ◌+◌, ◌<◌, ◌≤◌, List, [], ◌∷◌, ◌++◌, Some, None, length, get_or, take, drop, sym, ◌∙◌, ap, arith, append_assoc, length-append}
use Rattle.std.specs.List.{slice_get}
use Rattle.std.proofs.lemmas.Option.{get_or_from_slice_get, slice_get-get_or}
use Rattle.std.proofs.lemmas.List.{length-take-le}
use Rattle.q4_value.specs.declared.column.Column.{Column}
use Rattle.q4_value.specs.declared.row.Value.{Value}
use Rattle.q4_value.specs.Spelling.{cell_bytes, row_bytes}
use Rattle.q4_value.proofs.Rows.{take_next, parted, bytes_apart, bytes_push}

fronts_same : (columns : List Column) (row : List Value) (i : ℕ) → i < length columns → i < length row → length (take i columns) ≡ length (take i row)
fronts_same columns row i in_columns in_row = length-take-le i columns (omega (arith, in_columns)) ∙ sym (length-take-le i row (omega (arith, in_row)))

value_there : (row : List Value) (i : ℕ) (v : Value) → slice_get row i ≡ Some v → v ≡ get_or row i v
value_there row i v is = sym (get_or_from_slice_get row i v v is)

pub fits_next : (columns : List Column) (row : List Value) (i : ℕ) (c : Column) (v : Value) → i < length columns → i < length row → c ≡ get_or columns i c → slice_get row i ≡ Some v
    → length (row_bytes (take i columns) (take i row)) + length (cell_bytes c v) ≤ length (row_bytes columns row)
fits_next columns row i c v in_columns in_row c_is is =
    let front = row_bytes (take i columns) (take i row) in
    let rest = row_bytes (drop (i + 1) columns) (drop (i + 1) row) in
    let whole : row_bytes columns row ≡ front ++ (cell_bytes c v ++ rest) =
    (λ k. row_bytes (parted columns i c in_columns c_is k) (parted row i v in_row (value_there row i v is) k))
    ∙ bytes_apart (take i columns) (c ∷ drop (i + 1) columns) (take i row) (v ∷ drop (i + 1) row) (fronts_same columns row i in_columns in_row) in
    omega (arith, ap length whole, length-append front (cell_bytes c v ++ rest), length-append (cell_bytes c v) rest)

pub one_more : (columns : List Column) (row : List Value) (i : ℕ) (c : Column) (v : Value) (old now new : List ℕ) → i < length columns → i < length row → c ≡ get_or columns i c → slice_get row i ≡ Some v
    → now ≡ old ++ row_bytes (take i columns) (take i row) → new ≡ now ++ cell_bytes c v → new ≡ old ++ row_bytes (take (i + 1) columns) (take (i + 1) row)
one_more columns row i c v old now new in_columns in_row c_is is now_is new_is =
    new_is ∙ ap (λ (l : List ℕ). l ++ cell_bytes c v) now_is ∙ append_assoc old (row_bytes (take i columns) (take i row)) (cell_bytes c v)
    ∙ ap (λ (l : List ℕ). old ++ l) (sym (bytes_push (take i columns) (take i row) c v (sym (fronts_same columns row i in_columns in_row)))
    ∙ (λ k. row_bytes (sym (take_next columns i c in_columns c_is) k) (sym (take_next row i v in_row (value_there row i v is)) k)))

pub not_past : (row : List Value) (place : ℕ) → place < length row → slice_get row place ≡ None → ⊥
not_past [] place inside is = absurd (omega (arith, inside))
not_past (x ∷ xs) place inside is = let there = slice_get-get_or (x ∷ xs) place x inside in absurd (cc (there, is))
