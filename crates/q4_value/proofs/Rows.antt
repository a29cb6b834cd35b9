-- Rows that grow value by value beside their columns, and how large they get.
use Rattle.std.proofs.Common.{◌≡◌, ℕ, ◌+◌, ◌*◌, ◌<◌, ◌≤◌, List, [], ◌∷◌, ◌++◌, length, get_or, take, drop, refl, sym, ap, ◌∙◌, append_assoc, append-nil, arith}
use Rattle.std.specs.List.{All}
use Rattle.std.proofs.lemmas.List.{take_at, drop_at, take_more, drop_more, take-append-drop}
use Rattle.std.proofs.lemmas.List.Elements.{All-push, All-weaker}
use Rattle.std.proofs.lemmas.List.Sums.{sum_by-le}
use Rattle.q4_value.specs.declared.column.Column.{Column}
use Rattle.q4_value.specs.declared.row.Value.{Value}
use Rattle.q4_value.specs.declared.row.Value.TheVariants.{Int, Word, Null}
use Rattle.q4_value.specs.Row.{IsValue, Takes, TakeEach, IsRowOf, value_size, row_size}
use Rattle.q4_value.specs.Spelling.{cell_bytes, row_bytes}

-- one more element that was read at its place
pub take_next : {X : Type 0} (xs : List X) (i : ℕ) (x : X) → i < length xs → x ≡ get_or xs i x → take (i + 1) xs ≡ take i xs ++ x ∷ []
take_next xs i x lt is = take_more xs i x lt ∙ ap (λ y. take i xs ++ y ∷ []) (sym is)

-- a list as what is before a place, the element there, and what is after
pub parted : {X : Type 0} (xs : List X) (i : ℕ) (x : X) → i < length xs → x ≡ get_or xs i x → xs ≡ take i xs ++ x ∷ drop (i + 1) xs
parted xs i x lt is = sym (take-append-drop i xs) ∙ ap (λ ys. take i xs ++ ys) (drop_more xs i x lt ∙ ap (λ y. y ∷ drop (i + 1) xs) (sym is))

-- fronts of one length
pub append_same : {A : Type 0} (a b x y : List A) → length a ≡ length b → a ++ x ≡ b ++ y → (a ≡ b) × (x ≡ y)
append_same a b x y len e = (
  sym (take_at a x (length a) refl) ∙ ap (take (length a)) e ∙ take_at b y (length a) (sym len),
  sym (drop_at a x (length a) refl) ∙ ap (drop (length a)) e ∙ drop_at b y (length a) (sym len),
)

-- of two places in a list the earlier one lies in what is before the later one
pub place_within : {A : Type 0} (before later : List A) (x y : A) (after rest : List A) → before ++ x ∷ after ≡ later ++ y ∷ rest → length before < length later → (middle : List A) × (later ≡ before ++ x ∷ middle)
place_within [] [] x y after rest e lt = let none : ⊥ = omega arith in absurd none
place_within [] (z ∷ later) x y after rest e lt = (later, cc)
place_within (w ∷ before) [] x y after rest e lt = let none : ⊥ = omega arith in absurd none
place_within (w ∷ before) (z ∷ later) x y after rest e lt =
    let tail : before ++ x ∷ after ≡ later ++ y ∷ rest = cc in
    let below : length before < length later = omega arith in
    let deeper = place_within before later x y after rest tail below in
    let head : z ≡ w = cc in
    (deeper.0, ap (λ v. v ∷ later) head ∙ ap (λ vs. w ∷ vs) deeper.1)

-- there are as many values as columns
pub as_many : (columns : List Column) (row : List Value) → TakeEach columns row → length row ≡ length columns
as_many [] [] each = refl
as_many [] (v ∷ vs) each = absurd each
as_many (c ∷ cs) [] each = absurd each
as_many (c ∷ cs) (v ∷ vs) each = omega (arith, as_many cs vs each.1)

-- columns and values are taken front by front
pub taken_apart : (before after : List Column) (front rest : List Value) → length before ≡ length front → TakeEach (before ++ after) (front ++ rest) → TakeEach before front × TakeEach after rest
taken_apart [] after [] rest len each = (tt, each)
taken_apart [] after (v ∷ vs) rest len each = let none : ⊥ = omega (arith, len) in absurd none
taken_apart (c ∷ cs) after [] rest len each = let none : ⊥ = omega (arith, len) in absurd none
taken_apart (c ∷ cs) after (v ∷ vs) rest len each =
    let shorter : length cs ≡ length vs = omega (arith, len) in
    let deeper = taken_apart cs after vs rest shorter each.1 in ((each.0, deeper.0), deeper.1)

take_push : (columns : List Column) (row : List Value) (c : Column) (v : Value) → TakeEach columns row → Takes c v → TakeEach (columns ++ c ∷ []) (row ++ v ∷ [])
take_push [] [] c v each takes = (takes, tt)
take_push [] (w ∷ ws) c v each takes = absurd each
take_push (d ∷ ds) [] c v each takes = absurd each
take_push (d ∷ ds) (w ∷ ws) c v each takes = (each.0, take_push ds ws c v each.1 takes)

pub row_push : (columns : List Column) (row : List Value) (c : Column) (v : Value) → IsRowOf columns row → Takes c v → IsValue v → IsRowOf (columns ++ c ∷ []) (row ++ v ∷ [])
row_push columns row c v so_far takes value = record {
  taken = take_push columns row c v so_far.taken takes;
  values = All-push IsValue row v so_far.values value;
}

-- the bytes of a row front by front
pub bytes_apart : (before after : List Column) (front rest : List Value) → length before ≡ length front → row_bytes (before ++ after) (front ++ rest) ≡ row_bytes before front ++ row_bytes after rest
bytes_apart [] after [] rest len = refl
bytes_apart [] after (v ∷ vs) rest len = let none : ⊥ = omega (arith, len) in absurd none
bytes_apart (c ∷ cs) after [] rest len = let none : ⊥ = omega (arith, len) in absurd none
bytes_apart (c ∷ cs) after (v ∷ vs) rest len =
    let shorter : length cs ≡ length vs = omega (arith, len) in
    ap (λ bs. cell_bytes c v ++ bs) (bytes_apart cs after vs rest shorter) ∙ sym (append_assoc (cell_bytes c v) (row_bytes cs vs) (row_bytes after rest))

-- and of one value more
pub bytes_push : (columns : List Column) (row : List Value) (c : Column) (v : Value) → length row ≡ length columns → row_bytes (columns ++ c ∷ []) (row ++ v ∷ []) ≡ row_bytes columns row ++ cell_bytes c v
bytes_push columns row c v len = bytes_apart columns (c ∷ []) row (v ∷ []) (sym len) ∙ ap (λ bs. row_bytes columns row ++ bs) (append-nil (cell_bytes c v))

small_value : (v : Value) → IsValue v → value_size v ≤ 65539
small_value (Int number) is = omega arith
small_value (Word text) is = omega (arith, is.1)
small_value Null is = omega arith

pub small_row : (row : List Value) → All IsValue row → row_size row ≤ length row * 65539
small_row row values = sum_by-le value_size 65539 row (All-weaker IsValue (λ v. value_size v ≤ 65539) small_value row values)
