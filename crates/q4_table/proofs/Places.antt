-- The place of a number in a list by rising numbers, and lists whose numbers are all greater.
use Rattle.std.proofs.Common.{◌≡◌, ◌≢◌, ◌==◌, ◌<◌, ◌≤◌, ◌∷◌, ◌∙◌, [], List, ℕ, zero, suc, Bool, true, false, cond, not, Option, Some, None, IsSome, map, filter, length, get_or, slice_get, refl, sym, ap, arith}
use Rattle.std.specs.List.Sorted.{IsPartitionPoint}
use Rattle.std.specs.Prelude.{nat_lt}
use Rattle.std.proofs.lemmas.Bool.{ne_eqb, ltb-true, ltb-false}
use Rattle.q4_table.specs.Place.{IsPlace}
use Rattle.q4_table.specs.Valid.{RiseBelow}
use Rattle.q4_table.proofs.Lookup.{some_of}

pub none_some : {X : Type 0} (y : X) → None ≡ Some y → ⊥
none_some y is = cc is

-- Behind an element the place is one less.
pub place_tail : {X : Type 0} (key : X → ℕ) (x : X) (xs : List X) (k i : ℕ) → IsPlace key (x ∷ xs) k (suc i) → IsPlace key xs k i
place_tail key x xs k i at = record {
  inside = omega (arith, at.inside);
  before = λ j d low inside. at.before (suc j) d (omega arith) (omega (arith, inside));
  behind = λ j d low inside. at.behind (suc j) d (omega (arith, low)) (omega (arith, inside));
}

pub place_later : {X : Type 0} (key : X → ℕ) (x : X) (xs : List X) (k i : ℕ) → IsPlace key (x ∷ xs) k (suc i) → key x < k
place_later key x xs k i at = at.before 0 x (omega arith) (omega arith)

pub place_first : {X : Type 0} (key : X → ℕ) (x : X) (xs : List X) (k : ℕ) → IsPlace key (x ∷ xs) k zero → k ≤ key x
place_first key x xs k at = at.behind 0 x (omega arith) (omega arith)

-- a change of one number leaves greater ones
pub map_above : {X : Type 0} (key : X → ℕ) (f : X → X) (low next k : ℕ) (xs : List X) → ((x : X) → key x ≢ k → f x ≡ x) → k ≤ low → RiseBelow low next (map key xs) → map f xs ≡ xs
map_above key f low next k [] others small rise = refl
map_above key f low next k (x ∷ xs) others small rise =
    ap (λ y. y ∷ map f xs) (others x (λ is. omega (arith, is, rise.0, small))) ∙ ap (λ ys. x ∷ ys) (map_above key f (key x) next k xs others (omega (arith, rise.0, small)) rise.2)

pub without_above : {X : Type 0} (key : X → ℕ) (low next k : ℕ) (xs : List X) → k ≤ low → RiseBelow low next (map key xs) → filter (λ x. not (key x == k)) xs ≡ xs
without_above key low next k [] small rise = refl
without_above key low next k (x ∷ xs) small rise =
    let differs : (key x == k) ≡ false = ne_eqb (key x) k (λ is. omega (arith, is, rise.0, small)) in
    let rest = filter (λ y. not (key y == k)) xs in
    ap (λ (b : Bool). cond (not b) (x ∷ rest) rest) differs ∙ ap (λ ys. x ∷ ys) (without_above key (key x) next k xs (omega (arith, rise.0, small)) rise.2)

-- where a search ends, which asks whether a number is lesser
pub place_from : {X : Type 0} (key : X → ℕ) (k i : ℕ) (xs : List X) → i ≤ length xs → IsPartitionPoint (λ y. nat_lt (key y) k ≡ true) (λ y. nat_lt (key y) k ≡ false) xs i → IsPlace key xs k i
place_from key k i xs inside parted = record {
  inside = inside;
  before = λ j d low lt. ltb-true (key (get_or xs j d)) k (parted.0 j d low lt);
  behind = λ j d low lt. ltb-false (key (get_or xs j d)) k (parted.1 j d low lt);
}

pub get_there : {X : Type 0} (i : ℕ) (xs : List X) (y : X) → i < length xs → y ≡ get_or xs i y → slice_get xs i ≡ Some y
get_there i [] y inside is = absurd (omega (arith, inside))
get_there zero (x ∷ xs) y inside is = ap Some (sym is)
get_there (suc i) (x ∷ xs) y inside is = get_there i xs y (omega (arith, inside)) is

pub none_is : {X : Type 0} (o : Option X) → o ≡ None → IsSome o → ⊥
none_is None is some = cc some
none_is (Some x) is some = none_some x (sym is)

-- one element stands at one place
pub same_there : {X : Type 0} (i : ℕ) (xs : List X) (x y : X) → i < length xs → x ≡ get_or xs i x → y ≡ get_or xs i y → x ≡ y
same_there i xs x y inside is is' = some_of x y (sym (get_there i xs x inside is) ∙ get_there i xs y inside is')
