-- Which of some things has a name.
use Rattle.std.proofs.Common.{get_or, length, slice_get, Some, option_map, ◌≡◌, ℕ, ◌<◌, Bool, true, List, [], ◌∷◌, map, Contains, IsTrue, refl, ap, sym, ◌∙◌, arith, ⊎_elim}
use Rattle.std.specs.List.{list_any}
use Rattle.std.specs.Str.{bytes_eq}
use Rattle.std.proofs.lemmas.Bool.{or_cases, or_left, or_right}
use Rattle.std.proofs.lemmas.List.Elements.{Contains-append_left, Contains-append_right, Contains-append_cases, Contains-push_cases}
use Rattle.std.proofs.lemmas.List.{get_or-map, length-map}
use Rattle.std.proofs.lemmas.Option.{slice_get-map, slice_get_read}
use Rattle.std.proofs.lemmas.Slice.Eq.{bytes_eq-Decides}

contains_nothing : {X : Type 0} (y : X) → Contains [] y → ⊥
contains_nothing y has = omega arith

-- one of the things has the name where the test says so
pub contains_from_any : {X : Type 0} (name : X → List ℕ) (xs : List X) (y : List ℕ) → list_any (λ x. bytes_eq (name x) y) xs ≡ true → Contains (map name xs) y
contains_from_any name [] y is = absurd cc
contains_from_any name (x ∷ xs) y is = ⊎_elim
    (λ here. Contains-append_left (name x ∷ []) (map name xs) y (Contains-same (name x) y ((bytes_eq-Decides (name x) y).0 here)))
    (λ later. Contains-append_right (name x ∷ []) (map name xs) y (contains_from_any name xs y later))
    (or_cases (bytes_eq (name x) y) (list_any (λ x. bytes_eq (name x) y) xs) is)
  where
    Contains-same : (x y : List ℕ) → x ≡ y → Contains (x ∷ []) y
    Contains-same x y same = (0, omega arith, same)

-- and only where it says so
pub any_from_contains : {X : Type 0} (name : X → List ℕ) (xs : List X) (y : List ℕ) → Contains (map name xs) y → list_any (λ x. bytes_eq (name x) y) xs ≡ true
any_from_contains name [] y has = absurd (contains_nothing y has)
any_from_contains name (x ∷ xs) y has = ⊎_elim
    (λ here. ⊎_elim
    (λ none. absurd (contains_nothing y none))
    (λ same. or_left (bytes_eq (name x) y) (list_any (λ x. bytes_eq (name x) y) xs) ((bytes_eq-Decides (name x) y).1 same))
    (Contains-push_cases [] (name x) y here))
    (λ later. or_right (bytes_eq (name x) y) (list_any (λ x. bytes_eq (name x) y) xs) (any_from_contains name xs y later))
    (Contains-append_cases (name x ∷ []) (map name xs) y has)

-- the answer of the test
pub says_contains : {X : Type 0} (name : X → List ℕ) (xs : List X) (y : List ℕ) (r : Bool) → r ≡ list_any (λ x. bytes_eq (name x) y) xs
    → (IsTrue r → Contains (map name xs) y) × (Contains (map name xs) y → IsTrue r)
says_contains name xs y r is = (λ yes. contains_from_any name xs y (sym is ∙ yes), λ has. is ∙ any_from_contains name xs y has)

-- the name of the thing at a place
pub name_at : {X : Type 0} (name : X → List ℕ) (xs : List X) (i : ℕ) (x : X) (y : List ℕ) → i < length xs → x ≡ get_or xs i x → name x ≡ y → slice_get (map name xs) i ≡ Some y
name_at name xs i x y within at same =
    slice_get-map name xs i ∙ ap (option_map name) (slice_get_read xs (length xs) i x refl within at) ∙ ap Some same

-- none of the things has the name
pub contains_no : {X : Type 0} (name : X → List ℕ) (xs : List X) (y : List ℕ) → ((k : ℕ) (d : X) → k < length xs → name (get_or xs k d) ≡ y → ⊥) → Contains (map name xs) y → ⊥
contains_no name [] y none has = contains_nothing y has
contains_no name (x ∷ xs) y none has =
    let within : has.0 < length (x ∷ xs) = omega (arith, has.1, length-map (x ∷ xs) name) in
    none has.0 x within (sym (get_or-map name (x ∷ xs) has.0 x y within) ∙ has.2)
