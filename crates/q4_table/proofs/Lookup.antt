-- Searching a list by a number of its elements, after changes of the list.
use Rattle.std.proofs.Common.{◌≡◌, ◌≢◌, ◌==◌, ◌++◌, ◌∷◌, ◌∙◌, [], List, ℕ, Bool, true, false, cond, not, Option, Some, None, map, filter, find, refl, sym, ap, unwrap_or}
use Rattle.std.specs.Option.{option_map, option_or}
use Rattle.std.proofs.lemmas.Bool.{eqb-true, ne_eqb, eq-eqb}
use Rattle.std.proofs.lemmas.List.Folds.{find-append}

abbrev pub found : {X : Type 0} → (X → ℕ) → ℕ → List X → Option X
found f k xs = find (λ x. f x == k) xs

none_some : {X : Type 0} (y : X) → None ≡ Some y → ⊥
none_some y is = cc is

pub some_of : {X : Type 0} (x y : X) → Some x ≡ Some y → x ≡ y
some_of x y is = ap (λ o. unwrap_or o x) is

key_step : {X : Type 0} (f : X → ℕ) (k : ℕ) (x : X) (xs : List X) (y : X) (b : Bool) → (f x == k) ≡ b → cond b (Some x) (found f k xs) ≡ Some y → (found f k xs ≡ Some y → f y ≡ k) → f y ≡ k
key_step f k x xs y true same is later = ap f (sym (some_of x y is)) ∙ eqb-true (f x) k same
key_step f k x xs y false other is later = later is

-- what is found has the number
pub found_key : {X : Type 0} (f : X → ℕ) (k : ℕ) (xs : List X) (y : X) → found f k xs ≡ Some y → f y ≡ k
found_key f k [] y is = absurd (none_some y is)
found_key f k (x ∷ xs) y is = key_step f k x xs y (f x == k) refl is (found_key f k xs y)

-- a change that keeps the number changes what is found
pub found-map : {X : Type 0} (f : X → ℕ) (g : X → X) → ((x : X) → f (g x) ≡ f x) → (k : ℕ) (xs : List X) → found f k (map g xs) ≡ option_map g (found f k xs)
found-map f g keeps k [] = refl
found-map f g keeps k (x ∷ xs) =
    ap (λ n. cond (n == k) (Some (g x)) (found f k (map g xs))) (keeps x)
    ∙ elim (f x == k) as (λ b. cond b (Some (g x)) (found f k (map g xs)) ≡ option_map g (cond b (Some x) (found f k xs))) [ true ↦ refl | false ↦ found-map f g keeps k xs ]

others_step : {X : Type 0} (f : X → ℕ) (j k : ℕ) (x : X) (xs : List X) → k ≢ j → (b : Bool) → (f x == j) ≡ b → found f k (filter (λ y. not (f y == j)) xs) ≡ found f k xs
    → found f k (cond (not b) (x ∷ filter (λ y. not (f y == j)) xs) (filter (λ y. not (f y == j)) xs)) ≡ cond (f x == k) (Some x) (found f k xs)
others_step f j k x xs other true same later =
    let differs : (f x == k) ≡ false = ne_eqb (f x) k (λ is. other (sym is ∙ eqb-true (f x) j same)) in
    later ∙ sym (ap (λ (b : Bool). cond b (Some x) (found f k xs)) differs)
others_step f j k x xs other false differs later = ap (λ o. cond (f x == k) (Some x) o) later

-- without one number the others are found as before
pub found_others : {X : Type 0} (f : X → ℕ) (j k : ℕ) (xs : List X) → k ≢ j → found f k (filter (λ x. not (f x == j)) xs) ≡ found f k xs
found_others f j k [] other = refl
found_others f j k (x ∷ xs) other = others_step f j k x xs other (f x == j) refl (found_others f j k xs other)

gone_step : {X : Type 0} (f : X → ℕ) (k : ℕ) (x : X) (xs : List X) (b : Bool) → (f x == k) ≡ b → found f k (filter (λ y. not (f y == k)) xs) ≡ None
    → found f k (cond (not b) (x ∷ filter (λ y. not (f y == k)) xs) (filter (λ y. not (f y == k)) xs)) ≡ None
gone_step f k x xs true same later = later
gone_step f k x xs false differs later = ap (λ (b : Bool). cond b (Some x) (found f k (filter (λ y. not (f y == k)) xs))) differs ∙ later

-- and that number is not found
pub found_gone : {X : Type 0} (f : X → ℕ) (k : ℕ) (xs : List X) → found f k (filter (λ x. not (f x == k)) xs) ≡ None
found_gone f k [] = refl
found_gone f k (x ∷ xs) = gone_step f k x xs (f x == k) refl (found_gone f k xs)

pub or_none : {X : Type 0} (o : Option X) → option_or o None ≡ o
or_none None = refl
or_none (Some x) = refl

-- another element behind the others changes nothing
pub found_before : {X : Type 0} (f : X → ℕ) (k : ℕ) (xs : List X) (y : X) → k ≢ f y → found f k (xs ++ y ∷ []) ≡ found f k xs
found_before f k xs y other =
    let differs : (f y == k) ≡ false = ne_eqb (f y) k (λ is. other (sym is)) in
    find-append (λ x. f x == k) xs (y ∷ []) ∙ ap (λ (b : Bool). option_or (found f k xs) (cond b (Some y) None)) differs ∙ or_none (found f k xs)

-- an element behind others of other numbers is found
pub found_last : {X : Type 0} (f : X → ℕ) (k : ℕ) (xs : List X) (y : X) → found f k xs ≡ None → f y ≡ k → found f k (xs ++ y ∷ []) ≡ Some y
found_last f k xs y none is =
    find-append (λ x. f x == k) xs (y ∷ []) ∙ ap (λ o. option_or o (cond (f y == k) (Some y) None)) none ∙ ap (λ (b : Bool). cond b (Some y) None) (eq-eqb (f y) k is)
