-- The first element that passes a test: where it stands, and what is found where none passes.
use Rattle.std.proofs.Common.{◌≡◌, ◌<◌, ◌∷◌, ◌∙◌, [], List, ℕ, zero, suc, Bool, true, false, cond, Some, None, find, length, get_or, slice_get, refl, sym, ap, arith}
use Rattle.std.specs.Prelude.{nat_lt}
use Rattle.std.specs.List.{position, position_or_len}
use Rattle.std.proofs.lemmas.Bool.{ltb-false}
use Rattle.std.proofs.lemmas.List.Quantifiers.{position-Some}
use Rattle.std.proofs.lemmas.List.Sums.{fails_before_first}

-- An element is the first to pass, and stands at this place.
abbrev pub IsAt : {X : Type 0} → (X → Bool) → List X → ℕ → X → Type 0
IsAt p [] i y = ⊥
IsAt p (x ∷ xs) zero y = (x ≡ y) × (p x ≡ true)
IsAt p (x ∷ xs) (suc i) y = (p x ≡ false) × IsAt p xs i y

-- No element passes.
abbrev pub Fail : {X : Type 0} → (X → Bool) → List X → Type 0
Fail p [] = Unit {0}
Fail p (x ∷ xs) = (p x ≡ false) × Fail p xs

at_from : {X : Type 0} (p : X → Bool) (xs : List X) (i : ℕ) (y : X) → i < length xs → p (get_or xs i y) ≡ true → ((k : ℕ) → k < i → p (get_or xs k y) ≡ false) → y ≡ get_or xs i y → IsAt p xs i y
at_from p [] i y inside passes before is = omega (arith, inside)
at_from p (x ∷ xs) zero y inside passes before is = (sym is, passes)
at_from p (x ∷ xs) (suc i) y inside passes before is = (before 0 (omega arith), at_from p xs i y (omega (arith, inside)) passes (λ k lt. before (suc k) (omega (arith, lt))) is)

-- what stands at the place that a search tells
pub at-position : {X : Type 0} (p : X → Bool) (xs : List X) (i : ℕ) (y : X) → position p xs ≡ Some i → y ≡ get_or xs i y → IsAt p xs i y
at-position p xs i y found is =
    let told = position-Some p xs i y found in
    at_from p xs i y told.0 told.1 told.2 is

fail_from : {X : Type 0} (p : X → Bool) (xs : List X) → ((k : ℕ) (d : X) → k < length xs → p (get_or xs k d) ≡ false) → Fail p xs
fail_from p [] each = tt
fail_from p (x ∷ xs) each = (each 0 x (omega arith), fail_from p xs (λ k d lt. each (suc k) d (omega (arith, lt))))

none_cases : {X : Type 0} (p : X → Bool) (xs : List X) (b : Bool) → nat_lt (position_or_len p xs) (length xs) ≡ b → cond b (Some (position_or_len p xs)) None ≡ None → Fail p xs
none_cases p xs true test is = cc is
none_cases p xs false test is = fail_from p xs (λ k d lt. fails_before_first p xs k d (omega (arith, lt, ltb-false (position_or_len p xs) (length xs) test)))

pub fail-position : {X : Type 0} (p : X → Bool) (xs : List X) → position p xs ≡ None → Fail p xs
fail-position p xs is = none_cases p xs (nat_lt (position_or_len p xs) (length xs)) refl is

pub find-at : {X : Type 0} (p : X → Bool) (xs : List X) (i : ℕ) (y : X) → IsAt p xs i y → find p xs ≡ Some y
find-at p [] i y at = absurd at
find-at p (x ∷ xs) zero y at = ap (λ (b : Bool). cond b (Some x) (find p xs)) at.1 ∙ ap Some at.0
find-at p (x ∷ xs) (suc i) y at = ap (λ (b : Bool). cond b (Some x) (find p xs)) at.0 ∙ find-at p xs i y at.1

pub find-fail : {X : Type 0} (p : X → Bool) (xs : List X) → Fail p xs → find p xs ≡ None
find-fail p [] fail = refl
find-fail p (x ∷ xs) fail = ap (λ (b : Bool). cond b (Some x) (find p xs)) fail.0 ∙ find-fail p xs fail.1

none_found : {X : Type 0} (p : X → Bool) (x : X) (xs : List X) (b : Bool) → p x ≡ b → cond b (Some x) (find p xs) ≡ None → (find p xs ≡ None → Fail p xs) → Fail p (x ∷ xs)
none_found p x xs true test is later = cc is
none_found p x xs false test is later = (test, later is)

pub fail-find : {X : Type 0} (p : X → Bool) (xs : List X) → find p xs ≡ None → Fail p xs
fail-find p [] is = tt
fail-find p (x ∷ xs) is = none_found p x xs (p x) refl is (fail-find p xs)

pub slice-at : {X : Type 0} (p : X → Bool) (xs : List X) (i : ℕ) (y : X) → IsAt p xs i y → slice_get xs i ≡ Some y
slice-at p [] i y at = absurd at
slice-at p (x ∷ xs) zero y at = ap Some at.0
slice-at p (x ∷ xs) (suc i) y at = slice-at p xs i y at.1

same_default : {X : Type 0} (xs : List X) (i : ℕ) (d e : X) → i < length xs → get_or xs i d ≡ get_or xs i e
same_default [] i d e inside = absurd (omega (arith, inside))
same_default (x ∷ xs) zero d e inside = refl
same_default (x ∷ xs) (suc i) d e inside = same_default xs i d e (omega (arith, inside))

-- an element stands at the place that a search tells
pub at-somewhere : {X : Type 0} (p : X → Bool) (xs : List X) (i : ℕ) (d : X) → position p xs ≡ Some i → IsAt p xs i (get_or xs i d)
at-somewhere p xs i d found = at-position p xs i (get_or xs i d) found (same_default xs i d (get_or xs i d) (position-Some p xs i d found).0)
