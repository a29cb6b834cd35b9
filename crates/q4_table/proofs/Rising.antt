-- Numbers that rise, after changes of their list.
use Rattle.std.proofs.Common.{◌≡◌, ◌==◌, ◌<◌, ◌≤◌, ◌+◌, ◌++◌, ◌∷◌, ◌∙◌, [], List, ℕ, Bool, true, false, cond, Option, Some, None, map, filter, find, min, refl, ap, arith}
use Rattle.std.specs.Option.{option_map, option_map_or}
use Rattle.std.proofs.lemmas.Bool.{ne_eqb}
use Rattle.q4_table.specs.Valid.{RiseBelow}
use Rattle.q4_table.specs.Rows.{least}
use Rattle.q4_table.proofs.Lookup.{found}

pub rise_wider : (low low' next next' : ℕ) (ns : List ℕ) → low' ≤ low → next ≤ next' → RiseBelow low next ns → RiseBelow low' next' ns
rise_wider low low' next next' [] lower higher rise = tt
rise_wider low low' next next' (n ∷ ns) lower higher rise = (omega (arith, rise.0, lower), omega (arith, rise.1, higher), rise_wider n n next next' ns (omega arith) higher rise.2)

-- one more number at the end
pub rise-push : (low next : ℕ) (ns : List ℕ) → low < next → RiseBelow low next ns → RiseBelow low (next + 1) (ns ++ next ∷ [])
rise-push low next [] lower rise = (lower, omega arith, tt)
rise-push low next (n ∷ ns) lower rise = (rise.0, omega (arith, rise.1), rise-push n next ns rise.1 rise.2)

-- some of the elements
pub rise-filter : {X : Type 0} (f : X → ℕ) (p : X → Bool) (low next : ℕ) (xs : List X) → RiseBelow low next (map f xs) → RiseBelow low next (map f (filter p xs))
rise-filter f p low next [] rise = tt
rise-filter f p low next (x ∷ xs) rise =
    elim (p x) as (λ b. RiseBelow low next (map f (cond b (x ∷ filter p xs) (filter p xs)))) [
      | true ↦ (rise.0, rise.1, rise-filter f p (f x) next xs rise.2)
      | false ↦ rise_wider (f x) low next next (map f (filter p xs)) (omega (arith, rise.0)) (omega arith) (rise-filter f p (f x) next xs rise.2)
    ]

-- a number that is too small is not there
pub none_below : {X : Type 0} (f : X → ℕ) (low next k : ℕ) (xs : List X) → RiseBelow low next (map f xs) → k ≤ low → found f k xs ≡ None
none_below f low next k [] rise small = refl
none_below f low next k (x ∷ xs) rise small =
    let differs : (f x == k) ≡ false = ne_eqb (f x) k (λ is. omega (arith, is, rise.0, small)) in
    ap (λ (b : Bool). cond b (Some x) (found f k xs)) differs ∙ none_below f (f x) next k xs rise.2 (omega (arith, rise.0, small))

-- the next number is not there
pub none_next : {X : Type 0} (f : X → ℕ) (low next : ℕ) (xs : List X) → RiseBelow low next (map f xs) → found f next xs ≡ None
none_next f low next [] rise = refl
none_next f low next (x ∷ xs) rise =
    let differs : (f x == next) ≡ false = ne_eqb (f x) next (λ is. omega (arith, is, rise.1)) in
    ap (λ (b : Bool). cond b (Some x) (found f next xs)) differs ∙ none_next f (f x) next xs rise.2

-- a change that keeps the numbers
pub map_keeps : {X : Type 0} (f : X → ℕ) (g : X → X) → ((x : X) → f (g x) ≡ f x) → (xs : List X) → map f (map g xs) ≡ map f xs
map_keeps f g keeps [] = refl
map_keeps f g keeps (x ∷ xs) = ap (λ n. n ∷ map f (map g xs)) (keeps x) ∙ ap (λ ns. f x ∷ ns) (map_keeps f g keeps xs)

abbrev pub first : List ℕ → Option ℕ
first [] = None
first (n ∷ ns) = Some n

-- the least of rising numbers is the first
pub rising_first : (low next : ℕ) (ns : List ℕ) → RiseBelow low next ns → least ns ≡ first ns
rising_first low next [] rise = refl
rising_first low next (n ∷ []) rise = refl
rising_first low next (n ∷ m ∷ ns) rise =
    let smaller : min n m ≡ n = omega (arith, rise.2.0) in
    ap (λ o. Some (option_map_or (min n) o n)) (rising_first n next (m ∷ ns) rise.2) ∙ ap Some smaller

first_found : {X : Type 0} (f : X → ℕ) (p : X → Bool) (xs : List X) → first (map f (filter p xs)) ≡ option_map f (find p xs)
first_found f p [] = refl
first_found f p (x ∷ xs) = elim (p x) as (λ b. first (map f (cond b (x ∷ filter p xs) (filter p xs))) ≡ option_map f (cond b (Some x) (find p xs))) [ true ↦ refl | false ↦ first_found f p xs ]

-- where numbers rise, the least number of those that pass a test is that of the first
pub least_found : {X : Type 0} (f : X → ℕ) (p : X → Bool) (low next : ℕ) (xs : List X) → RiseBelow low next (map f xs) → least (map f (filter p xs)) ≡ option_map f (find p xs)
least_found f p low next xs rise = rising_first low next (map f (filter p xs)) (rise-filter f p low next xs rise) ∙ first_found f p xs
