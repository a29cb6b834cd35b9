-- Words on lists and on numbers that may be absent.
use Rattle.std.specs.Prelude.{◌≡◌, ℕ, ◌+◌, length, ◌==◌, Bool, true, false, cond, List, [], ◌∷◌, ◌++◌, filter, Option, Some, None}
use Rattle.std.proofs.Math.Dec.{leb}

-- the sum of a number that each element has
abbrev pub total : {A : Type 0} → (A → ℕ) → List A → ℕ
total f [] = 0
total f (x ∷ xs) = f x + total f xs

-- the fact holds of each element
abbrev pub Every : {A : Type 0} → (A → Type 0) → List A → Type 0
Every P [] = Unit {0}
Every P (x ∷ xs) = P x × Every P xs

-- the whole begins with the part
abbrev pub StartsWith : {A : Type 0} → List A → List A → Type 0
StartsWith {A} whole part = (rest : List A) × (whole ≡ part ++ rest)

-- 1 where the test holds, and else 0
abbrev pub one_if : Bool → ℕ
one_if true = 1
one_if false = 0

-- 1 where this number is there, and else 0
abbrev pub one_at : ℕ → Option ℕ → ℕ
one_at n None = 0
one_at n (Some m) = one_if (m == n)

-- the number that is there
abbrev pub number_of_hand : Option ℕ → ℕ
number_of_hand None = 0
number_of_hand (Some n) = n

-- the entries with this mark, in order
abbrev pub marked : {E : Type 0} → (E → ℕ) → ℕ → List E → List E
marked mark n es = filter (λ e. mark e == n) es

-- of two beginnings of one history the longer
abbrev pub longer : {E : Type 0} → List E → List E → List E
longer xs ys = cond (leb (length xs) (length ys)) ys xs

-- .. and the shorter
abbrev pub shorter : {E : Type 0} → List E → List E → List E
shorter xs ys = cond (leb (length xs) (length ys)) xs ys
