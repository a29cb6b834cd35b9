-- The fields of a line, and the texts that stand in them.
use Rattle.std.specs.Prelude.{◌≡◌, ◌==◌, ◌+◌, ◌++◌, ◌∷◌, [], ℕ, List, Option, Some, None, All, length}
use Rattle.std.specs.List.{slice_split}
use Rattle.q4_value.specs.Escape.{escaped}

-- the fields of a line are what its TABs separate
abbrev pub fields_of : List ℕ → List (List ℕ)
fields_of line = slice_split (λ b. b == 9) line

-- the fields of what stands behind a TAB; without a TAB there are none
abbrev pub fields_behind : Option (List ℕ) → List (List ℕ)
fields_behind None = []
fields_behind (Some rest) = fields_of rest

-- The field is the escaped spelling of a text.
abbrev pub IsSpelled : List ℕ → Type 0
IsSpelled field = (text : List ℕ) × (field ≡ escaped text)

-- P holds of the element at this place, counted from 1, and of none before it.
pub record IsFirst {X : Type 0} (P : X → Type 0) (xs : List X) (place : ℕ) : Type 0 where
  pub before : List X
  pub found : X
  pub after : List X
  pub cut : xs ≡ before ++ found ∷ after
  pub place_is : place ≡ length before + 1
  pub none_before : All (λ x. P x → ⊥) before
  pub holds : P found
