-- Where something stands, or would stand, in a list by rising numbers.
use Rattle.std.specs.Prelude.{◌<◌, ◌≤◌, ℕ, List, length}
use Rattle.std.specs.List.{AllWithin}

-- The elements before the place have lesser numbers, and no element from it on has.
pub record IsPlace {X : Type 0} (number_of : X → ℕ) (list : List X) (number place : ℕ) : Type 0 where
  pub inside : place ≤ length list
  pub before : AllWithin (λ x. number_of x < number) list 0 place
  pub behind : AllWithin (λ x. number ≤ number_of x) list place (length list)
