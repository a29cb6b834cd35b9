-- What a crash between two syncs may make of a side.
use Rattle.std.specs.Prelude.{◌≡◌, ℕ, ◌+◌, ◌≤◌, min, max, List, ◌++◌, length, take, drop}
use Rattle.q4_disk.specs.declared.disk.Side.{Side}
use Rattle.q4_disk.specs.declared.disk.Side.TheVariants.{A, B}
use Rattle.q4_disk.specs.Told.{Sides}

abbrev pub both : List ℕ → List ℕ → Sides
both a b = record { a = a; b = b }

-- the bytes of one side
abbrev pub on : Side → Sides → List ℕ
on A sides = sides.a
on B sides = sides.b

abbrev pub other : Side → Side
other A = B
other B = A

-- both sides, one of them with these bytes
abbrev pub put : Side → List ℕ → Sides → Sides
put A bytes sides = both bytes sides.b
put B bytes sides = both sides.a bytes

abbrev pub size : Side → Sides → ℕ
size side sides = length (on side sides)

-- a side after these bytes were written at an offset: over what is there, and past the end
abbrev pub written : List ℕ → ℕ → List ℕ → List ℕ
written old at bytes = take at old ++ (bytes ++ drop (at + length bytes) old)

-- after a write of n bytes that wasn't synced: any bytes in the range and past the old end, the same elsewhere
-- (the old end may lie before the range, where an earlier write past the end was lost)
pub record Torn (at n : ℕ) (old new : List ℕ) : Type 0 where
  pub before : take (min at (length old)) new ≡ take at old
  pub after : drop (at + n) new ≡ drop (at + n) old
  pub no_shorter : length old ≤ length new
  pub no_longer : length new ≤ max (length old) (at + n)

-- after a cut to n that wasn't synced: any bytes past the cut, or none
pub record Cut (n : ℕ) (old new : List ℕ) : Type 0 where
  pub front : take n new ≡ take n old
  pub no_longer : length new ≤ length old

-- a step of one side, the other side stays
pub record Sided (side : Side) (step : List ℕ → List ℕ → Type 0) (old new : Sides) : Type 0 where
  pub here : step (on side old) (on side new)
  pub there : on (other side) new ≡ on (other side) old

-- each image is one of these
abbrev pub Within : (Sides → Type 0) → (Sides → Type 0) → Type 0
Within new old = (c : Sides) → new c → old c

-- each new image is an old one after a step
abbrev pub Follows : (Sides → Sides → Type 0) → (Sides → Type 0) → (Sides → Type 0) → Type 0
Follows step old new = (c : Sides) → new c → (d : Sides) × old d × step d c

-- and each step from an old image gives a new one
abbrev pub Leads : (Sides → Sides → Type 0) → (Sides → Type 0) → (Sides → Type 0) → Type 0
Leads step old new = (d c : Sides) → old d → step d c → new c
