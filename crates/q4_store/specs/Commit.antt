-- What a commit leaves of a side, by its bytes.
use Rattle.std.specs.Prelude.{◌≡◌, ◌≢◌, ◌+◌, ◌≤◌, ◌⊎◌, max, ℕ, List, [], ◌∷◌, ◌++◌, length}
use Rattle.std.specs.Int.{w32, to_be_bytes}
use Rattle.q4_disk.specs.declared.disk.Side.{Side}
use Rattle.q4_disk.specs.Told.{Sides, Told}
use Rattle.q4_disk.specs.Images.{on, other, size, Within}

-- what is written behind the closing gate: the length of the records, the records, and the gate that closes the side then
abbrev pub sealed : List ℕ → List ℕ
sealed records = to_be_bytes w32 (length records) ++ (records ++ 0 ∷ [])

-- In each image the side has the bytes that are read: this front, a closed gate, and any bytes.
pub record EndsBehind (told : Told) (side : Side) (front : List ℕ) : Type 0 where
  pub gate : ℕ
  pub tail : List ℕ
  pub closed : gate ≢ 1
  pub is : on side told.bytes ≡ front ++ gate ∷ tail
  pub only : Within told.images (λ c. on side c ≡ on side told.bytes)

-- the front, a closed gate and any bytes, at most so many
pub record IsClosedBehind (front : List ℕ) (most : ℕ) (bytes : List ℕ) : Type 0 where
  pub gate : ℕ
  pub tail : List ℕ
  pub closed : gate ≢ 1
  pub is : bytes ≡ front ++ gate ∷ tail
  pub few : length bytes ≤ most

-- the front, an open gate, the batch and any bytes, at most so many
pub record IsOpenBehind (front batch : List ℕ) (most : ℕ) (bytes : List ℕ) : Type 0 where
  pub tail : List ℕ
  pub is : bytes ≡ front ++ 1 ∷ (batch ++ tail)
  pub few : length bytes ≤ most

-- the most bytes that a side has once these are written at a place
abbrev pub grown : Told → Side → ℕ → List ℕ → ℕ
grown told side at batch = max (size side told.bytes) (at + length batch)

-- Beside the other side of an image that there was, the gate behind the front is closed, or open with the whole batch
-- behind it.
pub record MayHaveBatch (images : Sides → Type 0) (side : Side) (front batch : List ℕ) (most : ℕ) (c : Sides) : Type 0 where
  pub from : Sides
  pub image : images from
  pub same : on (other side) c ≡ on (other side) from
  pub here : IsClosedBehind front most (on side c) ⊎ IsOpenBehind front batch most (on side c)
