-- What a source has left and what a sink was given, where these are told, and counts of faults.
use Rattle.std.specs.Prelude.{◌≡◌, ◌≤◌, ◌<◌, ◌+◌, ◌-◌, ◌^◌, ◌++◌, ◌⊎◌, ℕ, List, [], Option, Result, min, Bool, IsTrue, IfSome, OnOk, OnErr, IfOk, Ok}
use Rattle.std.specs.Io.KnownBytes.{prepend_known, append_known}

-- The count is greater than before, or stands at its type's end.
abbrev pub Rose : ℕ → ℕ → Type 0
Rose before now = min (before + 1) (2 ^ 64 - 1) ≤ now

-- A count of faults never falls. It rises where the call fails, and stays where it doesn't.
pub record Counts {T E : Type 0} (before now : ℕ) (result : Result T E) : Type 0 where
  pub later : before ≤ now
  pub failed : OnErr result (Rose before now)
  pub stayed : OnOk result (now ≡ before)

-- These bytes were the front of what was left, and the rest is left now.
abbrev pub Gave : Option (List ℕ) → Option (List ℕ) → List ℕ → Type 0
Gave old new bytes = old ≡ prepend_known bytes new

-- These bytes were put behind what was there.
abbrev pub Took : Option (List ℕ) → Option (List ℕ) → List ℕ → Type 0
Took old new bytes = new ≡ append_known old bytes

-- The first list is a front of the second.
pub record IsFront (front all : List ℕ) : Type 0 where
  pub rest : List ℕ
  pub whole : all ≡ front ++ rest

-- Some front of these bytes was put behind what was there.
pub record TookFront (old new : Option (List ℕ)) (bytes : List ℕ) : Type 0 where
  pub front : List ℕ
  pub is_front : IsFront front bytes
  pub took : Took old new front

-- Nothing is left, where it is told.
abbrev pub NothingLeft : Option (List ℕ) → Type 0
NothingLeft left = IfSome left (λ bytes. bytes ≡ [])

-- A read with room that answered 0 tells the end of the input, and nothing else does. A later read that succeeds
-- answers 0 too.
pub record EndsOnce {E : Type 0} (before now : Bool) (room : ℕ) (left : Option (List ℕ)) (result : Result ℕ E) : Type 0 where
  pub at_end : IfOk result (λ count. count ≡ 0 → 0 < room → IsTrue now × NothingLeft left)
  pub only_then : IsTrue now → IsTrue before ⊎ ((result ≡ Ok 0) × (0 < room))
  pub stays : IsTrue before → IsTrue now × IfOk result (λ count. count ≡ 0)
