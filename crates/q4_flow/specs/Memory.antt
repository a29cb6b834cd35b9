-- What contracts see of the source and the sink in memory.
use Rattle.std.specs.Prelude.{ℕ, List, Bool, ◌+◌, ◌-◌, ◌^◌, min}

-- what is left, the numbers of the reads that fail, how many reads there were, how many failed, and whether one told the end
pub record Input : Type 0 where
  pub left : List ℕ
  pub failing : List ℕ
  pub calls : ℕ
  pub faults : ℕ
  pub ended : Bool

-- what was written, the numbers of the writes that fail, how many writes there were, and how many failed
pub record Output : Type 0 where
  pub written : List ℕ
  pub failing : List ℕ
  pub calls : ℕ
  pub faults : ℕ

-- the number of the next call; counts stand still at their type's end
abbrev pub next_call : ℕ → ℕ
next_call calls = min (calls + 1) (2 ^ 64 - 1)
