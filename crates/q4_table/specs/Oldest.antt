-- Which row a look takes of a table.
use Rattle.std.specs.Prelude.{◌≡◌, ◌≤◌, ◌+◌, ◌&&◌, ℕ, Bool, List, Option, None, Some, IsSomeAnd, IsTrue, All, filter, length, is_none, nat_le}
use Rattle.q4_cond.specs.Tree.{Tree}
use Rattle.q4_cond.specs.Values.{meets}
use Rattle.q4_table.specs.declared.rows.StoredRow.{StoredRow}
use Rattle.q4_table.specs.Rows.{row_in, least, numbers_of}

-- nobody owns the row, and it meets the condition
abbrev pub is_free : Option Tree → StoredRow → Bool
is_free tree r = is_none r.owner && meets r.row tree

-- the oldest row that nobody owns and that meets the condition is the one with the least number
abbrev pub oldest_meeting : List StoredRow → Option Tree → Option ℕ
oldest_meeting rows tree = least (numbers_of (filter (is_free tree) rows))

-- Nobody owns the row, and it meets the condition.
pub record IsFree (tree : Option Tree) (r : StoredRow) : Type 0 where
  pub unowned : r.owner ≡ None
  pub meets_it : IsTrue (meets r.row tree)

-- The row with this number is there, free, and no other free row has a lesser number.
pub record IsOldest (rows : List StoredRow) (tree : Option Tree) (number : ℕ) : Type 0 where
  pub free : IsSomeAnd (row_in rows number) (IsFree tree)
  pub least_number : All (λ r. IsFree tree r → number ≤ r.number) rows

-- What a look takes: the oldest free row, and none only where no row is free.
abbrev pub TakesOldest : List StoredRow → Option Tree → Option ℕ → Type 0
TakesOldest rows tree (Some number) = IsOldest rows tree number
TakesOldest rows tree None = All (λ r. IsFree tree r → ⊥) rows

-- The number lies from one number on, and up to that of the row that was found, if one was.
abbrev pub is_looked_at : ℕ → Option ℕ → ℕ → Bool
is_looked_at from None number = nat_le from number
is_looked_at from (Some last) number = nat_le from number && nat_le number last

-- the rows without an owner from a number on, up to the row that a look found
abbrev pub unowned_to : List StoredRow → ℕ → Option ℕ → List StoredRow
unowned_to rows from found = filter (λ r. is_none r.owner && is_looked_at from found r.number) rows

-- A look from a number on asks at most once of each row without an owner, up to the row that it found.
abbrev pub IsAsked : List StoredRow → ℕ → Option ℕ → ℕ → ℕ → Type 0
IsAsked rows from found before after = after ≤ before + length (unowned_to rows from found)
