-- The rows of a table: how one is found, owned, given back and removed, and the sum of their sizes.
use Rattle.std.specs.Prelude.{◌≡◌, ◌==◌, ℕ, List, [], ◌∷◌, Option, None, Some, IsSome, IsSomeAnd, map, filter, find, min, not, nat_le, sum_by, option_and_then, if◌then◌else◌}
use Rattle.std.specs.Option.{option_map, option_map_or}
use Rattle.q4_value.specs.declared.row.Value.{Value}
use Rattle.q4_value.specs.Row.{row_size}
use Rattle.q4_table.specs.declared.rows.StoredRow.{StoredRow}

-- the row with this number
abbrev pub row_in : List StoredRow → ℕ → Option StoredRow
row_in rows number = find (λ r. r.number == number) rows

-- the values of the row with this number
abbrev pub values_in : List StoredRow → ℕ → Option (List Value)
values_in rows number = option_map (λ r. r.row) (row_in rows number)

-- the session that owns the row with this number
abbrev pub owner_in : List StoredRow → ℕ → Option ℕ
owner_in rows number = option_and_then (λ r. r.owner) (row_in rows number)

-- There is a row with this number; nobody owns it; a session owns it.
abbrev pub IsThere : List StoredRow → ℕ → Type 0
IsThere rows number = IsSome (row_in rows number)

abbrev pub IsUnowned : List StoredRow → ℕ → Type 0
IsUnowned rows number = IsSomeAnd (row_in rows number) (λ r. r.owner ≡ None)

abbrev pub IsOwned : List StoredRow → ℕ → Type 0
IsOwned rows number = IsSomeAnd (row_in rows number) (λ r. IsSome r.owner)

-- the rows with one row's owner changed
abbrev pub owned_by : ℕ → Option ℕ → StoredRow → StoredRow
owned_by number owner r = if r.number == number then record { number = r.number; row = r.row; owner = owner } else r

abbrev pub with_owner : ℕ → Option ℕ → List StoredRow → List StoredRow
with_owner number owner rows = map (owned_by number owner) rows

-- the rows without one row
abbrev pub without_row : ℕ → List StoredRow → List StoredRow
without_row number rows = filter (λ r. not (r.number == number)) rows

-- the least of some numbers
abbrev pub least : List ℕ → Option ℕ
least [] = None
least (n ∷ ns) = Some (option_map_or (min n) (least ns) n)

-- the numbers of the rows
abbrev pub numbers_of : List StoredRow → List ℕ
numbers_of rows = map (λ r. r.number) rows

-- the rows from a number on
abbrev pub rows_from : ℕ → List StoredRow → List StoredRow
rows_from number rows = filter (λ r. nat_le number r.number) rows

-- the least row number that is at least this one
abbrev pub least_from : List StoredRow → ℕ → Option ℕ
least_from rows number = least (numbers_of (rows_from number rows))

-- the sum of the rows' sizes
abbrev pub bytes_of : List StoredRow → ℕ
bytes_of rows = sum_by (λ r. row_size r.row) rows
