-- The rows of a table as the entries of a map.
use Rattle.std.specs.Prelude.{◌≡◌, ℕ, List, All}
use Rattle.std.specs.Map.{values_of}
use Rattle.q4_table.specs.declared.rows.StoredRow.{StoredRow}
use Rattle.q4_table.specs.Adding.{number_limit}
use Rattle.q4_table.specs.Rows.{numbers_of}
use Rattle.q4_table.specs.Valid.{RiseBelow}

-- Each row stands under its number, and the numbers rise, from 1 on below their limit.
pub record IsNumbered (entries : List (ℕ × StoredRow)) : Type 0 where
  pub keyed : All (λ e. e.1.number ≡ e.0) entries
  pub rise : RiseBelow 0 number_limit (numbers_of (values_of entries))
