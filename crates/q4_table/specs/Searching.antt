-- A search of rows in order. No public clause cites it.
use Rattle.std.specs.Prelude.{◌+◌, ℕ, List, [], ◌∷◌, Option, is_none, if◌then◌else◌}
use Rattle.std.specs.BTreeMap.Range.{entries_between}
use Rattle.std.specs.Ordering.{nat_cmp}
use Rattle.std.specs.Map.{values_of}
use Rattle.std.specs.declared.ops.Bound.TheVariants.{Included, Unbounded}
use Rattle.q4_cond.specs.Tree.{Tree}
use Rattle.q4_cond.specs.Values.{meets}
use Rattle.q4_table.specs.declared.rows.StoredRow.{StoredRow}

-- how many rows are asked, of those that nobody owns, up to the first that meets the condition
abbrev pub asked : Option Tree → List StoredRow → ℕ
asked tree [] = 0
asked tree (r ∷ rows) = if is_none r.owner then 1 + (if meets r.row tree then 0 else asked tree rows) else asked tree rows

-- the rows of a map's entries from a number on
abbrev pub values_from : ℕ → List (ℕ × StoredRow) → List StoredRow
values_from from entries = values_of (entries_between nat_cmp (Included from) Unbounded entries)
