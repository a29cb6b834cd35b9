-- A copy does not see who owns a row.
use Rattle.std.proofs.Common.{◌≡◌, ℕ, ◌+◌, Bool, true, false, cond, List, [], ◌∷◌, ◌++◌, map, take, refl, sym, ap, subst, ◌∙◌, arith}
use Rattle.std.specs.List.{sum_by}
use Rattle.std.proofs.lemmas.List.{take-map}
use Rattle.std.proofs.lemmas.List.Sums.{sum_by-cons}
use Rattle.q4_value.specs.declared.column.Column.{Column}
use Rattle.q4_table.specs.declared.rows.StoredRow.{StoredRow}
use Rattle.q4_table.specs.TableState.{TableState}
use Rattle.q4_table.specs.Owners.{without_owner, without_owners}
use Rattle.q4_record.specs.Replay.{at_batches}
use Rattle.q4_record.specs.Schema.{IsSchema}
use Rattle.q4_record.specs.Written.{row_record, mark_record, next_record}
use Rattle.q4_store.specs.Content.{Content, table_of}
use Rattle.q4_store.specs.Store.{Stored, StandsFor}
use Rattle.q4_disk.specs.Told.{Told}
use Rattle.q4_store.proofs.Drafts.{is_schema}
use Rattle.q4_store.proofs.Lifting.{columns_stay}
use Rattle.q4_store.specs.Copied.{is_from, rows_from, row_cost, cursor_after, taken, rest_records}

one_from : (b : Bool) (r : StoredRow) (xs ys : List StoredRow) → xs ≡ map without_owner ys → cond b (without_owner r ∷ xs) xs ≡ map without_owner (cond b (r ∷ ys) ys)
one_from true r xs ys same = ap (λ qs. without_owner r ∷ qs) same
one_from false r xs ys same = same

pub from_unowned : (cursor : ℕ) (rows : List StoredRow) → rows_from cursor (map without_owner rows) ≡ map without_owner (rows_from cursor rows)
from_unowned cursor [] = refl
from_unowned cursor (r ∷ rs) = one_from (is_from cursor r) r (rows_from cursor (map without_owner rs)) (rows_from cursor rs) (from_unowned cursor rs)

records_same : (columns : List Column) (rows : List StoredRow) → map (row_record columns) (map without_owner rows) ≡ map (row_record columns) rows
records_same columns [] = refl
records_same columns (r ∷ rs) = ap (λ qs. row_record columns r ∷ qs) (records_same columns rs)

cursor_same : (cursor : ℕ) (rows : List StoredRow) → cursor_after cursor (map without_owner rows) ≡ cursor_after cursor rows
cursor_same cursor [] = refl
cursor_same cursor (r ∷ rs) = cursor_same (r.number + 1) rs

cost_same : (columns : List Column) (rows : List StoredRow) → sum_by (row_cost columns) (map without_owner rows) ≡ sum_by (row_cost columns) rows
cost_same columns [] = refl
cost_same columns (r ∷ rs) = omega (arith, cost_same columns rs, sum_by-cons (row_cost columns) (without_owner r) (map without_owner rs), sum_by-cons (row_cost columns) r rs)

taken_unowned : (n cursor : ℕ) (table : TableState) → taken n cursor (without_owners table) ≡ map without_owner (taken n cursor table)
taken_unowned n cursor table = ap (take n) (from_unowned cursor table.rows) ∙ take-map without_owner n (rows_from cursor table.rows)

-- the records of a piece, its cursor, and what is left
pub piece_unowned : (n cursor : ℕ) (table : TableState) → map (row_record table.columns) (taken n cursor (without_owners table)) ≡ map (row_record table.columns) (taken n cursor table)
piece_unowned n cursor table = ap (map (row_record table.columns)) (taken_unowned n cursor table) ∙ records_same table.columns (taken n cursor table)

pub cursor_unowned : (n cursor : ℕ) (table : TableState) → cursor_after cursor (taken n cursor (without_owners table)) ≡ cursor_after cursor (taken n cursor table)
cursor_unowned n cursor table = ap (cursor_after cursor) (taken_unowned n cursor table) ∙ cursor_same cursor (taken n cursor table)

pub rest_unowned : (cursor : ℕ) (table : TableState) → rest_records cursor (without_owners table) ≡ rest_records cursor table
rest_unowned cursor table = ap (λ rows. rows ++ (map mark_record table.marks ++ next_record table.next ∷ [])) (ap (map (row_record table.columns)) (from_unowned cursor table.rows) ∙ records_same table.columns (rows_from cursor table.rows))

pub cost_unowned : (cursor : ℕ) (table : TableState) → sum_by (row_cost table.columns) (rows_from cursor (without_owners table).rows) ≡ sum_by (row_cost table.columns) (rows_from cursor table.rows)
cost_unowned cursor table = ap (sum_by (row_cost table.columns)) (from_unowned cursor table.rows) ∙ cost_same table.columns (rows_from cursor table.rows)

-- the columns of a store's table have a schema
pub schema_here : {D : Type 0} (told : D → Told) (store : Stored D) (content : Content) (table : TableState) → StandsFor told store content → table_of content ≡ without_owners table → IsSchema table.columns
schema_here told store content table s same = subst IsSchema (sym (columns_stay (at_batches content.committed) content.pending) ∙ ap (λ (t : TableState). t.columns) same) (is_schema content.committed.columns s.columns)
