-- What an insert's row says of the record.
use Rattle.std.proofs.Common.{◌≡◌, ℕ, ◌-◌, ◌≤◌, ◌++◌, Bool, false, List, Option, None, Some, length, drop, refl, sym, ap, ◌∙◌, arith}
use Rattle.std.specs.List.{list_any}
use Rattle.std.proofs.lemmas.List.{drop_at}
use Rattle.q4_value.specs.declared.column.Column.{Column}
use Rattle.q4_value.specs.declared.row.Value.{Value}
use Rattle.q4_value.specs.Row.{IsRowOf, row_size}
use Rattle.q4_value.specs.Reading.{Reads}
use Rattle.q4_value.specs.Spelling.{row_bytes, optional_count}
use Rattle.q4_value.proofs.Spelled.{length-row_bytes}
use Rattle.q4_table.specs.declared.origin.Origin.{Origin}
use Rattle.q4_record.specs.declared.head.Head.TheVariants.{Insert}
use Rattle.q4_record.specs.Wide.{is_long}
use Rattle.q4_record.specs.Extents.{WholeRow, CutRow, IllRow}
use Rattle.q4_record.specs.Replay.{ReplayState, table_after, replayed, passed_limit}
use Rattle.q4_record.specs.Parts.{RowStands, RowPasses, NoRow}
use Rattle.q4_record.proofs.Cuts.{wide_row, none_long, short_row, none_of_cut, none_of_ill}
use Rattle.q4_record.proofs.Limits.{within}

-- the size of a row that is all there
whole_size : (columns : List Column) (bytes : List ℕ) (len size : ℕ) (long : Bool) → (w : WholeRow columns bytes len long) → size ≡ len - optional_count columns → size ≡ row_size w.row
whole_size columns bytes len size long w size_is = omega (arith, size_is, w.len_is, length-row_bytes columns w.row)

pub flags_within : (columns : List Column) (bytes : List ℕ) (len : ℕ) (long : Bool) → WholeRow columns bytes len long → optional_count columns ≤ len
flags_within columns bytes len long w = omega (arith, w.len_is, length-row_bytes columns w.row)

pub whole_passes : (old : ReplayState) (number : ℕ) (origin : Option Origin) (bytes : List ℕ) (len size : ℕ) (long : Bool) (limit : ℕ) (answer : Option ℕ) → WholeRow old.table.columns bytes len long → size ≡ len - optional_count old.table.columns
    → ((origin : Option Origin) (row : List Value) → size ≡ row_size row → long ≡ list_any is_long row → answer ≡ passed_limit (table_after old.table (Insert number origin) row) row)
    → answer ≡ Some limit → RowPasses old (Insert number origin) bytes limit
whole_passes old number origin bytes len size long limit answer w size_is says is =
    record { row = w.row; rest = w.rest; bytes_are = w.bytes_are; is = w.is; passed = sym (says origin w.row (whole_size old.table.columns bytes len size long w size_is) w.long_is) ∙ is }

-- a row that passes no limit has no text that is too long
pub whole_short : (old : ReplayState) (number : ℕ) (origin : Option Origin) (bytes : List ℕ) (len size : ℕ) (long : Bool) (answer : Option ℕ) → WholeRow old.table.columns bytes len long → size ≡ len - optional_count old.table.columns
    → ((origin : Option Origin) (row : List Value) → size ≡ row_size row → long ≡ list_any is_long row → answer ≡ passed_limit (table_after old.table (Insert number origin) row) row)
    → answer ≡ None → ((row : List Value) (rest : List ℕ) → IsRowOf old.table.columns row → bytes ≡ row_bytes old.table.columns row ++ rest → ⊥) → ⊥
whole_short old number origin bytes len size long answer w size_is says is none =
    let passed = sym (says origin w.row (whole_size old.table.columns bytes len size long w size_is) w.long_is) ∙ is in
    let all = within (table_after old.table (Insert number origin) w.row) w.row passed in
    none w.row w.rest (short_row old.table.columns w.row w.is all.short) w.bytes_are

pub no_row_cut : (old : ReplayState) (number : ℕ) (origin : Option Origin) (bytes : List ℕ) → CutRow old.table.columns bytes false → NoRow old (Insert number origin) bytes
no_row_cut old number origin bytes f = let n = none_of_cut old.table.columns bytes f in record { none = n.0; not_long = n.1 }

pub no_row_ill : (old : ReplayState) (number : ℕ) (origin : Option Origin) (bytes : List ℕ) → IllRow old.table.columns bytes → NoRow old (Insert number origin) bytes
no_row_ill old number origin bytes f = let n = none_of_ill old.table.columns bytes f in record { none = n.0; not_long = n.1 }

pub read_passes : (old : ReplayState) (number : ℕ) (origin : Option Origin) (bytes : List ℕ) (row : List Value) (len size limit : ℕ) (answer : Option ℕ) → Reads old.table.columns bytes row len → size ≡ row_size row
    → ((origin : Option Origin) (row : List Value) → size ≡ row_size row → false ≡ list_any is_long row → answer ≡ passed_limit (table_after old.table (Insert number origin) row) row)
    → answer ≡ Some limit → RowPasses old (Insert number origin) bytes limit
read_passes old number origin bytes row len size limit answer r size_is says is =
    record { row = row; rest = r.rest; bytes_are = r.bytes_are; is = wide_row old.table.columns row r.row_of; passed = sym (says origin row size_is (sym (none_long row r.row_of.values))) ∙ is }

pub read_within : (old : ReplayState) (number : ℕ) (origin : Option Origin) (bytes : List ℕ) (row : List Value) (len size : ℕ) (answer : Option ℕ) → Reads old.table.columns bytes row len → size ≡ row_size row
    → ((origin : Option Origin) (row : List Value) → size ≡ row_size row → false ≡ list_any is_long row → answer ≡ passed_limit (table_after old.table (Insert number origin) row) row)
    → answer ≡ None → passed_limit (table_after old.table (Insert number origin) row) row ≡ None
read_within old number origin bytes row len size answer r size_is says is = sym (says origin row size_is (sym (none_long row r.row_of.values))) ∙ is

pub read_stands : (old : ReplayState) (number : ℕ) (origin : Option Origin) (bytes : List ℕ) (row : List Value) (len : ℕ) (new : ReplayState) → Reads old.table.columns bytes row len
    → passed_limit (table_after old.table (Insert number origin) row) row ≡ None → new ≡ replayed old (record { head = Insert number origin; columns = old.table.columns; row = row }) → RowStands old (Insert number origin) bytes new (drop len bytes)
read_stands old number origin bytes row len new r passed is =
    let own = row_bytes old.table.columns row in
    let behind : drop len bytes ≡ r.rest = ap (λ n. drop n bytes) r.len_is ∙ ap (drop (length own)) r.bytes_are ∙ drop_at own r.rest (length own) refl in
    record { row = row; bytes_are = r.bytes_are ∙ ap (λ bs. own ++ bs) (sym behind); is = wide_row old.table.columns row r.row_of; within = passed; new_is = is }
