-- How much longer than the least a copy that is under way will be.
use Rattle.std.proofs.Common.{◌≡◌, ℕ, ◌+◌, ◌*◌, ◌<◌, ◌≤◌, Bool, true, cond, not, eqb, ltb, List, [], ◌∷◌, ◌++◌, None, Some, Option, length, map, refl, sym, ap, subst, ◌∙◌, length-append, inl, inr, IsSome, arith}
use Rattle.std.specs.List.{sum_by}
use Rattle.std.proofs.Math.Nat.{mul-suc}
use Rattle.std.specs.Option.{option_map}
use Rattle.std.proofs.lemmas.Bool.{cases_lt, eq-eqb, ne_eqb, lt-ltb, le-ltb, le-leb, leb-true, cond-true, cond-false}
use Rattle.std.proofs.lemmas.List.Elements.{All-weaker, filter-append, filter_passes}
use Rattle.std.proofs.lemmas.List.Concat.{flat_map-append}
use Rattle.std.proofs.lemmas.List.Sums.{sum_by-append, sum_by-cons}
use Rattle.q4_value.specs.declared.column.Column.{Column}
use Rattle.q4_value.specs.declared.row.Value.{Value}
use Rattle.q4_value.specs.Row.{row_size}
use Rattle.q4_value.specs.Spelling.{optional_count}
use Rattle.q4_table.specs.declared.origin.Origin.{Origin}
use Rattle.q4_table.specs.declared.rows.StoredRow.{StoredRow}
use Rattle.q4_table.specs.TableState.{TableState}
use Rattle.q4_table.specs.Rows.{without_row, row_in, values_in, bytes_of}
use Rattle.q4_table.specs.Adding.{add_row}
use Rattle.q4_table.specs.Valid.{IsValidTable}
use Rattle.q4_table.proofs.Validity.{valid-removed, bytes-removed}
use Rattle.q4_table.specs.Owners.{without_owners}
use Rattle.q4_record.specs.Record.{Record, record_bytes, records_bytes}
use Rattle.q4_record.specs.Schema.{schema_bytes}
use Rattle.q4_record.specs.Side.{base_at}
use Rattle.q4_record.specs.Written.{row_record}
use Rattle.q4_record.proofs.WrittenBases.{kept}
use Rattle.q4_disk.specs.Told.{Told}
use Rattle.q4_store.specs.declared.copying.Progress.{Progress}
use Rattle.q4_store.specs.Content.{Content, table_of, row_ended, row_added, with_change}
use Rattle.q4_store.specs.Copied.{is_from, rows_from, rows_below, row_cost, cursor_after, taken, compact_size, copy_bytes}
use Rattle.q4_store.specs.Store.{Stored, StandsFor, TakesRow, IsLongerBy, finished_length, end_extra, ends_with}
use Rattle.q4_record.specs.Replay.{at_batches}
use Rattle.q4_store.proofs.Appending.{gone}
use Rattle.q4_store.proofs.Lifting.{columns_stay}
use Rattle.q4_store.proofs.Changes.{added_is, ended_is}
use Rattle.q4_store.proofs.CopyStands.{some_same}
use Rattle.q4_store.proofs.Owners.{cost_unowned}
use Rattle.q4_store.proofs.Parting.{parted, all_from, rise_from, below_removed, filters_swap}
use Rattle.q4_store.proofs.Pieces.{piece, piece_at, records, rest_less, rows_length, copy}

-- what a copy has, with the schema where it has none yet
with_schema : (columns : List Column) (rs : List Record) (at : ℕ) → at ≡ base_at + length (copy_bytes columns rs) → at + length (cond (eqb at base_at) (schema_bytes columns) []) ≡ base_at + length (schema_bytes columns) + length (records_bytes rs)
with_schema columns [] at is =
    let bare = ap (λ (b : Bool). length (cond b (schema_bytes columns) [])) (eq-eqb at base_at (omega (arith, is))) in
    omega (arith, is, bare)
with_schema columns (r ∷ rs) at is =
    let size = length-append (schema_bytes columns) (records_bytes (r ∷ rs)) in
    let had = ap (λ (b : Bool). length (cond b (schema_bytes columns) [])) (ne_eqb at base_at (λ none. omega (arith, is, none, size))) in
    omega (arith, is, size, had)

pub finished_is : {D : Type 0} (store : Stored D) (progress : Progress) (table : TableState) (rs : List Record) → progress.at ≡ base_at + length (copy_bytes table.columns rs)
    → finished_length store progress table ≡ base_at + length (schema_bytes table.columns) + length (records_bytes rs) + length store.ends + sum_by (row_cost table.columns) (rows_from progress.cursor table.rows) + 10 * length table.marks + 10
finished_is store progress table rs is = omega (arith, with_schema table.columns rs progress.at is)

-- it does not see an owner
pub finished_unowned : {D : Type 0} (store : Stored D) (progress : Progress) (table : TableState) → finished_length store progress (without_owners table) ≡ finished_length store progress table
finished_unowned store progress table = let same = cost_unowned progress.cursor table in omega (arith, same)

-- a copy that begins
pub begun_longer : {D : Type 0} (store : Stored D) (table : TableState) → IsValidTable table → store.copy ≡ Some (record { cursor = 1; at = base_at }) → store.ends ≡ [] → IsLongerBy store table 0
begun_longer store table valid begun none progress is =
    let all : rows_from 1 table.rows ≡ table.rows = all_from 1 table.rows (rise_from 0 table.next 1 table.rows valid.numbers (omega arith)) in
    let size = ap (sum_by (row_cost table.columns)) all in
    let no_ends = ap (λ (l : List ℕ). length l) none in
    let here : finished_length store (record { cursor = 1; at = base_at }) table ≡ compact_size table + 0 = omega (arith, size, no_ends) in
    subst (λ p. finished_length store p table ≡ compact_size table + 0) (some_same (record { cursor = 1; at = base_at }) progress (sym begun ∙ is)) here

-- ## A row that is added

row_longer : {D : Type 0} (store : Stored D) (records : List ℕ) (rows reserved : ℕ) (table : TableState) (row : List Value) (origin : Option Origin) (extra : ℕ) → ((progress : Progress) → store.copy ≡ Some progress → progress.cursor ≤ table.next)
    → IsLongerBy store table extra → IsLongerBy (record store { records = records; rows = rows; reserved = reserved }) (add_row table row origin) extra
row_longer store records rows reserved table row origin extra within longer progress is =
    let new : StoredRow = record { number = table.next; row = row; owner = None } in
    let from : rows_from progress.cursor (table.rows ++ new ∷ []) ≡ rows_from progress.cursor table.rows ++ new ∷ [] =
    filter-append (is_from progress.cursor) table.rows (new ∷ []) ∙ ap (λ qs. rows_from progress.cursor table.rows ++ qs) (cond-true _ (new ∷ []) [] (le-leb progress.cursor table.next (within progress is))) in
    omega (arith, longer progress is, ap (sum_by (row_cost table.columns)) from, sum_by-append (row_cost table.columns) (rows_from progress.cursor table.rows) (new ∷ []), sum_by-append (row_cost table.columns) table.rows (new ∷ []), sum_by-cons (row_cost table.columns) new [])

pub row_added_longer : {D : Type 0} (told : D → Told) (store : Stored D) (content : Content) (columns : List Column) (number : ℕ) (row : List Value) (origin : Option Origin) (records : List ℕ) (rows reserved extra : ℕ) → StandsFor told store content → TakesRow content number row origin
    → IsLongerBy store (table_of content) extra → IsLongerBy (record store { records = records; rows = rows; reserved = reserved }) (table_of (with_change content (row_added columns number row origin))) extra
row_added_longer told store content columns number row origin records rows reserved extra s t longer =
    subst (λ table. IsLongerBy (record store { records = records; rows = rows; reserved = reserved }) table extra) (sym (added_is content columns number row origin t.is_next))
    (row_longer store records rows reserved (table_of content) row origin extra (λ progress is. (s.copy progress is).copied.within) longer)

-- ## One that is removed

cost_is : (columns : List Column) (rows : List StoredRow) → sum_by (row_cost columns) rows ≡ 9 * length rows + optional_count columns * length rows + bytes_of rows
cost_is columns [] = omega arith
cost_is columns (r ∷ rs) = omega (arith, cost_is columns rs, mul-suc (optional_count columns) (length rs), sum_by-cons (row_cost columns) r rs, sum_by-cons (λ (q : StoredRow). row_size q.row) r rs)

given_row : (o : Option StoredRow) (row : List Value) → option_map (λ (r : StoredRow). r.row) o ≡ Some row → (r : StoredRow) × (o ≡ Some r) × (r.row ≡ row)
given_row None row is = absurd (cc is)
given_row (Some r) row is = (r, refl, cc is)

there_is : (o : Option StoredRow) (r : StoredRow) → o ≡ Some r → IsSome o
there_is o r is = subst (λ (q : Option StoredRow). IsSome q) (sym is) refl

cost_removed : (table : TableState) (number : ℕ) (row : List Value) → IsValidTable table → values_in table.rows number ≡ Some row → sum_by (row_cost table.columns) (without_row number table.rows) + (9 + (row_size row + optional_count table.columns)) ≡ sum_by (row_cost table.columns) table.rows
cost_removed table number row valid is =
    let found = given_row (row_in table.rows number) row is in
    let bytes = bytes-removed 0 table.next number table.rows found.0 valid.numbers found.1 in
    let count = gone 0 table.next number table.rows valid.numbers (there_is (row_in table.rows number) found.0 found.1) in
    let flags = ap (λ (n : ℕ). optional_count table.columns * n) (sym count) in
    omega (arith, bytes, count, flags, mul-suc (optional_count table.columns) (length (without_row number table.rows)), ap row_size found.2, cost_is table.columns table.rows, cost_is table.columns (without_row number table.rows))

from_removed : (cursor number : ℕ) (rows : List StoredRow) → number < cursor → rows_from cursor (without_row number rows) ≡ rows_from cursor rows
from_removed cursor number rows lt =
    filters_swap (is_from cursor) (λ r. not (eqb r.number number)) rows
    ∙ kept (λ r. not (eqb r.number number)) (rows_from cursor rows)
    (All-weaker (λ (r : StoredRow). is_from cursor r ≡ true) (λ (r : StoredRow). not (eqb r.number number) ≡ true) (λ r on. let from = leb-true cursor r.number on in ap not (ne_eqb r.number number (λ same. omega (arith, same, from, lt)))) (rows_from cursor rows) (filter_passes (is_from cursor) rows))

module _ {D : Type 0} (store : Stored D) (records ends : List ℕ) (rows reserved : ℕ) (table : TableState) (number : ℕ) (row : List Value) (extra : ℕ) (progress : Progress) (valid : IsValidTable table) (is : values_in table.rows number ≡ Some row) (longer : finished_length store progress table ≡ compact_size table + extra) where
  abbrev later : Stored D
  later = record store { records = records; rows = rows; reserved = reserved; ends = ends }

  abbrev fewer : TableState
  fewer = record table { rows = without_row number table.rows }

  below_longer : number < progress.cursor → ends ≡ store.ends ++ record_bytes (row_ended number) → finished_length later progress fewer ≡ compact_size fewer + (extra + (18 + (row_size row + optional_count table.columns)))
  below_longer lt ends_are =
      let from = ap (sum_by (row_cost table.columns)) (from_removed progress.cursor number table.rows lt) in
      let size = ap length ends_are ∙ length-append store.ends (record_bytes (row_ended number)) in
      omega (arith, longer, from, size, cost_removed table number row valid is)

  above_longer : progress.cursor ≤ number → ends ≡ store.ends → finished_length later progress fewer ≡ compact_size fewer + extra
  above_longer le ends_are =
      let cursor = progress.cursor in
      let was = ap (sum_by (row_cost table.columns)) (parted 0 table.next cursor table.rows valid.numbers) in
      let now = ap (sum_by (row_cost table.columns)) (parted 0 table.next cursor fewer.rows (valid-removed table number valid).numbers) in
      let below = ap (sum_by (row_cost table.columns)) (below_removed cursor number table.rows le) in
      let size = ap (λ (l : List ℕ). length l) ends_are in
      omega (arith, longer, was, now, below, size, cost_removed table number row valid is, sum_by-append (row_cost table.columns) (rows_below cursor table.rows) (rows_from cursor table.rows), sum_by-append (row_cost table.columns) (rows_below cursor fewer.rows) (rows_from cursor fewer.rows))

  ended_longer : ends ≡ ends_with (Some progress) store.ends number → finished_length later progress fewer ≡ compact_size fewer + (extra + end_extra (Some progress) table.columns number row)
  ended_longer ends_are = elim (cases_lt number progress.cursor) [
    | inl lt ↦
        below_longer lt (ends_are ∙ cond-true (ltb number progress.cursor) (store.ends ++ record_bytes (row_ended number)) store.ends (lt-ltb number progress.cursor lt))
        ∙ ap (λ (n : ℕ). compact_size fewer + (extra + n)) (sym (cond-true (ltb number progress.cursor) (18 + (row_size row + optional_count table.columns)) 0 (lt-ltb number progress.cursor lt)))
    | inr le ↦
        let none : end_extra (Some progress) table.columns number row ≡ 0 = cond-false (ltb number progress.cursor) (18 + (row_size row + optional_count table.columns)) 0 (le-ltb number progress.cursor le) in
        let same = above_longer le (ends_are ∙ cond-false (ltb number progress.cursor) (store.ends ++ record_bytes (row_ended number)) store.ends (le-ltb number progress.cursor le)) in
        omega (arith, same, none)
  ]

pub row_ended_longer : {D : Type 0} (told : D → Told) (store : Stored D) (content : Content) (number : ℕ) (row : List Value) (records ends : List ℕ) (rows reserved extra : ℕ) → StandsFor told store content → values_in (table_of content).rows number ≡ Some row
    → ends ≡ ends_with store.copy store.ends number → IsLongerBy store (table_of content) extra
    → IsLongerBy (record store { records = records; rows = rows; reserved = reserved; ends = ends }) (table_of (with_change content (row_ended number))) (extra + end_extra store.copy store.columns number row)
row_ended_longer told store content number row records ends rows reserved extra s there ends_are longer progress is =
    let table = table_of content in
    let new : Stored _ = record store { records = records; rows = rows; reserved = reserved; ends = ends } in
    let one = ended_longer store records ends rows reserved table number row extra progress s.valid there (longer progress is) (ends_are ∙ ap (λ o. ends_with o store.ends number) is) in
    let own : table.columns ≡ store.columns = columns_stay (at_batches content.committed) content.pending ∙ sym s.own in
    subst (λ cs. finished_length new progress (table_of (with_change content (row_ended number))) ≡ compact_size (table_of (with_change content (row_ended number))) + (extra + end_extra store.copy cs number row)) own
    (subst (λ o. finished_length new progress (table_of (with_change content (row_ended number))) ≡ compact_size (table_of (with_change content (row_ended number))) + (extra + end_extra o table.columns number row)) (sym is)
    (subst (λ t. finished_length new progress t ≡ compact_size t + (extra + end_extra (Some progress) table.columns number row)) (sym (ended_is content number)) one))

-- ## A piece

pub piece_longer : {D : Type 0} (told : D → Told) (store : Stored D) (content : Content) (s : StandsFor told store content) (progress : Progress) (is : store.copy ≡ Some progress) (n : ℕ) (new : Stored D) (cursor extra : ℕ) (more : List ℕ)
    → cursor ≡ cursor_after progress.cursor (taken n progress.cursor (table_of content)) → more ≡ piece told store content s progress is n → new.copy ≡ Some (record { cursor = cursor; at = progress.at + length more }) → new.ends ≡ [] → IsLongerBy store (table_of content) extra → IsLongerBy new (table_of content) extra
piece_longer told store content s progress is n new cursor extra more cursor_is more_is copy_is none longer now now_is =
    let table = table_of content in
    let c = copy told store content s progress is in
    let rows = taken n progress.cursor table in
    let next : Progress = record { cursor = cursor; at = progress.at + length more } in
    let at : next.at ≡ base_at + length (copy_bytes table.columns (records told store content s progress is n)) = ap (λ (l : List ℕ). progress.at + length l) more_is ∙ piece_at told store content s progress is n in
    let was = finished_is store progress table c.written c.at in
    let will = finished_is new next table (records told store content s progress is n) at in
    let all = ap length (flat_map-append record_bytes (c.written ++ c.waiting) (map (row_record table.columns) rows)) ∙ length-append (records_bytes (c.written ++ c.waiting)) (records_bytes (map (row_record table.columns) rows)) in
    let had = ap length (flat_map-append record_bytes c.written c.waiting) ∙ length-append (records_bytes c.written) (records_bytes c.waiting) in
    let ends = ap length c.ends in
    let no_ends = ap (λ (l : List ℕ). length l) none in
    let left = ap (λ (k : ℕ). sum_by (row_cost table.columns) (rows_from k table.rows)) cursor_is in
    let here : finished_length new next table ≡ compact_size table + extra = omega (arith, was, will, all, had, ends, no_ends, left, longer progress is, rows_length table.columns rows, rest_less table progress.cursor n s.valid) in
    subst (λ p. finished_length new p table ≡ compact_size table + extra) (some_same next now (sym copy_is ∙ now_is)) here
