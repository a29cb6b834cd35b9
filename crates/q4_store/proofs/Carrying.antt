-- A copy that is under way, as changes are appended.
use Rattle.std.proofs.Common.{◌≡◌, ℕ, ◌+◌, ◌*◌, ◌<◌, ◌≤◌, not, eqb, ltb, List, [], ◌∷◌, ◌++◌, None, Some, Option, length, sym, ap, subst, ◌∙◌, append_assoc, length-append, inl, inr, arith}
use Rattle.std.specs.List.{sum_by}
use Rattle.std.proofs.lemmas.Bool.{cases_lt, le-leb, cond-true, cond-false, lt-ltb, le-ltb}
use Rattle.std.proofs.lemmas.List.{flat_map_more}
use Rattle.std.proofs.lemmas.List.Elements.{filter-append}
use Rattle.std.proofs.lemmas.List.Sums.{sum_by-append, sum_by-cons}
use Rattle.q4_value.specs.declared.row.Value.{Value}
use Rattle.q4_value.specs.Spelling.{row_bytes}
use Rattle.q4_table.specs.declared.origin.Origin.{Origin}
use Rattle.q4_table.specs.declared.rows.StoredRow.{StoredRow}
use Rattle.q4_table.specs.TableState.{TableState}
use Rattle.q4_table.specs.Rows.{without_row, IsThere}
use Rattle.q4_table.specs.Adding.{add_row}
use Rattle.q4_table.specs.Valid.{IsValidTable}
use Rattle.q4_record.specs.declared.head.Head.TheVariants.{Insert}
use Rattle.q4_record.specs.Record.{Record, record_bytes, records_bytes}
use Rattle.q4_record.specs.Replay.{ReplayState, replays, at_base}
use Rattle.q4_disk.specs.Told.{Told}
use Rattle.q4_store.specs.declared.copying.Progress.{Progress}
use Rattle.q4_store.specs.Content.{Content, row_added, row_ended}
use Rattle.q4_store.specs.Lengths.{change_size}
use Rattle.q4_store.specs.Copied.{is_from, rows_from, rows_below, row_cost, copy_length, IsCopied}
use Rattle.q4_store.specs.Store.{Stored, CopyStands, StandsFor, ends_with, pending_length}
use Rattle.q4_store.proofs.Commits.{some_bytes}
use Rattle.q4_store.proofs.Lengths.{change_length, batch_size_more, pending_more}
use Rattle.q4_store.proofs.Parting.{filters_swap, there_below}
use Rattle.q4_store.proofs.CopyRecords.{copy_inserted, copy_ended_above, copy_ended_below}
use Rattle.q4_store.proofs.Weights.{one_mark_more, fewer}

-- the store is longer by the change at least
pub longer : (waiting records : List ℕ) (change : Record) → records ≡ waiting ++ record_bytes change → pending_length waiting + change_size change ≤ pending_length records
longer waiting records change is =
    let more = ap pending_length is ∙ pending_more waiting (record_bytes change) (some_bytes change.head (row_bytes change.columns change.row)) in
    let cost = batch_size_more waiting (length (record_bytes change)) in
    omega (arith, more, cost, change_length change)

marks_more : (table : TableState) (row : List Value) (origin : Option Origin) → 10 * length (add_row table row origin).marks + (9 + sum_by (row_cost table.columns) []) ≤ 10 * length table.marks + change_size (record { head = Insert table.next origin; columns = []; row = [] })
marks_more table row None = omega arith
marks_more table row (Some origin) = omega (arith, one_mark_more origin.source origin.number table.marks)

insert_size : (table : TableState) (row : List Value) (origin : Option Origin) → change_size (record { head = Insert table.next origin; columns = table.columns; row = row }) + 9 ≡ change_size (record { head = Insert table.next origin; columns = []; row = [] }) + row_cost table.columns (record { number = table.next; row = row; owner = None })
insert_size table row None = omega arith
insert_size table row (Some origin) = omega arith

-- a row that is added comes to the rest
copy_added : (cursor : ℕ) (table : TableState) (records : List Record) (row : List Value) (origin : Option Origin) → cursor ≤ table.next
    → copy_length cursor (add_row table row origin) records ≤ copy_length cursor table records + change_size (record { head = Insert table.next origin; columns = table.columns; row = row })
copy_added cursor table records row origin within =
    let new : StoredRow = record { number = table.next; row = row; owner = None } in
    let rows : rows_from cursor (table.rows ++ new ∷ []) ≡ rows_from cursor table.rows ++ new ∷ [] = filter-append (is_from cursor) table.rows (new ∷ []) ∙ ap (λ qs. rows_from cursor table.rows ++ qs) (cond-true _ (new ∷ []) [] (le-leb cursor table.next within)) in
    omega (arith, ap (sum_by (row_cost table.columns)) rows, sum_by-append (row_cost table.columns) (rows_from cursor table.rows) (new ∷ []), sum_by-cons (row_cost table.columns) new [], marks_more table row origin, insert_size table row origin)

-- one that is removed leaves it, or is none of it
copy_removed : (cursor : ℕ) (table : TableState) (records : List Record) (number : ℕ) → copy_length cursor (record table { rows = without_row number table.rows }) records ≤ copy_length cursor table records
copy_removed cursor table records number =
    let rows : rows_from cursor (without_row number table.rows) ≡ without_row number (rows_from cursor table.rows) = filters_swap (is_from cursor) (λ r. not (eqb r.number number)) table.rows in
    omega (arith, ap (sum_by (row_cost table.columns)) rows, fewer table.columns number (rows_from cursor table.rows))

nothing_there : (number : ℕ) (rows : List StoredRow) → rows ≡ [] → IsThere rows number → ⊥
nothing_there number rows none there = let wrong = subst (λ qs. IsThere qs number) none there in absurd (cc wrong)

module _ {D : Type 0} (told : D → Told) (store : Stored D) (table : TableState) (progress : Progress) (c : CopyStands told store table progress) where
  pub row_carried : (row : List Value) (origin : Option Origin) (records : List ℕ) (rows reserved : ℕ) → records ≡ store.records ++ record_bytes (row_added table.columns table.next row origin)
      → CopyStands told (record store { records = records; rows = rows; reserved = reserved }) (add_row table row origin) progress
  row_carried row origin records rows reserved is = record {
    written = c.written;
    waiting = c.waiting;
    copied = copy_inserted table progress.cursor (c.written ++ c.waiting) row origin c.copied;
    first = c.first;
    ends = c.ends;
    at = c.at;
    fits = omega (arith, c.fits, copy_added progress.cursor table (c.written ++ c.waiting) row origin c.copied.within, longer store.records records (row_added table.columns table.next row origin) is);
    shut = c.shut;
    limit = c.limit;
    bytes = c.bytes;
  }

  end_above : (number : ℕ) (records : List ℕ) (rows reserved : ℕ) → progress.cursor ≤ number → records ≡ store.records ++ record_bytes (row_ended number)
      → CopyStands told (record store { records = records; rows = rows; reserved = reserved }) (record table { rows = without_row number table.rows }) progress
  end_above number records rows reserved le is = record {
    written = c.written;
    waiting = c.waiting;
    copied = copy_ended_above table progress.cursor number (c.written ++ c.waiting) le c.copied;
    first = c.first;
    ends = c.ends;
    at = c.at;
    fits = omega (arith, c.fits, copy_removed progress.cursor table (c.written ++ c.waiting) number, longer store.records records (row_ended number) is);
    shut = c.shut;
    limit = c.limit;
    bytes = c.bytes;
  }

  end_below : (number : ℕ) (records ends : List ℕ) (rows reserved : ℕ) → IsValidTable table → number < progress.cursor → IsThere table.rows number → records ≡ store.records ++ record_bytes (row_ended number) → ends ≡ store.ends ++ record_bytes (row_ended number)
      → CopyStands told (record store { records = records; rows = rows; reserved = reserved; ends = ends }) (record table { rows = without_row number table.rows }) progress
  end_below number records ends rows reserved valid lt there is ends_are =
      let one = row_ended number in
      let all : c.written ++ (c.waiting ++ one ∷ []) ≡ (c.written ++ c.waiting) ++ one ∷ [] = sym (append_assoc c.written c.waiting (one ∷ [])) in
      let later : TableState = record table { rows = without_row number table.rows } in
      let below = there_below number progress.cursor table.rows lt there in
      let none_there : c.written ≡ [] → ⊥ = λ none. nothing_there number (rows_below progress.cursor table.rows) (sym (ap (λ (q : ReplayState). q.table.rows) c.copied.leads) ∙ ap (λ rs. (replays (at_base table.columns) rs).table.rows) (λ i. none i ++ c.first none i)) below in
      let size = ap (λ rs. length (records_bytes rs)) all ∙ ap length (sym (flat_map_more record_bytes [] (c.written ++ c.waiting) one)) in
      record {
        written = c.written;
        waiting = c.waiting ++ one ∷ [];
        copied = subst (λ rs. IsCopied later progress.cursor rs) (sym all) (copy_ended_below table progress.cursor number (c.written ++ c.waiting) valid lt there c.copied);
        first = λ none. absurd (none_there none);
        ends = ends_are ∙ ap (λ (l : List ℕ). l ++ record_bytes one) c.ends ∙ flat_map_more record_bytes [] c.waiting one;
        at = c.at;
        fits = omega (arith, c.fits, copy_removed progress.cursor table (c.written ++ c.waiting) number, longer store.records records one is, size, length-append (records_bytes (c.written ++ c.waiting)) (record_bytes one), change_length one);
        shut = c.shut;
        limit = c.limit;
        bytes = c.bytes;
      }

  -- the end of a row, of which the copy hears where it has the row
  pub end_carried : (number : ℕ) (records ends : List ℕ) (rows reserved : ℕ) → IsValidTable table → IsThere table.rows number → records ≡ store.records ++ record_bytes (row_ended number) → ends ≡ ends_with (Some progress) store.ends number
      → CopyStands told (record store { records = records; rows = rows; reserved = reserved; ends = ends }) (record table { rows = without_row number table.rows }) progress
  end_carried number records ends rows reserved valid there is ends_are = elim (cases_lt number progress.cursor) [
    | inl lt ↦ end_below number records ends rows reserved valid lt there is (ends_are ∙ cond-true (ltb number progress.cursor) (store.ends ++ record_bytes (row_ended number)) store.ends (lt-ltb number progress.cursor lt))
    | inr le ↦ subst (λ (l : List ℕ). CopyStands told (record store { records = records; rows = rows; reserved = reserved; ends = l }) (record table { rows = without_row number table.rows }) progress)
        (sym (ends_are ∙ cond-false (ltb number progress.cursor) (store.ends ++ record_bytes (row_ended number)) store.ends (le-ltb number progress.cursor le))) (end_above number records rows reserved le is)
  ]

-- a store whose memory alone changed
pub kept_stands : {D : Type 0} (told : D → Told) (store : Stored D) (content : Content) (records ends : List ℕ) (reserved : ℕ) → StandsFor told store content → records ≡ store.records → ends ≡ store.ends
    → StandsFor told (record store { records = records; ends = ends; reserved = reserved }) content
kept_stands told store content records ends reserved s same_records same_ends =
    let here : StandsFor told (record store { reserved = reserved }) content = record {
      columns = s.columns;
      own = s.own;
      valid = s.valid;
      unowned = s.unowned;
      stand = s.stand;
      records = s.records;
      rows = s.rows;
      images = s.images;
      settled = s.settled;
      ready = s.ready;
      long = s.long;
      copy = λ progress is. let c = s.copy progress is in record {
        written = c.written;
        waiting = c.waiting;
        copied = c.copied;
        first = c.first;
        ends = c.ends;
        at = c.at;
        fits = c.fits;
        shut = c.shut;
        limit = c.limit;
        bytes = c.bytes;
      };
    } in
    subst (λ (l : List ℕ). StandsFor told (record store { records = records; ends = l; reserved = reserved }) content) (sym same_ends)
    (subst (λ (l : List ℕ). StandsFor told (record store { records = l; reserved = reserved }) content) (sym same_records) here)
