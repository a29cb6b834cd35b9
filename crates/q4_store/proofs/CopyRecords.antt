-- What the records of a copy lead to, and what each change and each piece makes of them.
use Rattle.std.proofs.Common.{◌≡◌, ℕ, zero, suc, ◌+◌, ◌-◌, ◌<◌, ◌≤◌, Bool, not, eqb, List, [], ◌∷◌, ◌++◌, None, Option, length, map, take, drop, refl, sym, ap, subst, ◌∙◌, append_assoc, arith}
use Rattle.std.specs.List.{All}
use Rattle.std.proofs.lemmas.List.{append-nil, length-append, take-append-drop, take_all}
use Rattle.std.proofs.lemmas.List.Elements.{All-nil, All-head, All-filter, All-take}
use Rattle.std.proofs.lemmas.List.Filters.{length-filter_both, sum_by-filter_both}
use Rattle.std.proofs.lemmas.List.Sums.{fold-append, sum_by-append}
use Rattle.q4_value.specs.declared.column.Column.{Column}
use Rattle.q4_value.specs.declared.row.Value.{Value}
use Rattle.q4_value.specs.Row.{Fits, row_size}
use Rattle.q4_table.specs.declared.origin.Origin.{Origin}
use Rattle.q4_table.specs.declared.rows.StoredRow.{StoredRow}
use Rattle.q4_table.specs.TableState.{TableState}
use Rattle.q4_table.specs.Rows.{numbers_of, bytes_of, without_row, IsThere}
use Rattle.q4_table.specs.Adding.{add_row, count_limit, bytes_limit}
use Rattle.q4_table.specs.Valid.{RiseBelow, IsValidTable}
use Rattle.q4_record.specs.declared.head.Head.TheVariants.{End}
use Rattle.q4_record.specs.declared.replay.Stage.TheVariants as stage
use Rattle.q4_record.specs.Wide.{IsWideValue}
use Rattle.q4_record.specs.Record.{Record}
use Rattle.q4_record.specs.Replay.{ReplayState, replayed, replays, at_base, passed_limit, Stands, AllStand}
use Rattle.q4_record.specs.Written.{row_record, mark_record, next_record}
use Rattle.q4_record.proofs.Limits.{passes_none, ended_within}
use Rattle.q4_record.proofs.WrittenBases.{table_of, plain, plain_same, rows_stand, marks_stand, may_next, table_within, none_below as no_marks_below, stand_append}
use Rattle.q4_store.specs.Copied.{is_below, is_from, rows_below, rows_from, part_below, rest_records, IsCopied, IsFinished, cursor_after, taken}
use Rattle.q4_store.proofs.Parting.{rise_from, none_below, below_added, below_removed, there_below, filters_swap, parted, below_after, stays_within, from_rises, are_from}

-- at the beginning, nothing
pub copy_begun : (table : TableState) → IsValidTable table → IsCopied table 1 []
copy_begun table valid = record {
  within = valid.begins;
  stand = tt;
  leads = ap (λ rows. record { stage = stage.Rows; table = table_of table.columns 1 rows [] }) (sym (none_below 1 table.rows (rise_from 0 table.next 1 table.rows valid.numbers (omega arith))));
}

-- a row that is added has the next number
pub copy_inserted : (table : TableState) (cursor : ℕ) (records : List Record) (row : List Value) (origin : Option Origin) → IsCopied table cursor records → IsCopied (add_row table row origin) cursor records
copy_inserted table cursor records row origin is = record {
  within = omega (arith, is.within);
  stand = is.stand;
  leads = is.leads ∙ ap (λ rows. record { stage = stage.Rows; table = table_of table.columns cursor rows [] }) (sym (below_added cursor table.rows (record { number = table.next; row = row; owner = None }) is.within));
}

-- the end of a row from the cursor on
pub copy_ended_above : (table : TableState) (cursor number : ℕ) (records : List Record) → cursor ≤ number → IsCopied table cursor records → IsCopied (record table { rows = without_row number table.rows }) cursor records
copy_ended_above table cursor number records le is = record {
  within = is.within;
  stand = is.stand;
  leads = is.leads ∙ ap (λ rows. record { stage = stage.Rows; table = table_of table.columns cursor rows [] }) (sym (below_removed cursor number table.rows le));
}

-- the records so far, and more that stand where they lead to
pub copied_more : (table : TableState) (cursor : ℕ) (next : TableState) (last : ℕ) (records more : List Record) → IsCopied table cursor records → next.columns ≡ table.columns → last ≤ next.next
    → AllStand (record { stage = stage.Rows; table = part_below cursor table }) more → replays (record { stage = stage.Rows; table = part_below cursor table }) more ≡ record { stage = stage.Rows; table = part_below last next } → IsCopied next last (records ++ more)
copied_more table cursor next last records more is columns within stand leads = record {
  within = within;
  stand = subst (λ cs. AllStand (at_base cs) (records ++ more)) (sym columns) (stand_append (at_base table.columns) records more is.stand (subst (λ q. AllStand q more) (sym is.leads) stand));
  leads = ap (λ cs. replays (at_base cs) (records ++ more)) columns ∙ fold-append replayed (at_base table.columns) records more ∙ ap (λ q. replays q more) is.leads ∙ leads;
}

-- ## The end of a row below the cursor

fewer_below : (cursor : ℕ) (rows : List StoredRow) → (length (rows_below cursor rows) ≤ length rows) × (bytes_of (rows_below cursor rows) ≤ bytes_of rows)
fewer_below cursor rows =
    let others : StoredRow → Bool = λ r. not (is_below cursor r) in
    let count = length-filter_both (is_below cursor) others (λ r. refl) rows in
    let sizes = sum_by-filter_both (is_below cursor) others (λ r. refl) (λ r. row_size r.row) rows in
    (omega (arith, count), omega (arith, sizes))

below_within : (table : TableState) (cursor : ℕ) → IsValidTable table → cursor ≤ table.next → passed_limit (part_below cursor table) [] ≡ None
below_within table cursor valid le =
    let few = fewer_below cursor table.rows in
    let count = valid.count in
    let bytes = valid.bytes in
    let limit = valid.limit in
    passes_none (part_below cursor table) [] (record { rows = omega (arith, few.0, count); bytes = omega (arith, few.1, bytes); next = omega (arith, le, limit); short = refl; size = omega arith })

pub copy_ended_below : (table : TableState) (cursor number : ℕ) (records : List Record) → IsValidTable table → number < cursor → IsThere table.rows number → IsCopied table cursor records
    → IsCopied (record table { rows = without_row number table.rows }) cursor (records ++ record { head = End number; columns = []; row = [] } ∷ [])
copy_ended_below table cursor number records valid lt there is =
    let limit = valid.limit in
    let one : Stands (record { stage = stage.Rows; table = part_below cursor table }) (record { head = End number; columns = []; row = [] }) = record {
      is = record { head = omega (arith, lt, is.within, limit); columns_are = refl; row = record { taken = tt; values = All-nil IsWideValue } };
      may = there_below number cursor table.rows lt there;
      within = ended_within (part_below cursor table) number (below_within table cursor valid is.within);
    } in
    copied_more table cursor (record table { rows = without_row number table.rows }) cursor records (record { head = End number; columns = []; row = [] } ∷ []) is refl is.within (one, tt)
    (ap (λ rows. record { stage = stage.Rows; table = table_of table.columns cursor rows [] }) (filters_swap (λ r. not (eqb r.number number)) (is_below cursor) table.rows))

-- ## Rows that are copied

-- they lead to a table with all of them, and their cursor
rows_lead : (columns : List Column) (next : ℕ) (front rows : List StoredRow) → replays (record { stage = stage.Rows; table = table_of columns next front [] }) (map (row_record columns) rows) ≡ record { stage = stage.Rows; table = table_of columns (cursor_after next rows) (front ++ map plain rows) [] }
rows_lead columns next front [] = ap (λ rs. record { stage = stage.Rows; table = table_of columns next rs [] }) (sym (append-nil front))
rows_lead columns next front (r ∷ rs) =
    rows_lead columns (r.number + 1) (front ++ plain r ∷ []) rs
    ∙ ap (λ qs. record { stage = stage.Rows; table = table_of columns (cursor_after (r.number + 1) rs) qs [] }) (append_assoc front (plain r ∷ []) (map plain rs))

rise_taken : (low next n : ℕ) (rows : List StoredRow) → RiseBelow low next (numbers_of rows) → RiseBelow low next (numbers_of (take n rows))
rise_taken low next zero rows rise = tt
rise_taken low next (suc n) [] rise = tt
rise_taken low next (suc n) (r ∷ rs) rise = (rise.0, rise.1, rise_taken r.number next n rs rise.2)

-- numbers that rise from a cursor on rise from above the number before it
rise_higher : (next cursor : ℕ) (rows : List StoredRow) → RiseBelow 0 next (numbers_of rows) → All (λ r. cursor ≤ r.number) rows → RiseBelow (cursor - 1) next (numbers_of rows)
rise_higher next cursor [] rise all = tt
rise_higher next cursor (r ∷ rs) rise all = let here = All-head (λ (q : StoredRow). cursor ≤ q.number) r rs all in (omega (arith, here, rise.0), rise.1, rise.2)

-- they stand behind those below it, and lead to those below the cursor behind them
module _ (table : TableState) (cursor n : ℕ) (records : List Record) (valid : IsValidTable table) (unowned : All (λ r. r.owner ≡ None) table.rows) (is : IsCopied table cursor records) where
  abbrev left : List StoredRow
  left = drop n (rows_from cursor table.rows)

  abbrev front : List StoredRow
  front = rows_below cursor table.rows

  whole : (front ++ taken n cursor table) ++ left ≡ table.rows
  whole = append_assoc front (taken n cursor table) left ∙ ap (λ qs. front ++ qs) (take-append-drop n (rows_from cursor table.rows)) ∙ parted 0 table.next cursor table.rows valid.numbers

  taken_fit : All (λ r. Fits table.columns r.row) (taken n cursor table)
  taken_fit = All-take (λ (r : StoredRow). Fits table.columns r.row) n (rows_from cursor table.rows) (All-filter (is_from cursor) (λ (r : StoredRow). Fits table.columns r.row) table.rows valid.fit)

  taken_unowned : All (λ r. r.owner ≡ None) (taken n cursor table)
  taken_unowned = All-take (λ (r : StoredRow). r.owner ≡ None) n (rows_from cursor table.rows) (All-filter (is_from cursor) (λ (r : StoredRow). r.owner ≡ None) table.rows unowned)

  taken_rise : RiseBelow (cursor - 1) table.next (numbers_of (taken n cursor table))
  taken_rise = rise_taken (cursor - 1) table.next n (rows_from cursor table.rows) (rise_higher table.next cursor (rows_from cursor table.rows) (from_rises 0 table.next cursor table.rows valid.numbers) (are_from cursor table.rows))

  abbrev size : StoredRow → ℕ
  size r = row_size r.row

  taken_count : length (front ++ taken n cursor table) ≤ count_limit
  taken_count = let count = valid.count in omega (arith, count, ap length whole, length-append (front ++ taken n cursor table) left)

  taken_bytes : bytes_of (front ++ taken n cursor table) ≤ bytes_limit
  taken_bytes = let bytes = valid.bytes in omega (arith, bytes, ap bytes_of whole, sum_by-append size (front ++ taken n cursor table) left)

  pub piece_stands : AllStand (record { stage = stage.Rows; table = part_below cursor table }) (map (row_record table.columns) (taken n cursor table))
  piece_stands = (rows_stand table.columns cursor table.next (cursor - 1) front (taken n cursor table) taken_fit taken_rise (omega arith) is.within valid.limit taken_count taken_bytes).stand

  pub piece_leads : replays (record { stage = stage.Rows; table = part_below cursor table }) (map (row_record table.columns) (taken n cursor table)) ≡ record { stage = stage.Rows; table = part_below (cursor_after cursor (taken n cursor table)) table }
  piece_leads =
      rows_lead table.columns cursor front (taken n cursor table)
      ∙ ap (λ qs. record { stage = stage.Rows; table = table_of table.columns (cursor_after cursor (taken n cursor table)) (front ++ qs) [] }) (plain_same (taken n cursor table) taken_unowned)
      ∙ ap (λ qs. record { stage = stage.Rows; table = table_of table.columns (cursor_after cursor (taken n cursor table)) qs [] }) (sym (below_after 0 table.next cursor n table.rows valid.numbers))

  pub piece_copied : IsCopied table (cursor_after cursor (taken n cursor table)) (records ++ map (row_record table.columns) (taken n cursor table))
  piece_copied = copied_more table cursor table (cursor_after cursor (taken n cursor table)) records (map (row_record table.columns) (taken n cursor table)) is refl
      (stays_within 0 table.next cursor n (rows_from cursor table.rows) (from_rises 0 table.next cursor table.rows valid.numbers) is.within) piece_stands piece_leads

-- ## The end of a copy

-- the marks and the next number, behind all rows
base_ends : (table : TableState) (after : ℕ) → after ≤ table.next → IsValidTable table → AllStand (record { stage = stage.Rows; table = table_of table.columns after table.rows [] }) (map mark_record table.marks ++ next_record table.next ∷ [])
    × (replays (record { stage = stage.Rows; table = table_of table.columns after table.rows [] }) (map mark_record table.marks ++ next_record table.next ∷ []) ≡ record { stage = stage.Whole; table = table })
base_ends table after after_le valid =
    let columns = table.columns in
    let limit = valid.limit in
    let start : ReplayState = record { stage = stage.Rows; table = table_of columns after table.rows [] } in
    let ms = marks_stand columns after table.rows stage.Rows [] table.marks (table_within table after valid (omega (arith, after_le, limit)) []) valid.marks.each valid.marks.rise tt (no_marks_below table.marks) in
    let end : AllStand (record { stage = ms.last; table = table_of columns after table.rows table.marks }) (next_record table.next ∷ []) = (
      record {
        is = record { head = omega (arith, limit); columns_are = refl; row = record { taken = tt; values = All-nil IsWideValue } };
        may = may_next ms.last (table_of columns after table.rows table.marks) table.next ms.may_end after_le;
        within = table_within table table.next valid limit table.marks;
      },
      tt,
    ) in (
      stand_append start (map mark_record table.marks) (next_record table.next ∷ []) ms.stand (subst (λ q. AllStand q (next_record table.next ∷ [])) (sym ms.replay_is) end),
      fold-append replayed start (map mark_record table.marks) (next_record table.next ∷ []) ∙ ap (λ q. replays q (next_record table.next ∷ [])) ms.replay_is,
    )

pub copy_finished : (table : TableState) (cursor : ℕ) (records : List Record) → IsValidTable table → All (λ r. r.owner ≡ None) table.rows → IsCopied table cursor records → IsFinished table (records ++ rest_records cursor table)
copy_finished table cursor records valid unowned is =
    let columns = table.columns in
    let rows = rows_from cursor table.rows in
    let n = length rows in
    let all : take n rows ≡ rows = take_all n rows (omega arith) in
    let after = cursor_after cursor rows in
    let front = rows_below cursor table.rows in
    let stand : AllStand (record { stage = stage.Rows; table = part_below cursor table }) (map (row_record table.columns) rows) = subst (λ qs. AllStand (record { stage = stage.Rows; table = part_below cursor table }) (map (row_record table.columns) qs)) all (piece_stands table cursor n records valid unowned is) in
    let leads : replays (record { stage = stage.Rows; table = part_below cursor table }) (map (row_record table.columns) rows) ≡ record { stage = stage.Rows; table = table_of columns after table.rows [] } =
    rows_lead columns cursor front rows
    ∙ ap (λ qs. record { stage = stage.Rows; table = table_of columns after (front ++ qs) [] }) (plain_same rows (All-filter (is_from cursor) (λ (r : StoredRow). r.owner ≡ None) table.rows unowned))
    ∙ ap (λ qs. record { stage = stage.Rows; table = table_of columns after qs [] }) (parted 0 table.next cursor table.rows valid.numbers) in
    let after_le : after ≤ table.next = subst (λ qs. cursor_after cursor qs ≤ table.next) all (stays_within 0 table.next cursor n rows (from_rises 0 table.next cursor table.rows valid.numbers) is.within) in
    let ends = base_ends table after after_le valid in
    let tail = map mark_record table.marks ++ next_record table.next ∷ [] in
    let rest_stand : AllStand (record { stage = stage.Rows; table = part_below cursor table }) (map (row_record table.columns) rows ++ tail) =
    stand_append (record { stage = stage.Rows; table = part_below cursor table }) (map (row_record table.columns) rows) tail stand (subst (λ q. AllStand q tail) (sym leads) ends.0) in
    record {
      stand = stand_append (at_base columns) records (map (row_record table.columns) rows ++ tail) is.stand (subst (λ q. AllStand q (map (row_record table.columns) rows ++ tail)) (sym is.leads) rest_stand);
      leads = fold-append replayed (at_base columns) records (map (row_record table.columns) rows ++ tail)
          ∙ ap (λ q. replays q (map (row_record table.columns) rows ++ tail)) is.leads
          ∙ fold-append replayed (record { stage = stage.Rows; table = part_below cursor table }) (map (row_record table.columns) rows) tail
          ∙ ap (λ q. replays q tail) leads
          ∙ ends.1;
    }
