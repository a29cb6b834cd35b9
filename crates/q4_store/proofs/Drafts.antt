-- The bytes of a whole table as it is written.
use Rattle.std.proofs.Common.{◌≡◌, ℕ, ◌+◌, ◌*◌, ◌<◌, ◌≤◌, true, not, List, [], ◌∷◌, ◌++◌, All, None, length, map, replicate, refl, sym, ◌∙◌, ap, subst, arith, length-append}
use Rattle.std.specs.Int.{w64, to_be_bytes}
use Rattle.std.specs.List.{flat_map, sum_by}
use Rattle.std.proofs.lemmas.List.{append-nil, drop_all, drop_at}
use Rattle.std.proofs.lemmas.List.Concat.{flat_map-append}
use Rattle.std.proofs.lemmas.List.Filters.{length-filter_both}
use Rattle.std.proofs.lemmas.List.Sums.{sum_by-cons}
use Rattle.std.proofs.lemmas.List.Elements.{All-nil, All-head, All-tail, All-weaker}
use Rattle.q4_value.specs.declared.column.Column.{Column}
use Rattle.q4_value.specs.Names.{AreColumns, IsColumnName}
use Rattle.q4_table.specs.declared.rows.StoredRow.{StoredRow}
use Rattle.q4_table.specs.declared.marks.Mark.{Mark}
use Rattle.q4_table.specs.TableState.{TableState, new_table}
use Rattle.q4_table.specs.Rows.{bytes_of}
use Rattle.q4_table.specs.Valid.{IsColumns, IsMark, SourcesRise, IsValidTable}
use Rattle.q4_value.specs.Row.{row_size, Fits}
use Rattle.q4_value.specs.Spelling.{optional_count}
use Rattle.q4_record.specs.Record.{record_bytes, records_bytes}
use Rattle.q4_record.specs.Schema.{column_bytes, schema_bytes, IsSchema}
use Rattle.q4_record.specs.Side.{base_at, generation_limit, OwnSide}
use Rattle.q4_record.specs.Written.{row_record, mark_record, next_record, base_records, base_bytes, written, written_length, IsWritten}
use Rattle.q4_record.proofs.WrittenSides.{written_side}
use Rattle.q4_disk.specs.Images.{written as overwritten}
use Rattle.q4_disk.proofs.Ranges.{written_at}
use Rattle.q4_disk.specs.declared.disk.Side.{Side}
use Rattle.q4_store.specs.Parts.{IsBlank, opened}
use Rattle.q4_store.specs.Copied.{rows_from, row_cost, rest_records, piece_bytes}
use Rattle.q4_store.specs.Device.{DeviceCall, fill_calls}
use Rattle.q4_store.specs.Looking.{header_bytes, IsDraft, draft_length}
use Rattle.q4_store.proofs.Parting.{rise_from, all_from}
use Rattle.q4_store.proofs.Pieces.{rows_length, piece_is}
use Rattle.q4_store.proofs.Finishing.{marks_length, all_some}

pub are_columns : (columns : List Column) → AreColumns columns → IsColumns columns
are_columns columns is = record { some = omega (arith, is.some); few = is.few }

pub is_schema : (columns : List Column) → AreColumns columns → IsSchema columns
is_schema columns is = record { few = omega (arith, is.few); names = All-weaker (λ (column : Column). IsColumnName column.name) (λ (column : Column). length column.name < 256) (λ column named. let few = named.is_name.few in omega (arith, few)) columns is.named.names }

new_is_valid : (columns : List Column) → AreColumns columns → IsValidTable (new_table columns)
new_is_valid columns is = record {
  columns = are_columns columns is;
  begins = omega arith;
  limit = omega arith;
  numbers = tt;
  fit = All-nil (λ (r : StoredRow). Fits columns r.row);
  marks = record { rise = tt; each = All-nil IsMark };
  count = omega arith;
  bytes = omega arith;
}

schema_small : (columns : List Column) → All (λ (column : Column). IsColumnName column.name) columns → length (flat_map column_bytes columns) ≤ 66 * length columns
schema_small [] names = omega arith
schema_small (c ∷ cs) names =
    let first = (All-head (λ (column : Column). IsColumnName column.name) c cs names).is_name.few in
    let rest = schema_small cs (All-tail (λ (column : Column). IsColumnName column.name) c cs names) in
    omega (arith, first, rest, length-append c.name (flat_map column_bytes cs))

-- flags are no more than columns
flags_few : (columns : List Column) → optional_count columns ≤ length columns
flags_few columns = omega (arith, length-filter_both (λ (c : Column). c.optional) (λ (c : Column). not c.optional) (λ c. refl) columns)

rows_small : (columns : List Column) (rows : List StoredRow) → optional_count columns ≤ 32 → sum_by (row_cost columns) rows ≤ bytes_of rows + 41 * length rows
rows_small columns [] few = omega arith
rows_small columns (r ∷ rs) few =
    let rest = rows_small columns rs few in
    let size : StoredRow → ℕ = λ r. row_size r.row in
    omega (arith, few, rest, sum_by-cons (row_cost columns) r rs, sum_by-cons size r rs)

-- sources rise, from a number on, and are below 64
marks_small : (low : ℕ) (marks : List Mark) → SourcesRise marks → All IsMark marks → All (λ m. low ≤ m.source) marks → low ≤ 64 → low + length marks ≤ 64
marks_small low [] rise are from le = omega (arith, le)
marks_small low (m ∷ ms) rise are from le =
    let source = (All-head IsMark m ms are).source in
    let here = All-head (λ (m : Mark). low ≤ m.source) m ms from in
    let later = All-weaker (λ (n : Mark). m.source < n.source) (λ (n : Mark). m.source + 1 ≤ n.source) (λ n lt. omega (arith, lt)) ms rise.0 in
    let rest = marks_small (m.source + 1) ms rise.1 (All-tail IsMark m ms are) later (omega (arith, source)) in
    omega (arith, here, rest)

-- a table's base, which is far below the limit of a side
base_small : (table : TableState) → AreColumns table.columns → IsValidTable table → length (base_bytes table) + 32 * length table.rows ≤ 100000000
base_small table is valid =
    let schema = schema_small table.columns is.named.names in
    let flags = flags_few table.columns in
    let rows = rows_small table.columns table.rows (omega (arith, flags, is.few)) in
    let marks = marks_small 0 table.marks valid.marks.rise valid.marks.each (All-weaker IsMark (λ (m : Mark). 0 ≤ m.source) (λ m is. omega arith) table.marks valid.marks.each) (omega arith) in
    let count = valid.count in
    let bytes = valid.bytes in
    let few = is.few in
    let row_records = map (row_record table.columns) table.rows in
    let mark_records = map mark_record table.marks in
    let next = next_record table.next ∷ [] in
    omega (
      arith,
      schema,
      rows,
      marks,
      count,
      bytes,
      few,
      length-append (schema_bytes table.columns) (records_bytes (base_records table)),
      ap length (flat_map-append record_bytes row_records (mark_records ++ next)),
      length-append (records_bytes row_records) (records_bytes (mark_records ++ next)),
      ap length (flat_map-append record_bytes mark_records next),
      length-append (records_bytes mark_records) (records_bytes next),
      rows_length table.columns table.rows,
      marks_length table.marks,
    )

-- a table that nobody owns a row of may be written
pub may_write : (table : TableState) (generation : ℕ) → AreColumns table.columns → IsValidTable table → All (λ r. r.owner ≡ None) table.rows → 1 ≤ generation → generation ≤ generation_limit → IsWritten table generation [] 0 []
may_write table generation is valid unowned positive limit =
    let small = base_small table is valid in
    record {
      valid = valid;
      schema = is_schema table.columns is;
      unowned = unowned;
      positive = positive;
      limit = limit;
      stand = tt;
      closed = omega arith;
      few = omega (arith, small, length-append (base_bytes table) (0 ∷ []));
      room = omega (arith, small);
    }

pub new_is_written : (columns : List Column) → AreColumns columns → IsWritten (new_table columns) 1 [] 0 []
new_is_written columns is = may_write (new_table columns) 1 is (new_is_valid columns is) (All-nil (λ (r : StoredRow). r.owner ≡ None)) (omega arith) (omega arith)

-- the bytes of its side with an open gate
pub draft_side : (table : TableState) (generation : ℕ) (base header : List ℕ) → IsWritten table generation [] 0 [] → IsDraft table generation base header → OwnSide table.columns (1 ∷ (header ++ base)) table generation (draft_length table)
draft_side table generation base header is draft =
    let side = written_side table generation [] 0 [] is in
    let bytes : 1 ∷ (header ++ base) ≡ written table generation [] 0 [] = ap (λ (l : List ℕ). 1 ∷ (l ++ base)) draft.header_is ∙ ap (λ (l : List ℕ). 1 ∷ (header_bytes generation (length (base_bytes table)) ++ l)) draft.base_is in
    let len : written_length table [] ≡ draft_length table = omega arith in
    subst (λ (l : List ℕ). OwnSide table.columns l table generation (draft_length table)) (sym bytes) (subst (λ (n : ℕ). OwnSide table.columns (written table generation [] 0 []) table generation n) len side)

-- what is read of a blank side once the draft is written
filled : (blank base header : List ℕ) → (b : IsBlank blank) → length header ≡ 20 → overwritten (overwritten blank 21 base) 1 header ≡ b.gate ∷ (header ++ base)
filled blank base header b twenty =
    ap (λ (l : List ℕ). overwritten (overwritten l 21 base) 1 header) (b.is ∙ sym (append-nil (b.gate ∷ replicate 20 0)))
    ∙ ap (λ (l : List ℕ). overwritten l 1 header) (written_at (b.gate ∷ replicate 20 0) [] base 21 refl ∙ ap (λ (l : List ℕ). (b.gate ∷ replicate 20 0) ++ l) (ap (λ (l : List ℕ). base ++ l) (drop_all (length base) [] (omega arith)) ∙ append-nil base))
    ∙ written_at (b.gate ∷ []) (replicate 20 0 ++ base) header 1 refl
    ∙ ap (λ (l : List ℕ). b.gate ∷ (header ++ l)) (drop_at (replicate 20 0) base (length header) (sym twenty))

-- which stands for the table with an open gate
pub draft_stands : (table : TableState) (generation : ℕ) (blank base handed header : List ℕ) → IsWritten table generation [] 0 [] → IsDraft table generation base header → IsBlank blank → handed ≡ base
    → OwnSide table.columns (opened (overwritten (overwritten blank 21 handed) 1 header)) table generation (draft_length table)
draft_stands table generation blank base handed header is draft b same =
    let bytes : overwritten (overwritten blank 21 handed) 1 header ≡ b.gate ∷ (header ++ base) = ap (λ (l : List ℕ). overwritten (overwritten blank 21 l) 1 header) same ∙ filled blank base header b (ap length draft.header_is) in
    subst (λ (l : List ℕ). OwnSide table.columns l table generation (draft_length table)) (sym (ap opened bytes)) (draft_side table generation base header is draft)

-- what is handed over is as long
pub draft_end : (table : TableState) (generation : ℕ) (base header handed : List ℕ) → IsDraft table generation base header → handed ≡ base → draft_length table ≡ 21 + length handed
draft_end table generation base header handed draft same = omega (arith, ap length same, ap length draft.base_is, length-append (base_bytes table) (0 ∷ []))

-- the calls that fill a side with it
abbrev pub table_fill : Side → TableState → ℕ → List DeviceCall
table_fill side table generation = fill_calls side base_at (base_bytes table ++ 0 ∷ []) (header_bytes generation (length (base_bytes table)))

pub draft_calls : (side : Side) (table : TableState) (generation : ℕ) (base handed header : List ℕ) → IsDraft table generation base header → handed ≡ base → fill_calls side 21 handed header ≡ table_fill side table generation
draft_calls side table generation base handed header draft same =
    ap (λ (l : List ℕ). fill_calls side 21 l header) (same ∙ draft.base_is) ∙ ap (fill_calls side 21 (base_bytes table ++ 0 ∷ [])) draft.header_is

-- ## What is gathered of a copy from its beginning on is a base

pub gathered_base : (table : TableState) → IsValidTable table → piece_bytes true table.columns [] (rest_records 1 table) ≡ base_bytes table
gathered_base table valid =
    let all : rows_from 1 table.rows ≡ table.rows = all_from 1 table.rows (rise_from 0 table.next 1 table.rows valid.numbers (omega arith)) in
    sym (piece_is table.columns [] [] (rest_records 1 table) base_at [] refl (λ none. refl) refl)
    ∙ all_some table.columns [] 1 table
    ∙ ap (λ rows. schema_bytes table.columns ++ records_bytes (map (row_record table.columns) rows ++ (map mark_record table.marks ++ next_record table.next ∷ []))) all
