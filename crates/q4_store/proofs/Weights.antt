-- How long records and sides are, by the tables that they lead to.
use Rattle.std.proofs.Common.{◌≡◌, ℕ, ◌+◌, ◌*◌, ◌≤◌, Bool, true, false, cond, List, [], ◌∷◌, None, Some, Option, length, drop, not, eqb, ltb, refl, sym, ap, ◌∙◌, arith}
use Rattle.std.specs.Int.{w32, to_be_bytes}
use Rattle.std.proofs.lemmas.Bool.{ltb-true, le-ltb}
use Rattle.std.specs.List.{filter, sum_by}
use Rattle.std.proofs.lemmas.List.{length-append, length-take}
use Rattle.std.proofs.lemmas.List.Filters.{sum_by-filter_both}
use Rattle.std.proofs.lemmas.List.Concat.{flat_map-cons}
use Rattle.std.proofs.lemmas.List.Sums.{sum_by-append, sum_by-cons}
use Rattle.q4_value.specs.declared.column.Column.{Column}
use Rattle.q4_value.specs.declared.row.Value.{Value}
use Rattle.q4_value.specs.Spelling.{optional_count}
use Rattle.q4_table.specs.declared.marks.Mark as marks
use Rattle.q4_table.specs.declared.origin.Origin.{Origin}
use Rattle.q4_table.specs.declared.rows.StoredRow.{StoredRow}
use Rattle.q4_table.specs.TableState.{TableState}
use Rattle.q4_table.specs.Marks.{with_mark}
use Rattle.q4_table.specs.Rows.{without_row}
use Rattle.q4_table.specs.Adding.{add_row}
use Rattle.q4_record.specs.declared.head.Head.{Head}
use Rattle.q4_record.specs.declared.head.Head.TheVariants.{Insert, End, Mark, Next}
use Rattle.q4_record.specs.declared.replay.Stage.{Stage}
use Rattle.q4_record.specs.declared.replay.Stage.TheVariants as stage
use Rattle.q4_record.specs.Record.{Record, record_bytes, records_bytes, row_columns}
use Rattle.q4_record.specs.Replay.{ReplayState, table_after, stage_after, replayed, replays, at_base, at_batches, AllStand}
use Rattle.q4_record.specs.Schema.{schema_bytes}
use Rattle.q4_record.specs.Side.{base_at, base_length_of, batch_bytes, batches_bytes, after_batches, BatchesStand, OwnSide}
use Rattle.q4_store.specs.Lengths.{change_size}
use Rattle.q4_store.proofs.Lengths.{change_length}
use Rattle.q4_store.proofs.Lifting.{columns_stay}
use Rattle.q4_store.specs.Copied.{row_cost, compact_size}

-- what a table's rows and marks take at least
abbrev pub weight : TableState → ℕ
weight table = sum_by (row_cost table.columns) table.rows + 10 * length table.marks

step : {X : Type 0} (b d : Bool) (x : X) (xs ys : List X) (n : ℕ) → (b ≡ true → d ≡ false) → length xs + length ys ≤ n → length (cond b (x ∷ xs) xs) + length (cond d (x ∷ ys) ys) ≤ n + 1
step true true x xs ys n apart le = let off = apart refl in absurd (cc off)
step true false x xs ys n apart le = omega (arith, le)
step false true x xs ys n apart le = omega (arith, le)
step false false x xs ys n apart le = omega (arith, le)

-- no element passes both tests
both_few : {X : Type 0} (p q : X → Bool) → ((x : X) → p x ≡ true → q x ≡ false) → (xs : List X) → length (filter p xs) + length (filter q xs) ≤ length xs
both_few p q apart [] = omega arith
both_few p q apart (x ∷ xs) = let more = step (p x) (q x) x (filter p xs) (filter q xs) (length xs) (apart x) (both_few p q apart xs) in omega (arith, more)

pub one_mark_more : (source number : ℕ) (ms : List marks.Mark) → length (with_mark source number ms) ≤ length ms + 1
one_mark_more source number ms =
    let lesser : marks.Mark → Bool = λ m. ltb m.source source in
    let greater : marks.Mark → Bool = λ m. ltb source m.source in
    let both = both_few lesser greater (λ m lt. let less = ltb-true m.source source lt in le-ltb source m.source (omega (arith, less))) ms in
    omega (arith, both, length-append (filter lesser ms) (record { source = source; number = number } ∷ filter greater ms))

pub fewer : (columns : List Column) (number : ℕ) (rows : List StoredRow) → sum_by (row_cost columns) (without_row number rows) ≤ sum_by (row_cost columns) rows
fewer columns number rows =
    let others : StoredRow → Bool = λ r. not (eqb r.number number) in
    let sizes = sum_by-filter_both others (λ r. not (others r)) (λ r. refl) (row_cost columns) rows in
    omega (arith, sizes)

-- what one record adds, and the 9 bytes of a base's next record
abbrev next_cost : Stage → ℕ
next_cost stage.Rows = 0
next_cost (stage.Marks last) = 0
next_cost stage.Whole = 9
next_cost stage.Batch = 0

next_few : (s : Stage) → next_cost s ≤ 9
next_few stage.Rows = omega arith
next_few (stage.Marks last) = omega arith
next_few stage.Whole = omega arith
next_few stage.Batch = omega arith

adds : (s : Stage) (table : TableState) (head : Head) (row : List Value) → weight (table_after table head row) + next_cost (stage_after s head) ≤ weight table + next_cost s + change_size (record { head = head; columns = row_columns table.columns head; row = row })
adds s table (Insert number None) row =
    let new : StoredRow = record { number = number; row = row; owner = None } in
    omega (arith, sum_by-append (row_cost table.columns) table.rows (new ∷ []), sum_by-cons (row_cost table.columns) new [])
adds s table (Insert number (Some origin)) row =
    let new : StoredRow = record { number = number; row = row; owner = None } in
    omega (arith, sum_by-append (row_cost table.columns) table.rows (new ∷ []), sum_by-cons (row_cost table.columns) new [], one_mark_more origin.source origin.number table.marks)
adds s table (End number) row = omega (arith, fewer table.columns number table.rows)
adds s table (Mark source number) row = omega (arith, one_mark_more source number table.marks)
adds s table (Next number) row = omega (arith, next_few s)

all_add : (replay : ReplayState) (rs : List Record) → AllStand replay rs → weight (replays replay rs).table + next_cost (replays replay rs).stage ≤ weight replay.table + next_cost replay.stage + length (records_bytes rs)
all_add replay [] stand = omega arith
all_add replay (r ∷ rs) stand =
    let one = adds replay.stage replay.table r.head r.row in
    let rest = all_add (replayed replay r) rs stand.1 in
    let flags = ap optional_count stand.0.is.columns_are in
    omega (arith, one, rest, flags, change_length r, ap length (flat_map-cons record_bytes r rs), length-append (record_bytes r) (records_bytes rs))

-- the table alone
table_adds : (s : Stage) (table : TableState) (head : Head) (row : List Value) → weight (table_after table head row) ≤ weight table + change_size (record { head = head; columns = row_columns table.columns head; row = row })
table_adds s table (Insert number None) row = let one = adds stage.Batch table (Insert number None) row in omega (arith, one)
table_adds s table (Insert number (Some origin)) row = let one = adds stage.Batch table (Insert number (Some origin)) row in omega (arith, one)
table_adds s table (End number) row = let one = adds stage.Batch table (End number) row in omega (arith, one)
table_adds s table (Mark source number) row = let one = adds stage.Batch table (Mark source number) row in omega (arith, one)
table_adds s table (Next number) row = omega arith

pub tables_add : (replay : ReplayState) (rs : List Record) → AllStand replay rs → weight (replays replay rs).table ≤ weight replay.table + length (records_bytes rs)
tables_add replay [] stand = omega arith
tables_add replay (r ∷ rs) stand =
    let one = table_adds replay.stage replay.table r.head r.row in
    let rest = tables_add (replayed replay r) rs stand.1 in
    let flags = ap optional_count stand.0.is.columns_are in
    omega (arith, one, rest, flags, change_length r, ap length (flat_map-cons record_bytes r rs), length-append (record_bytes r) (records_bytes rs))

batches_add : (replay : ReplayState) (bs : List (List Record)) → BatchesStand replay bs → weight (after_batches replay bs).table ≤ weight replay.table + length (batches_bytes bs)
batches_add replay [] stand = omega arith
batches_add replay (b ∷ bs) stand =
    let one = tables_add replay b stand.0 in
    let rest = batches_add (replays replay b) bs stand.1 in
    omega (arith, one, rest, ap length (flat_map-cons batch_bytes b bs), length-append (batch_bytes b) (batches_bytes bs), length-append (1 ∷ to_be_bytes w32 (length (records_bytes b))) (records_bytes b))

batches_leave : (replay : ReplayState) (bs : List (List Record)) → (after_batches replay bs).table.columns ≡ replay.table.columns
batches_leave replay [] = refl
batches_leave replay (b ∷ bs) = batches_leave (replays replay b) bs ∙ columns_stay replay b

-- a side is at least as long as a copy of its table would be
pub side_long : (columns : List Column) (bytes : List ℕ) (table : TableState) (generation len : ℕ) → OwnSide columns bytes table generation len → compact_size table ≤ len
side_long columns bytes table generation len s =
    let w = s.stands in
    let reaches = w.reaches in
    let base = reaches.base in
    let all = all_add (at_base columns) base.records base.stand in
    let all_is = ap (λ (q : ReplayState). weight q.table + next_cost q.stage) base.replay_is in
    let later = batches_add (at_batches reaches.base_table) w.batches reaches.stand in
    let later_is = ap (λ (q : ReplayState). weight q.table) reaches.replay_is in
    let table_is = ap weight w.table_is in
    let base_is = ap length base.base_is in
    let cut = length-take (base_length_of bytes) (drop base_at bytes) in
    let base_columns : reaches.base_table.columns ≡ columns = sym (ap (λ (q : ReplayState). q.table.columns) base.replay_is) ∙ columns_stay (at_base columns) base.records in
    let columns_are : table.columns ≡ columns = ap (λ (t : TableState). t.columns) w.table_is ∙ ap (λ (q : ReplayState). q.table.columns) reaches.replay_is ∙ batches_leave (at_batches reaches.base_table) w.batches ∙ base_columns in
    let schema = ap (λ cs. length (schema_bytes cs)) columns_are in
    omega (arith, all, all_is, later, later_is, table_is, base_is, cut, schema, w.len_is, length-append (schema_bytes columns) (records_bytes base.records))

-- ## What changes make of it

pub compact_added : (table : TableState) (row : List Value) (origin : Option Origin) → compact_size (add_row table row origin) ≤ compact_size table + change_size (record { head = Insert table.next origin; columns = table.columns; row = row })
compact_added table row origin = let one = table_adds stage.Batch table (Insert table.next origin) row in omega (arith, one)

pub compact_removed : (table : TableState) (number : ℕ) → compact_size (record table { rows = without_row number table.rows }) ≤ compact_size table
compact_removed table number = omega (arith, fewer table.columns number table.rows)
