-- Records that stand lead from valid tables to valid tables, in which nobody owns a row.
use Rattle.std.proofs.Common.{◌≡◌, ℕ, ◌+◌, ◌<◌, ◌≤◌, Bool, true, false, cond, eqb, ltb, List, [], ◌∷◌, Option, None, Some, length, refl, sym, ap, subst, ◌∙◌, arith}
use Rattle.std.specs.Option.{ForSome}
use Rattle.std.proofs.lemmas.Bool.{le-ltb}
use Rattle.std.proofs.lemmas.List.{length_push}
use Rattle.std.proofs.lemmas.List.Elements.{All-nil, All-push, All-filter}
use Rattle.std.proofs.lemmas.List.Sums.{sum_by-append, sum_by-cons}
use Rattle.q4_value.specs.declared.column.Column.{Column}
use Rattle.q4_value.specs.declared.row.Value.{Value}
use Rattle.q4_value.specs.Row.{AreWider, Fits, row_size}
use Rattle.q4_value.proofs.Wider.{length-wider}
use Rattle.q4_table.specs.declared.adding.Check.{Check}
use Rattle.q4_table.specs.declared.adding.Check.TheVariants as check
use Rattle.q4_table.specs.declared.origin.Origin.{Origin}
use Rattle.q4_table.specs.declared.rows.StoredRow.{StoredRow}
use Rattle.q4_table.specs.TableState.{TableState, new_table}
use Rattle.q4_table.specs.Rows.{bytes_of}
use Rattle.q4_table.specs.Marks.{with_mark}
use Rattle.q4_table.specs.Adding.{IsOrigin, room_for, number_limit, count_limit, bytes_limit}
use Rattle.q4_table.specs.Valid.{IsColumns, IsMark}
use Rattle.q4_table.proofs.Marking.{marks-with}
use Rattle.q4_table.proofs.Validity.{valid-added, valid-marked, valid-next, valid-removed, valid-wider}
use Rattle.q4_record.specs.declared.head.Head.{Head}
use Rattle.q4_record.specs.declared.head.Head.TheVariants.{Insert, End, Mark, Next}
use Rattle.q4_record.specs.declared.header.Format.{Format}
use Rattle.q4_record.specs.declared.replay.Stage.{Stage}
use Rattle.q4_record.specs.declared.replay.Stage.TheVariants as stage
use Rattle.q4_record.specs.Wide.{IsWideRow}
use Rattle.q4_record.specs.Record.{Record, row_columns}
use Rattle.q4_record.specs.Replay.{ReplayState, MayInsert, MayMark, MayNext, MayCome, table_after, replayed, replays, at_base, at_batches, passed_limit, AllStand}
use Rattle.q4_record.specs.Side.{format_of, base_of, IsBase, BatchesStand, after_batches, OwnSide, Side}
use Rattle.q4_record.specs.Written.{IsSound}
use Rattle.q4_record.proofs.Cuts.{short_row}
use Rattle.q4_record.proofs.Limits.{within}

not_spent : (b : Bool) (o : Check) → b ≡ false → o ≡ check.New → cond b check.Spent o ≡ check.New
not_spent true o off e = absurd cc
not_spent false o off e = e

not_full : (b : Bool) (o : Check) → b ≡ false → o ≡ check.New → cond b check.Rows o ≡ check.New
not_full true o off e = absurd cc
not_full false o off e = e

not_large : (b : Bool) (sum : ℕ) → b ≡ false → cond b (check.Bytes sum) check.New ≡ check.New
not_large true sum off = absurd cc
not_large false sum off = refl

other : (m n : ℕ) → m < n → eqb m n ≡ false
other m n lt = grind arith

has_room : (table : TableState) (row : List Value) → table.next < number_limit → length table.rows < count_limit → bytes_of table.rows + row_size row ≤ bytes_limit → room_for table row ≡ check.New
has_room table row next rows bytes =
    not_spent (eqb table.next number_limit) _ (other table.next number_limit next)
    (not_full (eqb (length table.rows) count_limit) _ (other (length table.rows) count_limit rows)
    (not_large (ltb bytes_limit (bytes_of table.rows + row_size row)) (bytes_of table.rows) (le-ltb bytes_limit (bytes_of table.rows + row_size row) bytes)))

insert_from : (s : Stage) (table : TableState) (number : ℕ) (origin : Option Origin) → MayInsert s table number origin → (table.next ≤ number) × ForSome origin IsOrigin
insert_from stage.Rows table number None may = (may, λ o e. absurd cc)
insert_from stage.Rows table number (Some origin) may = absurd may
insert_from (stage.Marks last) table number origin may = absurd may
insert_from stage.Whole table number origin may = absurd may
insert_from stage.Batch table number None may = (omega (arith, may.0), λ o e. absurd cc)
insert_from stage.Batch table number (Some origin) may = (omega (arith, may.0), λ o e. (let same : origin ≡ o = cc in subst IsOrigin same may.1.0))

mark_from : (s : Stage) (source number : ℕ) → MayMark s source number → IsMark (record { source = source; number = number })
mark_from stage.Rows source number may = may
mark_from (stage.Marks last) source number may = may.1
mark_from stage.Whole source number may = absurd may
mark_from stage.Batch source number may = absurd may

next_from : (s : Stage) (table : TableState) (number : ℕ) → MayNext s table number → table.next ≤ number
next_from stage.Rows table number may = may
next_from (stage.Marks last) table number may = may
next_from stage.Whole table number may = absurd may
next_from stage.Batch table number may = absurd may

sound_insert : (columns : List Column) (s : Stage) (table : TableState) (number : ℕ) (origin : Option Origin) (row : List Value) → IsSound columns table → IsWideRow table.columns row → MayInsert s table number origin
    → passed_limit (table_after table (Insert number origin) row) row ≡ None → IsSound columns (table_after table (Insert number origin) row)
sound_insert columns s table number origin row sound wide may passed =
    let w = within (table_after table (Insert number origin) row) row passed in
    let from = insert_from s table number origin may in
    let size : StoredRow → ℕ = λ r. row_size r.row in
    let new : StoredRow = record { number = number; row = row; owner = None } in
    let next = w.next in
    let rows = w.rows in
    let bytes = w.bytes in
    let at : TableState = record table { next = number } in
    let numbered = valid-next table number sound.valid from.0 (omega (arith, next)) in
    let left : room_for at row ≡ check.New = has_room at row (omega (arith, next)) (omega (arith, rows, length_push table.rows new)) (omega (arith, bytes, sum_by-append size table.rows (new ∷ []), sum_by-cons size new [])) in
    record {
      columns_are = sound.columns_are;
      valid = valid-added at row origin numbered (record { row_of = short_row table.columns row wide w.short; size = w.size }) from.1 left;
      unowned = All-push (λ (r : StoredRow). r.owner ≡ None) table.rows new sound.unowned refl;
    }

sound_step : (columns : List Column) (s : Stage) (table : TableState) (head : Head) (row : List Value) → IsSound columns table → IsWideRow (row_columns table.columns head) row → MayCome s table head → passed_limit (table_after table head row) row ≡ None
    → IsSound columns (table_after table head row)
sound_step columns s table (Insert number origin) row sound wide may passed = sound_insert columns s table number origin row sound wide may passed
sound_step columns s table (End number) row sound wide may passed = record {
  columns_are = sound.columns_are;
  valid = valid-removed table number sound.valid;
  unowned = All-filter (λ (r : StoredRow). _) (λ (r : StoredRow). r.owner ≡ None) table.rows sound.unowned;
}
sound_step columns s table (Mark source number) row sound wide may passed = record {
  columns_are = sound.columns_are;
  valid = valid-marked table (with_mark source number table.marks) sound.valid (marks-with source number table.marks (mark_from s source number may) sound.valid.marks);
  unowned = sound.unowned;
}
sound_step columns s table (Next number) row sound wide may passed =
    let w = within (table_after table (Next number) row) row passed in
    record { columns_are = sound.columns_are; valid = valid-next table number sound.valid (next_from s table number may) w.next; unowned = sound.unowned }

sound_records : (columns : List Column) (replay : ReplayState) (rs : List Record) → IsSound columns replay.table → AllStand replay rs → IsSound columns (replays replay rs).table
sound_records columns replay [] sound all = sound
sound_records columns replay (r ∷ rs) sound all = sound_records columns (replayed replay r) rs (sound_step columns replay.stage replay.table r.head r.row sound all.0.is.row all.0.may all.0.within) all.1

sound_batches : (columns : List Column) (replay : ReplayState) (bs : List (List Record)) → IsSound columns replay.table → BatchesStand replay bs → IsSound columns (after_batches replay bs).table
sound_batches columns replay [] sound all = sound
sound_batches columns replay (b ∷ bs) sound all = sound_batches columns (replays replay b) bs (sound_records columns replay b sound all.0) all.1

sound_new : (columns : List Column) → IsColumns columns → IsSound columns (new_table columns)
sound_new columns is = record {
  columns_are = refl;
  valid = record {
    columns = is;
    begins = omega arith;
    limit = omega arith;
    numbers = tt;
    fit = All-nil (λ (r : StoredRow). Fits columns r.row);
    marks = record { rise = tt; each = All-nil IsMark };
    count = omega arith;
    bytes = omega arith;
  };
  unowned = All-nil (λ (r : StoredRow). r.owner ≡ None);
}

sound_base : (format : Format) (columns : List Column) (base : List ℕ) (table : TableState) → IsColumns columns → IsBase format columns base table → IsSound columns table
sound_base format columns base table is b = subst (λ (replay : ReplayState). IsSound columns replay.table) b.replay_is (sound_records columns (at_base columns) b.records (sound_new columns is) b.stand)

-- a side of its own columns stands for a valid table of these
pub sound_own : (columns : List Column) (bytes : List ℕ) (table : TableState) (generation len : ℕ) → IsColumns columns → OwnSide columns bytes table generation len → IsSound columns table
sound_own columns bytes table generation len is side =
    let w = side.stands in
    let r = w.reaches in
    let sound = sound_batches columns (at_batches r.base_table) w.batches (sound_base (format_of bytes) columns (base_of bytes) r.base_table is r.base) r.stand in
    subst (IsSound columns) (ap (λ (replay : ReplayState). replay.table) (sym r.replay_is) ∙ sym w.table_is) sound

-- and any side for one of the columns given
pub sound_side : (columns : List Column) (bytes : List ℕ) (table : TableState) (generation len : ℕ) → IsColumns columns → Side columns bytes table generation len → IsSound columns table
sound_side columns bytes table generation len is side =
    let many = length-wider columns side.own side.wider in
    let sound = sound_own side.own bytes side.own_table generation len (record { some = omega (arith, is.some, many); few = omega (arith, is.few, many) }) side.stands in
    let wider : AreWider columns side.own_table.columns = subst (AreWider columns) (sym sound.columns_are) side.wider in
    subst (IsSound columns) (sym side.table_is) (record { columns_are = refl; valid = valid-wider side.own_table columns sound.valid wider; unowned = sound.unowned })
