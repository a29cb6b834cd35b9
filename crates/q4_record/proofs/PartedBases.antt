-- The records of a base are of rows, then marks, then one next record.
use Rattle.std.proofs.Common.{◌≡◌, ℕ, ◌<◌, List, [], ◌∷◌, ◌++◌, None, Some, map, refl, sym, ap, subst, ◌∙◌, arith}
use Rattle.std.specs.List.{All}
use Rattle.std.proofs.lemmas.List.Elements.{All-nil, All-cons, All-weaker}
use Rattle.q4_value.specs.declared.column.Column.{Column}
use Rattle.q4_table.specs.declared.marks.Mark as marks
use Rattle.q4_table.specs.TableState.{TableState}
use Rattle.q4_table.specs.Valid.{SourcesRise}
use Rattle.q4_record.specs.declared.head.Head.{Head}
use Rattle.q4_record.specs.declared.head.Head.TheVariants.{Insert, End, Mark, Next}
use Rattle.q4_record.specs.declared.header.Format.{Format}
use Rattle.q4_record.specs.declared.replay.Stage.TheVariants as stage
use Rattle.q4_record.specs.Wide.{IsWideRow}
use Rattle.q4_record.specs.Record.{Record, records_bytes, row_columns}
use Rattle.q4_record.specs.Replay.{ReplayState, replayed, replays, at_base, stage_after, MayCome, Stands, AllStand}
use Rattle.q4_record.specs.Schema.{schema_bytes}
use Rattle.q4_record.specs.Side.{IsBase}
use Rattle.q4_record.specs.Written.{mark_record, next_record}
use Rattle.q4_record.specs.Parted.{IsOfRow, BaseParts}
use Rattle.q4_record.proofs.WideRows.{no_columns}

none_may : (head : Head) (table : TableState) → MayCome stage.Whole table head → ⊥
none_may (Insert n None) table may = may
none_may (Insert n (Some o)) table may = may
none_may (End n) table may = may
none_may (Mark s n) table may = may
none_may (Next n) table may = may

-- behind the next record no record comes
none_behind : (replay : ReplayState) (rs : List Record) → replay.stage ≡ stage.Whole → AllStand replay rs → rs ≡ []
none_behind replay [] whole all = refl
none_behind replay (r ∷ rs) whole all = absurd (none_may r.head replay.table (subst (λ s. MayCome s replay.table r.head) whole all.0.may))

-- what a record without a row is
rowless : (replay : ReplayState) (r : Record) (head : Head) → Stands replay r → r.head ≡ head → row_columns replay.table.columns head ≡ [] → r ≡ record { head = head; columns = []; row = [] }
rowless replay r head s e none =
    let row_is : r.row ≡ [] = no_columns r.row (subst (λ cs. IsWideRow cs r.row) (ap (row_columns replay.table.columns) e ∙ none) s.is.row) in
    let columns_are : r.columns ≡ [] = s.is.columns_are ∙ ap (row_columns replay.table.columns) e ∙ none in
    (λ i. record { head = e i; columns = columns_are i; row = row_is i })

-- marks from above a source on, and then one next record
record MarksThenNext (last : ℕ) (rs : List Record) : Type 0 where
  listed : List marks.Mark
  number : ℕ
  records_are : rs ≡ map mark_record listed ++ next_record number ∷ []
  rise : SourcesRise listed
  above : All (λ m. last < m.source) listed

next_alone : (last : ℕ) (replay : ReplayState) (r : Record) (rs : List Record) (n : ℕ) → Stands replay r → r.head ≡ Next n → AllStand (replayed replay r) rs → MarksThenNext last (r ∷ rs)
next_alone last replay r rs n s e all =
    let none = none_behind (replayed replay r) rs (ap (stage_after replay.stage) e) all in
    let one = rowless replay r (Next n) s e refl in
    record { listed = []; number = n; records_are = (λ i. one i ∷ none i); rise = tt; above = All-nil (λ (m : marks.Mark). last < m.source) }

one_mark : (last : ℕ) (replay : ReplayState) (r : Record) (rs : List Record) (source n : ℕ) → Stands replay r → r.head ≡ Mark source n → last < source → MarksThenNext source rs → MarksThenNext last (r ∷ rs)
one_mark last replay r rs source n s e lt d =
    let one = rowless replay r (Mark source n) s e refl in
    let m : marks.Mark = record { source = source; number = n } in
    record {
      listed = m ∷ d.listed;
      number = d.number;
      records_are = (λ i. one i ∷ d.records_are i);
      rise = (d.above, d.rise);
      above = All-cons (λ (m : marks.Mark). last < m.source) m d.listed lt (All-weaker (λ (m : marks.Mark). source < m.source) (λ (m : marks.Mark). last < m.source) (λ m above. omega (arith, above, lt)) d.listed d.above);
    }

mark_step : (last : ℕ) (replay : ReplayState) (r : Record) (rs : List Record) (head : Head) → r.head ≡ head → Stands replay r → MayCome (stage.Marks last) replay.table head → AllStand (replayed replay r) rs
    → ((source : ℕ) → (replayed replay r).stage ≡ stage.Marks source → MarksThenNext source rs) → MarksThenNext last (r ∷ rs)
mark_step last replay r rs (Insert n None) e s may all deeper = absurd may
mark_step last replay r rs (Insert n (Some o)) e s may all deeper = absurd may
mark_step last replay r rs (End n) e s may all deeper = absurd may
mark_step last replay r rs (Mark source n) e s may all deeper = one_mark last replay r rs source n s e may.0 (deeper source (ap (stage_after replay.stage) e))
mark_step last replay r rs (Next n) e s may all deeper = next_alone last replay r rs n s e all

marks_then : (last : ℕ) (replay : ReplayState) (rs : List Record) → replay.stage ≡ stage.Marks last → AllStand replay rs → (replays replay rs).stage ≡ stage.Whole → MarksThenNext last rs
marks_then last replay [] at all whole = absurd cc
marks_then last replay (r ∷ rs) at all whole =
    mark_step last replay r rs r.head refl all.0 (subst (λ s. MayCome s replay.table r.head) at all.0.may) all.1 (λ source next. marks_then source (replayed replay r) rs next all.1 whole)

-- records of rows, then marks, then one next record
record RowsThenMarks (rs : List Record) : Type 0 where
  rows : List Record
  listed : List marks.Mark
  number : ℕ
  records_are : rs ≡ rows ++ (map mark_record listed ++ next_record number ∷ [])
  of_rows : All (λ r. IsOfRow r.head) rows
  rise : SourcesRise listed

no_more_rows : (last : ℕ) (rs : List Record) → MarksThenNext last rs → RowsThenMarks rs
no_more_rows last rs d = record { rows = []; listed = d.listed; number = d.number; records_are = d.records_are; of_rows = All-nil (λ (r : Record). IsOfRow r.head); rise = d.rise }

one_row : (r : Record) (rs : List Record) (head : Head) → r.head ≡ head → IsOfRow head → RowsThenMarks rs → RowsThenMarks (r ∷ rs)
one_row r rs head e is d = record {
  rows = r ∷ d.rows;
  listed = d.listed;
  number = d.number;
  records_are = ap (λ qs. r ∷ qs) d.records_are;
  of_rows = All-cons (λ (q : Record). IsOfRow q.head) r d.rows (subst IsOfRow (sym e) is) d.of_rows;
  rise = d.rise;
}

first_mark : (replay : ReplayState) (r : Record) (rs : List Record) (source n : ℕ) → Stands replay r → r.head ≡ Mark source n → MarksThenNext source rs → RowsThenMarks (r ∷ rs)
first_mark replay r rs source n s e d =
    let one = rowless replay r (Mark source n) s e refl in
    record {
      rows = [];
      listed = record { source = source; number = n } ∷ d.listed;
      number = d.number;
      records_are = (λ i. one i ∷ d.records_are i);
      of_rows = All-nil (λ (r : Record). IsOfRow r.head);
      rise = (d.above, d.rise);
    }

row_step : (replay : ReplayState) (r : Record) (rs : List Record) (head : Head) → r.head ≡ head → Stands replay r → MayCome stage.Rows replay.table head → AllStand (replayed replay r) rs → replay.stage ≡ stage.Rows
    → ((replayed replay r).stage ≡ stage.Rows → RowsThenMarks rs) → ((source : ℕ) → (replayed replay r).stage ≡ stage.Marks source → MarksThenNext source rs) → RowsThenMarks (r ∷ rs)
row_step replay r rs (Insert n None) e s may all at rows deeper = one_row r rs (Insert n None) e tt (rows (ap (stage_after replay.stage) e ∙ at))
row_step replay r rs (Insert n (Some o)) e s may all at rows deeper = absurd may
row_step replay r rs (End n) e s may all at rows deeper = one_row r rs (End n) e tt (rows (ap (stage_after replay.stage) e ∙ at))
row_step replay r rs (Mark source n) e s may all at rows deeper = first_mark replay r rs source n s e (deeper source (ap (stage_after replay.stage) e))
row_step replay r rs (Next n) e s may all at rows deeper = no_more_rows 0 (r ∷ rs) (next_alone 0 replay r rs n s e all)

rows_then : (replay : ReplayState) (rs : List Record) → replay.stage ≡ stage.Rows → AllStand replay rs → (replays replay rs).stage ≡ stage.Whole → RowsThenMarks rs
rows_then replay [] at all whole = absurd cc
rows_then replay (r ∷ rs) at all whole =
    row_step replay r rs r.head refl all.0 (subst (λ s. MayCome s replay.table r.head) at all.0.may) all.1 at (λ next. rows_then (replayed replay r) rs next all.1 whole) (λ source next. marks_then source (replayed replay r) rs next all.1 whole)

pub base_parts : (format : Format) (columns : List Column) (base : List ℕ) (table : TableState) → IsBase format columns base table → BaseParts columns base
base_parts format columns base table b =
    let p = rows_then (at_base columns) b.records refl b.stand (ap (λ (replay : ReplayState). replay.stage) b.replay_is) in
    record {
      rows = p.rows;
      listed = p.listed;
      number = p.number;
      base_is = b.base_is ∙ ap (λ rs. schema_bytes columns ++ records_bytes rs) p.records_are;
      of_rows = p.of_rows;
      rise = p.rise;
    }
