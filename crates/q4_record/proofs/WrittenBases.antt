-- The records of a table's base stand, and lead to the table.
use Rattle.std.proofs.Common.{◌≡◌, ℕ, ◌+◌, ◌<◌, ◌≤◌, Bool, true, false, cond, ltb, List, [], ◌∷◌, ◌++◌, None, length, map, refl, sym, ap, subst, ◌∙◌, append_assoc, arith}
use Rattle.std.specs.List.{All, filter}
use Rattle.std.proofs.lemmas.Bool.{le-ltb}
use Rattle.std.proofs.lemmas.List.{append-nil, length-append, length_push}
use Rattle.std.proofs.lemmas.List.Elements.{All-nil, All-head, All-tail, All-cons, All-push, All-weaker}
use Rattle.std.proofs.lemmas.List.Sums.{fold-append, sum_by-append, sum_by-cons}
use Rattle.q4_value.specs.declared.column.Column.{Column}
use Rattle.q4_value.specs.Row.{Fits, row_size}
use Rattle.q4_table.specs.declared.marks.Mark as marks
use Rattle.q4_table.specs.declared.rows.StoredRow.{StoredRow}
use Rattle.q4_table.specs.TableState.{TableState}
use Rattle.q4_table.specs.Rows.{bytes_of, numbers_of}
use Rattle.q4_table.specs.Marks.{with_mark}
use Rattle.q4_table.specs.Adding.{number_limit, count_limit, bytes_limit}
use Rattle.q4_table.specs.Valid.{RiseBelow, IsMark, SourcesRise, IsValidTable}
use Rattle.q4_record.specs.declared.replay.Stage.{Stage}
use Rattle.q4_record.specs.declared.replay.Stage.TheVariants as stage
use Rattle.q4_record.specs.Wide.{IsWideValue}
use Rattle.q4_record.specs.Record.{Record}
use Rattle.q4_record.specs.Replay.{ReplayState, replayed, replays, at_base, passed_limit, MayMark, MayNext, Stands, AllStand}
use Rattle.q4_record.specs.Written.{row_record, mark_record, next_record, base_records}
use Rattle.q4_record.proofs.Cuts.{wide_row, none_long}
use Rattle.q4_record.proofs.Limits.{Within, passes_none}

pub stand_append : (old : ReplayState) (rs ss : List Record) → AllStand old rs → AllStand (replays old rs) ss → AllStand old (rs ++ ss)
stand_append old [] ss a b = b
stand_append old (r ∷ rs) ss a b = (a.0, stand_append (replayed old r) rs ss a.1 b)

abbrev pub table_of : List Column → ℕ → List StoredRow → List marks.Mark → TableState
table_of columns next rows marks = record { columns = columns; next = next; rows = rows; marks = marks }

-- the row without its owner
abbrev pub plain : StoredRow → StoredRow
plain r = record { number = r.number; row = r.row; owner = None }

-- the rows stand behind others, and lead to a table with all of them
pub record RowsStand (columns : List Column) (next limit : ℕ) (front rows : List StoredRow) : Type 0 where
  pub stand : AllStand (record { stage = stage.Rows; table = table_of columns next front [] }) (map (row_record columns) rows)
  pub after : ℕ
  pub after_le : after ≤ limit
  pub replay_is : replays (record { stage = stage.Rows; table = table_of columns next front [] }) (map (row_record columns) rows) ≡ record { stage = stage.Rows; table = table_of columns after (front ++ map plain rows) [] }

row_within : (columns : List Column) (front rows : List StoredRow) (r : StoredRow) → Fits columns r.row → r.number + 1 ≤ number_limit → length (front ++ r ∷ rows) ≤ count_limit → bytes_of (front ++ r ∷ rows) ≤ bytes_limit
    → Within (table_of columns (r.number + 1) (front ++ plain r ∷ []) []) r.row
row_within columns front rows r fits number count bytes =
    let size : StoredRow → ℕ = λ q. row_size q.row in
    record {
      rows = omega (arith, count, length-append front (r ∷ rows), length_push front (plain r));
      bytes = omega (arith, bytes, sum_by-append size front (r ∷ rows), sum_by-append size front (plain r ∷ []), sum_by-cons size r rows, sum_by-cons size (plain r) []);
      next = number;
      short = none_long r.row fits.row_of.values;
      size = fits.size;
    }

pub rows_stand : (columns : List Column) (next limit low : ℕ) (front rows : List StoredRow) → All (λ r. Fits columns r.row) rows → RiseBelow low limit (numbers_of rows) → next ≤ low + 1 → next ≤ limit → limit ≤ number_limit
    → length (front ++ rows) ≤ count_limit → bytes_of (front ++ rows) ≤ bytes_limit → RowsStand columns next limit front rows
rows_stand columns next limit low front [] fits rise from le top count bytes = record { stand = tt; after = next; after_le = le; replay_is = ap (λ rs. record { stage = stage.Rows; table = table_of columns next rs [] }) (sym (append-nil front)) }
rows_stand columns next limit low front (r ∷ rs) fits rise from le top count bytes =
    let size : StoredRow → ℕ = λ q. row_size q.row in
    let fit = All-head (λ (q : StoredRow). Fits columns q.row) r rs fits in
    let number : r.number + 1 ≤ number_limit = omega (arith, rise.1, top) in
    let one : Stands (record { stage = stage.Rows; table = table_of columns next front [] }) (row_record columns r) = record {
      is = record { head = (omega (arith, number), tt); columns_are = refl; row = wide_row columns r.row fit.row_of };
      may = omega (arith, rise.0, from);
      within = passes_none (table_of columns (r.number + 1) (front ++ plain r ∷ []) []) r.row (row_within columns front rs r fit number count bytes);
    } in
    let more_count : length ((front ++ plain r ∷ []) ++ rs) ≤ count_limit = omega (arith, count, length-append front (r ∷ rs), length-append (front ++ plain r ∷ []) rs, length_push front (plain r)) in
    let more_bytes : bytes_of ((front ++ plain r ∷ []) ++ rs) ≤ bytes_limit =
    omega (arith, bytes, sum_by-append size front (r ∷ rs), sum_by-append size (front ++ plain r ∷ []) rs, sum_by-append size front (plain r ∷ []), sum_by-cons size r rs, sum_by-cons size (plain r) []) in
    let deeper = rows_stand columns (r.number + 1) limit r.number (front ++ plain r ∷ []) rs (All-tail (λ (q : StoredRow). Fits columns q.row) r rs fits) rise.2 (omega arith) (omega (arith, rise.1)) top more_count more_bytes in
    record {
      stand = (one, deeper.stand);
      after = deeper.after;
      after_le = deeper.after_le;
      replay_is = deeper.replay_is ∙ ap (λ qs. record { stage = stage.Rows; table = table_of columns deeper.after qs [] }) (append_assoc front (plain r ∷ []) (map plain rs));
    }

pub plain_same : (rows : List StoredRow) → All (λ r. r.owner ≡ None) rows → map plain rows ≡ rows
plain_same [] unowned = refl
plain_same (r ∷ rs) unowned =
    let none : r.owner ≡ None = All-head (λ (q : StoredRow). q.owner ≡ None) r rs unowned in
    let same : plain r ≡ r = λ i. record { number = r.number; row = r.row; owner = sym none i } in
    (λ i. same i ∷ plain_same rs (All-tail (λ (q : StoredRow). q.owner ≡ None) r rs unowned) i)

-- ---- marks

pub kept : {X : Type 0} (p : X → Bool) (xs : List X) → All (λ x. p x ≡ true) xs → filter p xs ≡ xs
kept p [] a = refl
kept p (x ∷ xs) a = ap (λ b. cond b (x ∷ filter p xs) (filter p xs)) (All-head (λ x. p x ≡ true) x xs a) ∙ ap (λ ys. x ∷ ys) (kept p xs (All-tail (λ x. p x ≡ true) x xs a))

pub dropped : {X : Type 0} (p : X → Bool) (xs : List X) → All (λ x. p x ≡ false) xs → filter p xs ≡ []
dropped p [] a = refl
dropped p (x ∷ xs) a = ap (λ b. cond b (x ∷ filter p xs) (filter p xs)) (All-head (λ x. p x ≡ false) x xs a) ∙ dropped p xs (All-tail (λ x. p x ≡ false) x xs a)

-- a mark of a greater source stands behind the others
mark_behind : (front : List marks.Mark) (m : marks.Mark) → All (λ f. f.source < m.source) front → with_mark m.source m.number front ≡ front ++ m ∷ []
mark_behind front m below =
    let lesser = kept (λ f. ltb f.source m.source) front (All-weaker (λ f. f.source < m.source) (λ f. ltb f.source m.source ≡ true) (λ f lt. grind arith) front below) in
    let greater = dropped (λ f. ltb m.source f.source) front (All-weaker (λ f. f.source < m.source) (λ f. ltb m.source f.source ≡ false) (λ f lt. le-ltb m.source f.source (omega (arith, lt))) front below) in
    (λ i. lesser i ++ m ∷ greater i)

-- the marks so far are of lesser sources than each of these
abbrev pub Below : List marks.Mark → List marks.Mark → Type 0
Below front ms = All (λ m. All (λ f. f.source < m.source) front) ms

-- the stage at which marks may come
abbrev pub StageBefore : Stage → List marks.Mark → Type 0
StageBefore stage.Rows ms = Unit {0}
StageBefore (stage.Marks last) ms = All (λ m. last < m.source) ms
StageBefore stage.Whole ms = ⊥
StageBefore stage.Batch ms = ⊥

may_mark : (s : Stage) (m : marks.Mark) (ms : List marks.Mark) → StageBefore s (m ∷ ms) → IsMark m → MayMark s m.source m.number
may_mark stage.Rows m ms before is = is
may_mark (stage.Marks last) m ms before is = (All-head (λ (q : marks.Mark). last < q.source) m ms before, is)
may_mark stage.Whole m ms before is = before
may_mark stage.Batch m ms before is = before

pub may_next : (s : Stage) (table : TableState) (number : ℕ) → StageBefore s [] → table.next ≤ number → MayNext s table number
may_next stage.Rows table number before le = le
may_next (stage.Marks last) table number before le = le
may_next stage.Whole table number before le = before
may_next stage.Batch table number before le = before

below_more : (front : List marks.Mark) (m : marks.Mark) (ms : List marks.Mark) → Below front ms → All (λ n. m.source < n.source) ms → Below (front ++ m ∷ []) ms
below_more front m [] below rise = All-nil (λ n. All (λ f. f.source < n.source) (front ++ m ∷ []))
below_more front m (n ∷ ns) below rise =
    let here = All-push (λ (f : marks.Mark). f.source < n.source) front m (All-head (λ (k : marks.Mark). All (λ f. f.source < k.source) front) n ns below) (All-head (λ (k : marks.Mark). m.source < k.source) n ns rise) in
    All-cons (λ (k : marks.Mark). All (λ f. f.source < k.source) (front ++ m ∷ [])) n ns here
    (below_more front m ns (All-tail (λ (k : marks.Mark). All (λ f. f.source < k.source) front) n ns below) (All-tail (λ (k : marks.Mark). m.source < k.source) n ns rise))

-- the marks stand behind others, and lead to a table with all of them
pub record MarksStand (columns : List Column) (next : ℕ) (rows : List StoredRow) (s : Stage) (front ms : List marks.Mark) : Type 0 where
  pub stand : AllStand (record { stage = s; table = table_of columns next rows front }) (map mark_record ms)
  pub last : Stage
  pub may_end : StageBefore last []
  pub replay_is : replays (record { stage = s; table = table_of columns next rows front }) (map mark_record ms) ≡ record { stage = last; table = table_of columns next rows (front ++ ms) }

pub marks_stand : (columns : List Column) (next : ℕ) (rows : List StoredRow) (s : Stage) (front ms : List marks.Mark) → passed_limit (table_of columns next rows front) [] ≡ None → All IsMark ms → SourcesRise ms → StageBefore s ms → Below front ms
    → MarksStand columns next rows s front ms
marks_stand columns next rows s front [] within are rise before below =
    record { stand = tt; last = s; may_end = before; replay_is = ap (λ ns. record { stage = s; table = table_of columns next rows ns }) (sym (append-nil front)) }
marks_stand columns next rows s front (m ∷ ms) within are rise before below =
    let is = All-head IsMark m ms are in
    let one : Stands (record { stage = s; table = table_of columns next rows front }) (mark_record m) = record {
      is = record { head = omega (arith, is.number); columns_are = refl; row = record { taken = tt; values = All-nil IsWideValue } };
      may = may_mark s m ms before is;
      within = within;
    } in
    let set : with_mark m.source m.number front ≡ front ++ m ∷ [] = mark_behind front m (All-head (λ (k : marks.Mark). All (λ f. f.source < k.source) front) m ms below) in
    let deeper = marks_stand columns next rows (stage.Marks m.source) (front ++ m ∷ []) ms within (All-tail IsMark m ms are) rise.1 rise.0 (below_more front m ms (All-tail (λ (k : marks.Mark). All (λ f. f.source < k.source) front) m ms below) rise.0) in
    let stage_of : List marks.Mark → ReplayState = λ ns. record { stage = stage.Marks m.source; table = table_of columns next rows ns } in
    record {
      stand = (one, subst (λ ns. AllStand (stage_of ns) (map mark_record ms)) (sym set) deeper.stand);
      last = deeper.last;
      may_end = deeper.may_end;
      replay_is = ap (λ ns. replays (stage_of ns) (map mark_record ms)) set ∙ deeper.replay_is ∙ ap (λ ns. record { stage = deeper.last; table = table_of columns next rows ns }) (append_assoc front (m ∷ []) ms);
    }

pub none_below : (ms : List marks.Mark) → Below [] ms
none_below [] = All-nil (λ (m : marks.Mark). All (λ (f : marks.Mark). f.source < m.source) [])
none_below (m ∷ ms) = All-cons (λ (k : marks.Mark). All (λ (f : marks.Mark). f.source < k.source) []) m ms (All-nil (λ (f : marks.Mark). f.source < m.source)) (none_below ms)

-- the base stands, and leads to the table
pub record BaseStands (table : TableState) : Type 0 where
  pub stand : AllStand (at_base table.columns) (base_records table)
  pub replay_is : replays (at_base table.columns) (base_records table) ≡ record { stage = stage.Whole; table = table }

pub table_within : (table : TableState) (next : ℕ) → IsValidTable table → next ≤ number_limit → (ms : List marks.Mark) → passed_limit (table_of table.columns next table.rows ms) [] ≡ None
table_within table next valid le ms = passes_none (table_of table.columns next table.rows ms) [] (record { rows = valid.count; bytes = valid.bytes; next = le; short = refl; size = omega arith })

pub base_written : (table : TableState) → IsValidTable table → All (λ r. r.owner ≡ None) table.rows → BaseStands table
base_written table valid unowned =
    let columns = table.columns in
    let rows = rows_stand columns 1 table.next 0 [] table.rows valid.fit valid.numbers (omega arith) valid.begins valid.limit valid.count valid.bytes in
    let rows_are : replays (at_base columns) (map (row_record columns) table.rows) ≡ record { stage = stage.Rows; table = table_of columns rows.after table.rows [] } =
    rows.replay_is ∙ ap (λ rs. record { stage = stage.Rows; table = table_of columns rows.after rs [] }) (plain_same table.rows unowned) in
    let after_le = rows.after_le in
    let limit = valid.limit in
    let ms = marks_stand columns rows.after table.rows stage.Rows [] table.marks (table_within table rows.after valid (omega (arith, after_le, limit)) []) valid.marks.each valid.marks.rise tt (none_below table.marks) in
    let end : AllStand (record { stage = ms.last; table = table_of columns rows.after table.rows table.marks }) (next_record table.next ∷ []) = (
      record {
        is = record { head = omega (arith, limit); columns_are = refl; row = record { taken = tt; values = All-nil IsWideValue } };
        may = may_next ms.last (table_of columns rows.after table.rows table.marks) table.next ms.may_end after_le;
        within = table_within table table.next valid limit table.marks;
      },
      tt,
    ) in
    let marks_end : AllStand (record { stage = stage.Rows; table = table_of columns rows.after table.rows [] }) (map mark_record table.marks ++ next_record table.next ∷ []) =
    stand_append (record { stage = stage.Rows; table = table_of columns rows.after table.rows [] }) (map mark_record table.marks) (next_record table.next ∷ []) ms.stand (subst (λ q. AllStand q (next_record table.next ∷ [])) (sym ms.replay_is) end) in
    record {
      stand = stand_append (at_base columns) (map (row_record columns) table.rows) (map mark_record table.marks ++ next_record table.next ∷ []) rows.stand (subst (λ q. AllStand q (map mark_record table.marks ++ next_record table.next ∷ [])) (sym rows_are) marks_end);
      replay_is = fold-append replayed (at_base columns) (map (row_record columns) table.rows) (map mark_record table.marks ++ next_record table.next ∷ [])
          ∙ ap (λ q. replays q (map mark_record table.marks ++ next_record table.next ∷ [])) rows_are
          ∙ fold-append replayed (record { stage = stage.Rows; table = table_of columns rows.after table.rows [] }) (map mark_record table.marks) (next_record table.next ∷ [])
          ∙ ap (λ q. replays q (next_record table.next ∷ [])) ms.replay_is;
    }
