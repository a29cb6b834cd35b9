-- What one change more makes of a store.
use Rattle.std.proofs.Common.{◌≡◌, ◌≢◌, ℕ, ◌+◌, ◌-◌, ◌≤◌, Bool, true, false, not, cond, eqb, List, [], ◌∷◌, ◌++◌, Option, None, Some, IsSome, All, length, refl, sym, ◌∙◌, ap, subst, arith, length-append}
use Rattle.std.proofs.Math.Logic.{⊎_elim}
use Rattle.std.proofs.lemmas.Bool.{cases_eq, eq-eqb, ne_eqb}
use Rattle.std.proofs.lemmas.List.{take-append-le, flat_map_more}
use Rattle.std.proofs.lemmas.List.Elements.{All-push, All-filter}
use Rattle.std.proofs.lemmas.List.Sums.{fold_push}
use Rattle.q4_value.specs.declared.column.Column.{Column}
use Rattle.q4_value.specs.declared.row.Value.{Value}
use Rattle.q4_table.specs.declared.origin.Origin.{Origin}
use Rattle.q4_table.specs.declared.rows.StoredRow.{StoredRow}
use Rattle.q4_table.specs.TableState.{TableState}
use Rattle.q4_table.specs.Valid.{RiseBelow, IsValidTable}
use Rattle.q4_table.specs.Rows.{numbers_of, without_row, IsThere, row_in}
use Rattle.q4_table.proofs.Places.{without_above}
use Rattle.q4_table.proofs.Validity.{check_room, valid-added, valid-removed}
use Rattle.q4_record.specs.Record.{Record, record_bytes}
use Rattle.q4_record.specs.Replay.{ReplayState, replayed, replays, at_batches, Stands, AllStand}
use Rattle.q4_record.proofs.Changes.{added_stands, ended_stands}
use Rattle.q4_disk.specs.Told.{Sides, Told}
use Rattle.q4_store.specs.Reading.{ReadsOwn}
use Rattle.q4_store.specs.Content.{Content, row_added, row_ended, table_of, with_change, IsPrefix}
use Rattle.q4_table.specs.Adding.{add_row}
use Rattle.std.specs.Option.{ForSome}
use Rattle.q4_store.specs.Copied.{compact_size}
use Rattle.q4_store.specs.Store.{Stored, CopyStands, StandsFor, TakesRow, HasRow, ends_with, pending_length}
use Rattle.q4_store.proofs.Weights.{compact_added, compact_removed}
use Rattle.q4_store.proofs.Carrying.{longer, row_carried, end_carried}
use Rattle.q4_store.proofs.Fronts.{replays_lead}

stand_push : (old : ReplayState) (rs : List Record) (r : Record) → AllStand old rs → Stands (replays old rs) r → AllStand old (rs ++ r ∷ [])
stand_push old [] r all one = (one, tt)
stand_push old (q ∷ qs) r all one = (all.0, stand_push (replayed old q) qs r all.1 one)

-- the table with one change more
pub table_more : (content : Content) (change : Record) → AllStand (at_batches content.committed) content.pending → table_of (with_change content change) ≡ (replayed (at_batches (table_of content)) change).table
table_more content change all =
    ap (λ (replay : ReplayState). replay.table) (fold_push replayed (at_batches content.committed) content.pending change ∙ ap (λ (replay : ReplayState). replayed replay change) (replays_lead content.committed content.pending all))

prefix_more : (content : Content) (change : Record) (generation : ℕ) (c : Sides) → IsPrefix content generation c → IsPrefix (with_change content change) generation c
prefix_more content change generation c p = record {
  count = p.count;
  within = omega (arith, p.within, length-append content.pending (change ∷ []));
  reads = subst (λ (rs : List Record). ReadsOwn content.committed.columns c (replays (at_batches content.committed) rs).table generation) (sym (take-append-le p.count content.pending (change ∷ []) p.within)) p.reads;
}

pub appended : {D : Type 0} (told : D → Told) (store : Stored D) (content : Content) (change : Record) (records ends : List ℕ) (rows reserved : ℕ) → StandsFor told store content → Stands (at_batches (table_of content)) change
    → IsValidTable (replayed (at_batches (table_of content)) change).table → All (λ (r : StoredRow). r.owner ≡ None) (replayed (at_batches (table_of content)) change).table.rows
    → records ≡ store.records ++ record_bytes change → rows ≡ length (replayed (at_batches (table_of content)) change).table.rows
    → compact_size (replayed (at_batches (table_of content)) change).table ≤ store.end + pending_length records
    → ForSome store.copy (CopyStands told (record store { records = records; rows = rows; reserved = reserved; ends = ends }) (replayed (at_batches (table_of content)) change).table)
    → StandsFor told (record store { records = records; rows = rows; reserved = reserved; ends = ends }) (with_change content change)
appended told store content change records ends rows reserved s stands valid unowned records_are rows_are long copy =
    let more = table_more content change s.stand in
    record {
      columns = s.columns;
      own = s.own;
      valid = subst IsValidTable (sym more) valid;
      unowned = subst (λ (t : TableState). All (λ (r : StoredRow). r.owner ≡ None) t.rows) (sym more) unowned;
      stand = stand_push (at_batches content.committed) content.pending change s.stand (subst (λ (replay : ReplayState). Stands replay change) (sym (replays_lead content.committed content.pending s.stand)) stands);
      records = records_are ∙ ap (λ (l : List ℕ). l ++ record_bytes change) s.records ∙ flat_map_more record_bytes [] content.pending change;
      rows = rows_are ∙ ap (λ (t : TableState). length t.rows) (sym more);
      images = λ honest c left. prefix_more content change store.generation c (s.images honest c left);
      settled = s.settled;
      ready = s.ready;
      long = subst (λ (t : TableState). compact_size t ≤ store.end + pending_length records) (sym more) long;
      copy = λ progress is. subst (λ (t : TableState). CopyStands told (record store { records = records; rows = rows; reserved = reserved; ends = ends }) t progress) (sym more) (copy progress is);
    }

-- a row that is removed was there once
gone_here : (low next k : ℕ) (r : StoredRow) (rs : List StoredRow) → RiseBelow low next (numbers_of (r ∷ rs)) → r.number ≡ k → length (without_row k (r ∷ rs)) + 1 ≡ length (r ∷ rs)
gone_here low next k r rs rise same =
    let rest = without_row k rs in
    let here : eqb r.number k ≡ true = eq-eqb r.number k same in
    let none = without_above (λ (x : StoredRow). x.number) r.number next k rs (omega (arith, same)) rise.2 in
    let e : length (without_row k (r ∷ rs)) ≡ length rs = ap (λ (b : Bool). length (cond (not b) (r ∷ rest) rest)) here ∙ ap length none in
    omega (arith, e)

gone_later : (k : ℕ) (r : StoredRow) (rs : List StoredRow) → r.number ≢ k → length (without_row k rs) + 1 ≡ length rs → length (without_row k (r ∷ rs)) + 1 ≡ length (r ∷ rs)
gone_later k r rs differs more =
    let rest = without_row k rs in
    let not_here : eqb r.number k ≡ false = ne_eqb r.number k differs in
    let e : length (without_row k (r ∷ rs)) ≡ length (r ∷ rest) = ap (λ (b : Bool). length (cond (not b) (r ∷ rest) rest)) not_here in
    omega (arith, e, more)

there_later : (k : ℕ) (r : StoredRow) (rs : List StoredRow) → r.number ≢ k → IsThere (r ∷ rs) k → IsThere rs k
there_later k r rs differs there = subst (λ (b : Bool). IsSome (cond b (Some r) (row_in rs k))) (ne_eqb r.number k differs) there

pub gone : (low next k : ℕ) (rows : List StoredRow) → RiseBelow low next (numbers_of rows) → IsThere rows k → length (without_row k rows) + 1 ≡ length rows
gone low next k [] rise there = absurd (cc there)
gone low next k (r ∷ rs) rise there =
    ⊎_elim (gone_here low next k r rs rise) (λ differs. gone_later k r rs differs (gone r.number next k rs rise.2 (there_later k r rs differs there))) (cases_eq r.number k)

pub row_appended : {D : Type 0} (told : D → Told) (store : Stored D) (content : Content) (columns : List Column) → (table_of content).columns ≡ columns → (number : ℕ) (row : List Value) (origin : Option Origin) (records : List ℕ) (reserved : ℕ) → StandsFor told store content → TakesRow content number row origin
    → records ≡ store.records ++ record_bytes (row_added columns number row origin) → StandsFor told (record store { records = records; rows = store.rows + 1; reserved = reserved }) (with_change content (row_added columns number row origin))
row_appended told store content columns own number row origin records reserved s t records_are =
    let table = table_of content in
    let stands : Stands (at_batches table) (row_added columns number row origin) =
    subst (λ (n : ℕ). Stands (at_batches table) (row_added columns n row origin)) (sym t.is_next)
    (subst (λ cs. Stands (at_batches table) (row_added cs table.next row origin)) own (added_stands table row origin s.valid t.fits t.valid t.new)) in
    let valid = valid-added table row origin s.valid t.fits t.valid (check_room table row origin t.new) in
    let result = subst (λ (n : ℕ). IsValidTable (replayed (at_batches table) (row_added columns n row origin)).table) (sym t.is_next) valid in
    let here : records ≡ store.records ++ record_bytes (row_added table.columns table.next row origin) = records_are ∙ ap (λ (n : ℕ). store.records ++ record_bytes (row_added columns n row origin)) t.is_next
    ∙ ap (λ cs. store.records ++ record_bytes (row_added cs table.next row origin)) (sym own) in
    let long : compact_size (add_row table row origin) ≤ store.end + pending_length records = omega (arith, s.long, compact_added table row origin, longer store.records records (row_added table.columns table.next row origin) here) in
    let later : Stored _ = record store { records = records; rows = store.rows + 1; reserved = reserved } in
    appended told store content (row_added columns number row origin) records store.ends (store.rows + 1) reserved s stands result
    (All-push (λ (r : StoredRow). r.owner ≡ None) table.rows (record { number = number; row = row; owner = None }) s.unowned refl) records_are (omega (arith, s.rows, length-append table.rows (record { number = number; row = row; owner = None } ∷ [])))
    (subst (λ (n : ℕ). compact_size (replayed (at_batches table) (row_added columns n row origin)).table ≤ store.end + pending_length records) (sym t.is_next) long)
    (λ progress is. subst (λ (n : ℕ). CopyStands told later (replayed (at_batches table) (row_added columns n row origin)).table progress) (sym t.is_next) (row_carried told store table progress (s.copy progress is) row origin records (store.rows + 1) reserved here))

pub end_appended : {D : Type 0} (told : D → Told) (store : Stored D) (content : Content) (number : ℕ) (records ends : List ℕ) (reserved : ℕ) → StandsFor told store content → HasRow content number
    → records ≡ store.records ++ record_bytes (row_ended number) → ends ≡ ends_with store.copy store.ends number → StandsFor told (record store { records = records; rows = store.rows - 1; reserved = reserved; ends = ends }) (with_change content (row_ended number))
end_appended told store content number records ends reserved s there records_are ends_are =
    let table = table_of content in
    let fewer_rows = gone 0 table.next number table.rows s.valid.numbers there in
    appended told store content (row_ended number) records ends (store.rows - 1) reserved s (ended_stands table number s.valid there) (valid-removed table number s.valid)
    (All-filter (λ (r : StoredRow). not (eqb r.number number)) (λ (r : StoredRow). r.owner ≡ None) table.rows s.unowned) records_are (omega (arith, s.rows, fewer_rows))
    (omega (arith, s.long, compact_removed table number, longer store.records records (row_ended number) records_are))
    (λ progress is. end_carried told store table progress (s.copy progress is) number records ends (store.rows - 1) reserved s.valid there records_are (ends_are ∙ ap (λ o. ends_with o store.ends number) is))
