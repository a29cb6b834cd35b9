-- A piece of a copy: what it makes of the records and bytes that the copy has.
use Rattle.std.proofs.Common.{◌≡◌, ℕ, ◌+◌, ◌≤◌, Bool, true, false, List, [], ◌∷◌, ◌++◌, Some, Option, length, map, replicate, refl, sym, ap, subst, ◌∙◌, append_assoc, append-nil, length-append, IsTrue, arith}
use Rattle.std.specs.List.{sum_by}
use Rattle.std.specs.Prelude.{◌==◌}
use Rattle.std.proofs.lemmas.Bool.{ne_eqb, eq-eqb}
use Rattle.std.proofs.lemmas.List.Concat.{flat_map-cons, flat_map-append}
use Rattle.std.proofs.lemmas.List.Sums.{sum_by-append, sum_by-cons}
use Rattle.q4_value.specs.declared.column.Column.{Column}
use Rattle.q4_table.specs.declared.rows.StoredRow.{StoredRow}
use Rattle.q4_table.specs.TableState.{TableState}
use Rattle.q4_table.specs.Valid.{IsValidTable}
use Rattle.q4_record.specs.Record.{Record, record_bytes, records_bytes}
use Rattle.q4_record.specs.Schema.{schema_bytes}
use Rattle.q4_record.specs.Side.{base_at, side_limit}
use Rattle.q4_record.specs.Written.{row_record}
use Rattle.std.specs.Option.{ForSome}
use Rattle.q4_disk.specs.Time.{LeavesOnly, OtherStays}
use Rattle.q4_disk.specs.Told.{Sides, Told}
use Rattle.q4_disk.specs.Images.{on, other, size, Within}
use Rattle.q4_store.specs.declared.copying.Progress.{Progress}
use Rattle.q4_store.specs.Reading.{ReadsAs}
use Rattle.q4_store.specs.Parts.{IsShut, IsReady}
use Rattle.q4_store.specs.Content.{Content, table_of, IsPrefix}
use Rattle.q4_store.specs.Copied.{rows_below, rows_from, row_cost, cursor_after, taken, IsCopied, copy_length, copy_bytes, piece_bytes}
use Rattle.q4_store.specs.Store.{Stored, StandsFor, CopyStands, length_of}
use Rattle.q4_store.proofs.Lengths.{change_length}
use Rattle.q4_store.proofs.Parting.{parted, below_after}
use Rattle.q4_store.proofs.CopyRecords.{piece_copied}
use Rattle.q4_store.proofs.Quiet.{now_reads}
use Rattle.q4_store.proofs.CopyStands.{some_same, prefix_moments, stands_beside}

-- the bytes of rows in a base
pub rows_length : (columns : List Column) (rows : List StoredRow) → length (records_bytes (map (row_record columns) rows)) ≡ sum_by (row_cost columns) rows
rows_length columns [] = refl
rows_length columns (r ∷ rs) =
    omega (arith, ap length (flat_map-cons record_bytes (row_record columns r) (map (row_record columns) rs)), length-append (record_bytes (row_record columns r)) (records_bytes (map (row_record columns) rs)), change_length (row_record columns r), rows_length columns rs, sum_by-cons (row_cost columns) r rs)

-- what is copied is no longer to be copied
pub rest_less : (table : TableState) (cursor n : ℕ) → IsValidTable table → sum_by (row_cost table.columns) (rows_from cursor table.rows) ≡ sum_by (row_cost table.columns) (taken n cursor table) + sum_by (row_cost table.columns) (rows_from (cursor_after cursor (taken n cursor table)) table.rows)
rest_less table cursor n valid =
    let later = cursor_after cursor (taken n cursor table) in
    let now = ap (sum_by (row_cost table.columns)) (parted 0 table.next cursor table.rows valid.numbers) in
    let then = ap (sum_by (row_cost table.columns)) (parted 0 table.next later table.rows valid.numbers) in
    let below = ap (sum_by (row_cost table.columns)) (below_after 0 table.next cursor n table.rows valid.numbers) in
    omega (arith, now, then, below, sum_by-append (row_cost table.columns) (rows_below cursor table.rows) (rows_from cursor table.rows), sum_by-append (row_cost table.columns) (rows_below later table.rows) (rows_from later table.rows), sum_by-append (row_cost table.columns) (rows_below cursor table.rows) (taken n cursor table))

-- the bytes that a piece adds
none_had : (columns : List Column) (waiting rows : List Record) (ends : List ℕ) → waiting ≡ [] → ends ≡ records_bytes waiting → copy_bytes columns (waiting ++ rows) ≡ piece_bytes true columns ends rows
none_had columns waiting [] ends none is = ap (λ ws. copy_bytes columns (ws ++ [])) none ∙ sym (is ∙ ap records_bytes none)
none_had columns waiting (r ∷ rs) ends none is = ap (λ ws. copy_bytes columns (ws ++ r ∷ rs)) none ∙ ap (λ (l : List ℕ). schema_bytes columns ++ (l ++ records_bytes (r ∷ rs))) (sym (is ∙ ap records_bytes none))

some_had : (columns : List Column) (w : Record) (ws waiting rows : List Record) (ends : List ℕ) → ends ≡ records_bytes waiting → copy_bytes columns (((w ∷ ws) ++ waiting) ++ rows) ≡ copy_bytes columns (w ∷ ws) ++ piece_bytes false columns ends rows
some_had columns w ws waiting rows ends is =
    let written = w ∷ ws in
    let all : records_bytes ((written ++ waiting) ++ rows) ≡ records_bytes written ++ (ends ++ records_bytes rows) =
    flat_map-append record_bytes (written ++ waiting) rows ∙ ap (λ (l : List ℕ). l ++ records_bytes rows) (flat_map-append record_bytes written waiting) ∙ append_assoc (records_bytes written) (records_bytes waiting) (records_bytes rows)
    ∙ ap (λ (l : List ℕ). records_bytes written ++ (l ++ records_bytes rows)) (sym is) in
    ap (λ (l : List ℕ). schema_bytes columns ++ l) all ∙ sym (append_assoc (schema_bytes columns) (records_bytes written) (ends ++ records_bytes rows))

pub piece_is : (columns : List Column) (written waiting rows : List Record) (at : ℕ) (ends : List ℕ) → at ≡ base_at + length (copy_bytes columns written) → (written ≡ [] → waiting ≡ []) → ends ≡ records_bytes waiting
    → copy_bytes columns ((written ++ waiting) ++ rows) ≡ copy_bytes columns written ++ piece_bytes (at == base_at) columns ends rows
piece_is columns [] waiting rows at ends at_is first is = none_had columns waiting rows ends (first refl) is ∙ ap (λ (b : Bool). piece_bytes b columns ends rows) (sym (eq-eqb at base_at (omega (arith, at_is))))
piece_is columns (w ∷ ws) waiting rows at ends at_is first is =
    some_had columns w ws waiting rows ends is
    ∙ ap (λ (b : Bool). copy_bytes columns (w ∷ ws) ++ piece_bytes b columns ends rows) (sym (ne_eqb at base_at (λ none. omega (arith, at_is, none, length-append (schema_bytes columns) (records_bytes (w ∷ ws))))))

copy_short : (columns : List Column) (records : List Record) → length (copy_bytes columns records) ≤ length (schema_bytes columns) + length (records_bytes records)
copy_short columns [] = omega arith
copy_short columns (r ∷ rs) = omega (arith, length-append (schema_bytes columns) (records_bytes (r ∷ rs)))

module _ {D : Type 0} (told : D → Told) (store : Stored D) (content : Content) (s : StandsFor told store content) (progress : Progress) (is : store.copy ≡ Some progress) where
  abbrev pub table : TableState
  table = table_of content

  abbrev pub copy : CopyStands told store table progress
  copy = s.copy progress is

  -- the gate of the copy's side is closed in each image
  pub copy_shut : IsTrue (told store.disk).honest → Within (told store.disk).images (λ c. IsShut (on (other store.side) c))
  copy_shut h = subst (λ known. Within (told store.disk).images (IsReady known (other store.side))) copy.shut (s.ready h)

  pub copy_place : IsTrue (told store.disk).honest → progress.at ≡ size (other store.side) (told store.disk).bytes
  copy_place h = let had = copy.bytes h in omega (arith, copy.at, ap length had.is, length-append (replicate 20 0) (copy_bytes table.columns copy.written))

  pub copy_late : 1 ≤ progress.at
  copy_late = let at = copy.at in omega (arith, at)

  module _ (n : ℕ) where
    abbrev pub rows : List StoredRow
    rows = taken n progress.cursor table

    abbrev pub later : ℕ
    later = cursor_after progress.cursor rows

    abbrev pub records : List Record
    records = (copy.written ++ copy.waiting) ++ map (row_record table.columns) rows

    abbrev pub piece : List ℕ
    piece = piece_bytes (progress.at == base_at) table.columns store.ends (map (row_record table.columns) rows)

    pub bytes_are : copy_bytes table.columns records ≡ copy_bytes table.columns copy.written ++ piece
    bytes_are = piece_is table.columns copy.written copy.waiting (map (row_record table.columns) rows) progress.at store.ends copy.at copy.first copy.ends

    pub piece_at : progress.at + length piece ≡ base_at + length (copy_bytes table.columns records)
    piece_at = omega (arith, copy.at, ap length bytes_are, length-append (copy_bytes table.columns copy.written) piece)

    pub piece_fits : copy_length later table records ≤ length_of store
    piece_fits =
        let all = ap length (flat_map-append record_bytes (copy.written ++ copy.waiting) (map (row_record table.columns) rows)) in
        omega (arith, copy.fits, all, length-append (records_bytes (copy.written ++ copy.waiting)) (records_bytes (map (row_record table.columns) rows)), rows_length table.columns rows, rest_less table progress.cursor n s.valid)

    pub piece_small : length_of store ≤ side_limit → progress.at + length piece ≤ side_limit
    piece_small few = omega (arith, few, piece_at, piece_fits, copy_short table.columns records)

    -- the copy with this piece
    here_carried : (new : D) (ends : List ℕ) (at : ℕ) → (told new).honest ≡ (told store.disk).honest → ends ≡ [] → at ≡ progress.at + length piece → (IsTrue (told store.disk).honest → on (other store.side) (told new).bytes ≡ on (other store.side) (told store.disk).bytes ++ piece)
        → CopyStands told (record store { disk = new; copy = Some (record { cursor = later; at = at }); ends = ends }) table (record { cursor = later; at = at })
    here_carried new ends at same none at_is wrote = record {
      written = records;
      waiting = [];
      copied = subst (λ rs. IsCopied table later rs) (sym (append-nil records)) (piece_copied table progress.cursor n (copy.written ++ copy.waiting) s.valid s.unowned copy.copied);
      first = λ empty. refl;
      ends = none;
      at = at_is ∙ piece_at;
      fits = subst (λ rs. copy_length later table rs ≤ length_of store) (sym (append-nil records)) piece_fits;
      shut = copy.shut;
      limit = copy.limit;
      bytes = λ honest.
          let h = sym same ∙ honest in
          let had = copy.bytes h in
          record {
            gate = had.gate;
            closed = had.closed;
            is = wrote h ∙ ap (λ (l : List ℕ). l ++ piece) had.is ∙ ap (λ (l : List ℕ). had.gate ∷ l) (append_assoc (replicate 20 0) (copy_bytes table.columns copy.written) piece ∙ ap (λ (l : List ℕ). replicate 20 0 ++ l) (sym bytes_are));
          };
    }

    pub piece_carried : (new : D) (ends more : List ℕ) (cursor : ℕ) → (told new).honest ≡ (told store.disk).honest → ends ≡ [] → cursor ≡ later → more ≡ piece → (IsTrue (told store.disk).honest → on (other store.side) (told new).bytes ≡ on (other store.side) (told store.disk).bytes ++ more)
        → ForSome (Some (record { cursor = cursor; at = progress.at + length more })) (CopyStands told (record store { disk = new; copy = Some (record { cursor = cursor; at = progress.at + length more }); ends = ends }) table)
    piece_carried new ends more cursor same none cursor_is more_is wrote now now_is =
        let at = progress.at + length more in
        let one = here_carried new ends at same none (ap (λ (l : List ℕ). progress.at + length l) more_is) (λ h. wrote h ∙ ap (λ (l : List ℕ). on (other store.side) (told store.disk).bytes ++ l) more_is) in
        subst (CopyStands told (record store { disk = new; copy = Some (record { cursor = cursor; at = at }); ends = ends }) table) (some_same (record { cursor = cursor; at = at }) now now_is)
        (subst (λ k. CopyStands told (record store { disk = new; copy = Some (record { cursor = k; at = at }); ends = ends }) table (record { cursor = k; at = at })) (sym cursor_is) one)

  -- a write behind a closed gate, whether it fails or not
  pub extended_stands : (new : D) (next : Option Progress) (ends : List ℕ) → store.failed ≡ false → (told new).honest ≡ (told store.disk).honest → (IsTrue (told new).honest → (t : ℕ) (c : Sides) → t ≤ (told new).moment → (told new).images c → (told new).since t c) → (IsTrue (told new).honest → (told new).images (told new).bytes)
      → ((columns : List Column) → IsTrue (told store.disk).honest → Within (told store.disk).images (λ c. IsShut (on (other store.side) c)) → LeavesOnly (told store.disk) (told new) (ReadsAs columns (told store.disk).images))
      → (IsTrue (told store.disk).honest → Within (told store.disk).images (λ c. IsShut (on (other store.side) c)) → Within (told new).images (λ c. IsShut (on (other store.side) c))) → (IsTrue (told store.disk).honest → OtherStays (other store.side) (told store.disk) (told new))
      → ForSome next (CopyStands told (record store { disk = new; copy = next; ends = ends }) table) → StandsFor told (record store { disk = new; copy = next; ends = ends }) content
  extended_stands new next ends whole same counts read run shut stays copied =
      stands_beside told store content s whole new same store.known next ends read (λ h. now_reads (told store.disk) (told new) (ReadsAs content.committed.columns (told store.disk).images) counts (same ∙ h) (run content.committed.columns h (copy_shut h))) stays
      (λ h. subst (λ known. Within (told new).images (IsReady known (other store.side))) (sym copy.shut) (shut h (copy_shut h))) copied

  pub extended_moments : (new : D) → store.failed ≡ false → (told new).honest ≡ (told store.disk).honest → IsTrue (told store.disk).honest
      → ((columns : List Column) → IsTrue (told store.disk).honest → Within (told store.disk).images (λ c. IsShut (on (other store.side) c)) → LeavesOnly (told store.disk) (told new) (ReadsAs columns (told store.disk).images))
      → LeavesOnly (told store.disk) (told new) (IsPrefix content store.generation)
  extended_moments new whole same h run = prefix_moments told store content s whole new same h (run content.committed.columns h (copy_shut h))
