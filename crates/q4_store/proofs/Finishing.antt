-- A copy that is finished: its bytes with an open gate are a side, and the store that has it.
use Rattle.std.proofs.Common.{◌≡◌, ℕ, ◌+◌, ◌*◌, ◌≤◌, ◌⊎◌, false, List, [], ◌∷◌, ◌++◌, None, Some, length, map, replicate, refl, sym, ap, subst, ◌∙◌, append_assoc, append-nil, length-append, inl, inr, IsTrue, arith}
use Rattle.std.specs.List.{sum_by}
use Rattle.std.specs.Prelude.{◌==◌}
use Rattle.std.proofs.lemmas.List.{take_all, drop_all, drop_at}
use Rattle.std.proofs.lemmas.List.Concat.{flat_map-append, flat_map-cons}
use Rattle.q4_value.specs.Names.{AreColumns}
use Rattle.q4_value.specs.declared.column.Column.{Column}
use Rattle.q4_table.specs.declared.marks.Mark as marks
use Rattle.q4_table.specs.TableState.{TableState}
use Rattle.q4_record.specs.Record.{Record, record_bytes, records_bytes}
use Rattle.q4_record.specs.Schema.{schema_bytes}
use Rattle.q4_record.specs.declared.header.Format.TheVariants.{Second}
use Rattle.q4_record.specs.Side.{base_at, side_limit, generation_limit, generation_of, IsBase, HasRoom, OwnSide}
use Rattle.q4_record.specs.Written.{row_record, mark_record, next_record, side_bytes}
use Rattle.q4_record.proofs.WrittenSides.{base_side}
use Rattle.q4_disk.specs.declared.disk.Side.{Side}
use Rattle.q4_disk.specs.declared.disk.Side.TheVariants.{A, B}
use Rattle.q4_disk.specs.Told.{Sides, Told}
use Rattle.q4_disk.specs.Images.{on, other, written, Within}
use Rattle.q4_disk.specs.Time.{LeavesOnly, OtherStays}
use Rattle.q4_disk.proofs.Ranges.{written_at}
use Rattle.q4_store.specs.declared.copying.Progress.{Progress}
use Rattle.q4_record.specs.Side.{HasMagic}
use Rattle.q4_store.specs.Reading.{IsBehind, ReadsOwn, ReadsAs}
use Rattle.q4_store.specs.Parts.{IsShut, IsReady, IsFilled, opened}
use Rattle.q4_store.specs.Looking.{header_bytes}
use Rattle.q4_store.specs.Content.{Content, table_of, all_committed, IsPrefixOrNew}
use Rattle.q4_store.specs.Copied.{rows_from, rest_records, row_cost, IsFinished, copy_length, copy_bytes, piece_bytes}
use Rattle.q4_store.specs.Store.{Stored, StandsFor, CopyStands, IsRest, IsSettled, length_of, pending_length}
use Rattle.q4_store.proofs.Lifting.{Holds, columns_stay}
use Rattle.q4_store.proofs.Commits.{settled_reads, settled_holds}
use Rattle.q4_store.proofs.CopyRecords.{copy_finished}
use Rattle.q4_store.proofs.CopyStands.{current_stays, prefix_as}
use Rattle.q4_store.proofs.Pieces.{rows_length, piece_is, copy_shut}
use Rattle.std.proofs.Math.Logic.{⊎_elim}
use Rattle.q4_record.specs.Replay.{at_batches}
use Rattle.q4_disk.proofs.Moments.{weaker, then_only}
use Rattle.q4_store.proofs.Quiet.{now_reads, reads_as_then}
use Rattle.q4_store.proofs.Weights.{side_long}

-- a write at the end
at_end : (old more : List ℕ) (at : ℕ) → at ≡ length old → written old at more ≡ old ++ more
at_end old more at is =
    (λ i. take_all at old (omega (arith, is)) i ++ (more ++ drop_all (at + length more) old (omega (arith, is)) i)) ∙ ap (λ (l : List ℕ). old ++ l) (append-nil more)

-- what is read of a copy once the rest and its header are written
pub finished_bytes : (gate : ℕ) (had last header : List ℕ) (at : ℕ) → at ≡ base_at + length had → length header ≡ 20 → opened (written (written (gate ∷ (replicate 20 0 ++ had)) at last) 1 header) ≡ 1 ∷ (header ++ (had ++ last))
finished_bytes gate had last header at at_is twenty =
    ap (λ (l : List ℕ). opened (written l 1 header)) (at_end (gate ∷ (replicate 20 0 ++ had)) last at (omega (arith, at_is, length-append (replicate 20 0) had)) ∙ ap (λ (l : List ℕ). gate ∷ l) (append_assoc (replicate 20 0) had last))
    ∙ ap opened (written_at (gate ∷ []) (replicate 20 0 ++ (had ++ last)) header 1 refl)
    ∙ ap (λ (l : List ℕ). 1 ∷ (header ++ l)) (drop_at (replicate 20 0) (had ++ last) (length header) (sym twenty))

pub marks_length : (ms : List marks.Mark) → length (records_bytes (map mark_record ms)) ≡ 10 * length ms
marks_length [] = refl
marks_length (m ∷ ms) = omega (arith, ap length (flat_map-cons record_bytes (mark_record m) (map mark_record ms)), length-append (record_bytes (mark_record m)) (records_bytes (map mark_record ms)), marks_length ms)

-- how long the rest is
pub rest_length : (cursor : ℕ) (table : TableState) → length (records_bytes (rest_records cursor table)) ≡ sum_by (row_cost table.columns) (rows_from cursor table.rows) + 10 * length table.marks + 9
rest_length cursor table =
    let rows = map (row_record table.columns) (rows_from cursor table.rows) in
    let ms = map mark_record table.marks in
    let next = next_record table.next ∷ [] in
    omega (arith, ap length (flat_map-append record_bytes rows (ms ++ next)), length-append (records_bytes rows) (records_bytes (ms ++ next)), ap length (flat_map-append record_bytes ms next), length-append (records_bytes ms) (records_bytes next), rows_length table.columns (rows_from cursor table.rows), marks_length table.marks)

some_bytes : (columns : List Column) (records : List Record) (r : Record) (rs : List Record) → records ≡ r ∷ rs → copy_bytes columns records ≡ schema_bytes columns ++ records_bytes records
some_bytes columns records r rs is = ap (copy_bytes columns) is ∙ ap (λ qs. schema_bytes columns ++ records_bytes qs) (sym is)

-- records in front of the rest are some
pub all_some : (columns : List Column) (front : List Record) (cursor : ℕ) (table : TableState) → copy_bytes columns (front ++ rest_records cursor table) ≡ schema_bytes columns ++ records_bytes (front ++ rest_records cursor table)
all_some columns [] cursor table = rest_some (map (row_record table.columns) (rows_from cursor table.rows)) (map mark_record table.marks)
  where
    last_some : (ms : List Record) → copy_bytes columns (ms ++ next_record table.next ∷ []) ≡ schema_bytes columns ++ records_bytes (ms ++ next_record table.next ∷ [])
    last_some [] = refl
    last_some (m ∷ ms) = refl

    rest_some : (rows ms : List Record) → copy_bytes columns (rows ++ (ms ++ next_record table.next ∷ [])) ≡ schema_bytes columns ++ records_bytes (rows ++ (ms ++ next_record table.next ∷ []))
    rest_some [] ms = last_some ms
    rest_some (r ∷ rows) ms = refl
all_some columns (r ∷ rs) cursor table = refl

-- a base that leads to a table is read as it, whatever generation its header has
pub base_read : (table : TableState) (records : List Record) (generation : ℕ) → IsFinished table records → 1 ≤ generation → generation ≤ generation_limit
    → length (side_bytes generation (schema_bytes table.columns ++ records_bytes records) (0 ∷ [])) ≤ side_limit → HasRoom table (base_at + length (schema_bytes table.columns ++ records_bytes records) + 1)
    → OwnSide table.columns (side_bytes generation (schema_bytes table.columns ++ records_bytes records) (0 ∷ [])) table generation (base_at + length (schema_bytes table.columns ++ records_bytes records) + 1)
base_read table records generation f positive limit few room =
    let base = schema_bytes table.columns ++ records_bytes records in
    let is_base : IsBase Second table.columns base table = record { may = λ i d lt. tt; records = records; base_is = refl; stand = f.stand; replay_is = f.leads } in
    let len : base_at + length base + 0 + 1 ≡ base_at + length base + 1 = omega arith in
    subst (λ (n : ℕ). OwnSide table.columns (side_bytes generation base (0 ∷ [])) table generation n) len
    (base_side table.columns base table generation [] 0 [] is_base positive limit tt (omega arith) few (subst (λ (n : ℕ). HasRoom table n) (sym len) room))

module _ {D : Type 0} (told : D → Told) (store : Stored D) (content : Content) (s : StandsFor told store content) (progress : Progress) (is : store.copy ≡ Some progress) (room : length_of store + 32 * store.rows ≤ side_limit) where
  abbrev pub table : TableState
  table = table_of content

  abbrev pub copy : CopyStands told store table progress
  copy = s.copy progress is

  -- the base as it will be
  abbrev pub all : List Record
  all = (copy.written ++ copy.waiting) ++ rest_records progress.cursor table

  abbrev pub base : List ℕ
  base = schema_bytes table.columns ++ records_bytes all

  abbrev pub rest : List ℕ
  rest = piece_bytes (progress.at == base_at) table.columns store.ends (rest_records progress.cursor table)

  pub base_is : base ≡ copy_bytes table.columns copy.written ++ rest
  base_is = sym (all_some table.columns (copy.written ++ copy.waiting) progress.cursor table) ∙ piece_is table.columns copy.written copy.waiting (rest_records progress.cursor table) progress.at store.ends copy.at copy.first copy.ends

  -- its length up to and with the closing gate
  pub base_length : base_at + length base + 1 ≡ copy_length progress.cursor table (copy.written ++ copy.waiting)
  base_length =
      omega (arith, length-append (schema_bytes table.columns) (records_bytes all), ap length (flat_map-append record_bytes (copy.written ++ copy.waiting) (rest_records progress.cursor table)), length-append (records_bytes (copy.written ++ copy.waiting)) (records_bytes (rest_records progress.cursor table)), rest_length progress.cursor table)

  pub rest_at : progress.at + length rest ≡ base_at + length base
  rest_at = omega (arith, copy.at, ap length base_is, length-append (copy_bytes table.columns copy.written) rest)

  -- it is no longer than the current side
  pub no_longer : base_at + length base + 1 ≤ length_of store
  no_longer = omega (arith, base_length, copy.fits)

  pub finished_side : OwnSide table.columns (side_bytes (store.generation + 1) base (0 ∷ [])) table (store.generation + 1) (base_at + length base + 1)
  finished_side =
      let long : length (side_bytes (store.generation + 1) base (0 ∷ [])) ≡ base_at + length base + 1 = omega (arith, length-append base (0 ∷ [])) in
      let limit = copy.limit in
      base_read table all (store.generation + 1) (copy_finished table progress.cursor (copy.written ++ copy.waiting) s.valid s.unowned copy.copied) (omega arith) (omega (arith, limit)) (omega (arith, long, no_longer, room)) (omega (arith, no_longer, room, s.rows))

  -- with an open gate, what is read of the copy's side stands for the table
  pub finish_stands : (last header : List ℕ) → last ≡ rest ++ 0 ∷ [] → header ≡ header_bytes (store.generation + 1) (length base) → IsTrue (told store.disk).honest
      → OwnSide table.columns (opened (written (written (on (other store.side) (told store.disk).bytes) progress.at last) 1 header)) table (store.generation + 1) (base_at + length base + 1)
  finish_stands last header last_is header_is honest =
      let had = copy.bytes honest in
      let bytes : opened (written (written (on (other store.side) (told store.disk).bytes) progress.at last) 1 header) ≡ side_bytes (store.generation + 1) base (0 ∷ []) =
      ap (λ (l : List ℕ). opened (written (written l progress.at last) 1 header)) had.is
      ∙ finished_bytes had.gate (copy_bytes table.columns copy.written) last header progress.at copy.at (ap length header_is)
      ∙ ap (λ (l : List ℕ). 1 ∷ (header ++ l)) (ap (λ (l : List ℕ). copy_bytes table.columns copy.written ++ l) last_is ∙ sym (append_assoc (copy_bytes table.columns copy.written) rest (0 ∷ [])) ∙ ap (λ (l : List ℕ). l ++ 0 ∷ []) (sym base_is))
      ∙ ap (λ (l : List ℕ). 1 ∷ (l ++ (base ++ 0 ∷ []))) header_is in
      subst (λ (l : List ℕ). OwnSide table.columns l table (store.generation + 1) (base_at + length base + 1)) (sym bytes) finished_side

-- a side that stands for a table is behind a greater generation
side_behind : (columns : List Column) (bytes : List ℕ) (table : TableState) (generation end : ℕ) → OwnSide columns bytes table generation end → IsBehind (generation + 1) bytes
side_behind columns bytes table generation end side is_open = let told = side.stands.generation_is in (side.stands.reaches.begins.header.magic, omega (arith, told))

pub back_again : (side : Side) (c : Sides) → on (other (other side)) c ≡ on side c
back_again A c = refl
back_again B c = refl

-- the current side is behind the copy in each image
pub current_behind : (side : Side) (told : Told) (table : TableState) (generation end : ℕ) → IsSettled told side table generation end → Within told.images (λ c. IsBehind (generation + 1) (on (other (other side)) c))
current_behind side told table generation end s c left =
    subst (IsBehind (generation + 1)) (sym (back_again side c)) (side_behind table.columns (on side c) table generation end (subst (λ (l : List ℕ). OwnSide table.columns l table generation end) (sym (s.only c left)) s.stands))

-- what a fill that succeeded says
abbrev pub FillSays : Told → Told → Side → ℕ → List ℕ → List ℕ → Type 0
FillSays old new side at last header =
    (columns : List Column) (table : TableState) (generation len : ℕ) → IsTrue old.honest → Within old.images (λ c. IsShut (on side c))
    → OwnSide columns (opened (written (written (on side old.bytes) at last) 1 header)) table generation len → Within old.images (λ c. IsBehind generation (on (other side) c))
    → IsFilled new side columns table generation len

-- the old side, once the new one is open, counts for nothing
pub spare_then : (side : Side) (generation : ℕ) (c : Sides) → Holds (other side) (generation + 1) c → HasMagic (on side c) → generation_of (on side c) ≡ generation → IsReady false (other (other side)) c
spare_then A generation c holds magic told = inr (record { other_open = holds.0; magic = magic; lesser = omega (arith, told, holds.1) })
spare_then B generation c holds magic told = inr (record { other_open = holds.0; magic = magic; lesser = omega (arith, told, holds.1) })

module _ {D : Type 0} (told : D → Told) (store : Stored D) (content : Content) (s : StandsFor told store content) (progress : Progress) (is : store.copy ≡ Some progress) (room : length_of store + 32 * store.rows ≤ side_limit) (whole : store.failed ≡ false)
    (last header : List ℕ) (r : IsRest store progress content last header) where
  abbrev old : Told
  old = told store.disk

  abbrev pub end : ℕ
  end = progress.at + length last

  abbrev the_table : TableState
  the_table = table_of content

  pub end_is : end ≡ base_at + length (base told store content s progress is room) + 1
  end_is = omega (arith, rest_at told store content s progress is room, ap length r.last_is, length-append (rest told store content s progress is room) (0 ∷ []))

  pub end_few : end ≤ length_of store
  end_few = omega (arith, end_is, no_longer told store content s progress is room)

  pub the_filled : (mid : Told) → FillSays old mid (other store.side) progress.at last header → IsTrue old.honest → IsFilled mid (other store.side) the_table.columns the_table (store.generation + 1) end
  the_filled mid says h =
      let header_is : header ≡ header_bytes (store.generation + 1) (length (base told store content s progress is room)) = r.header_is ∙ ap (header_bytes (store.generation + 1)) (omega (arith, end_is)) in
      let stands = subst (λ (n : ℕ). OwnSide the_table.columns (opened (written (written (on (other store.side) old.bytes) progress.at last) 1 header)) the_table (store.generation + 1) n) (sym end_is) (finish_stands told store content s progress is room last header r.last_is header_is h) in
      says the_table.columns the_table (store.generation + 1) end h (copy_shut told store content s progress is h) stands (current_behind store.side old content.committed store.generation store.end (s.settled h whole))

  pub columns_are : the_table.columns ≡ content.committed.columns
  columns_are = columns_stay (at_batches content.committed) content.pending

  -- the moments of a fill
  pub fill_moments : (mid : Told) → IsTrue old.honest → LeavesOnly old mid (ReadsAs content.committed.columns old.images) → LeavesOnly old mid (IsPrefixOrNew content store.generation)
  fill_moments mid h run = weaker old mid (ReadsAs content.committed.columns old.images) (IsPrefixOrNew content store.generation) run (λ c like. inl (prefix_as content store.generation old.images (s.images h) c like))

  -- and of a switch behind it
  pub finish_moments : (mid new : Told) → IsTrue old.honest → IsTrue mid.honest → (IsTrue mid.honest → (t : ℕ) (c : Sides) → t ≤ mid.moment → mid.images c → mid.since t c) → LeavesOnly old mid (ReadsAs content.committed.columns old.images)
      → LeavesOnly mid new (λ c. ReadsAs content.committed.columns mid.images c ⊎ ReadsOwn content.committed.columns c the_table (store.generation + 1)) → LeavesOnly old new (IsPrefixOrNew content store.generation)
  finish_moments mid new h h1 counts first second =
      let columns = content.committed.columns in
      let now = now_reads old mid (ReadsAs columns old.images) counts h1 first in
      weaker old new (λ c. ReadsAs columns old.images c ⊎ (ReadsAs columns mid.images c ⊎ ReadsOwn columns c the_table (store.generation + 1))) (IsPrefixOrNew content store.generation)
      (then_only old mid new (ReadsAs columns old.images) (λ c. ReadsAs columns mid.images c ⊎ ReadsOwn columns c the_table (store.generation + 1)) first second)
      (λ c either. ⊎_elim (λ was. inl (prefix_as content store.generation old.images (s.images h) c was)) (λ later. ⊎_elim (λ like. inl (prefix_as content store.generation old.images (s.images h) c (reads_as_then columns old.images mid.images now c like))) (λ made. inr made) later) either)

  -- the store goes on with the new side
  pub settled_finished : (mid new : Told) → IsFilled mid (other store.side) the_table.columns the_table (store.generation + 1) end → on (other store.side) new.bytes ≡ opened (on (other store.side) mid.bytes) → Within new.images (λ c. on (other store.side) c ≡ on (other store.side) new.bytes)
      → OtherStays (other store.side) mid new → IsSettled new (other store.side) the_table (store.generation + 1) end
  settled_finished mid new f bytes only stays = record {
    stands = subst (λ (l : List ℕ). OwnSide the_table.columns l the_table (store.generation + 1) end) (sym bytes) f.stands;
    only = only;
    behind = λ c left. let from = stays.each c left in subst (IsBehind (store.generation + 1)) (sym from.2) (f.behind from.0 from.1);
  }

  finished_ready : (new : Told) → IsTrue old.honest → IsSettled new (other store.side) the_table (store.generation + 1) end → OtherStays (other store.side) old new → Within new.images (IsReady false (other (other store.side)))
  finished_ready new h settled stays c left =
      let t = s.settled h whole in
      let from = current_stays store.side old new stays c left in
      let stands = subst (λ (l : List ℕ). OwnSide content.committed.columns l content.committed store.generation store.end) (sym (from.2 ∙ t.only from.0 from.1)) t.stands in
      spare_then store.side store.generation c (settled_holds new (other store.side) the_table (store.generation + 1) end settled c left) stands.stands.reaches.begins.header.magic (sym stands.stands.generation_is)

  pub stands_finished : (new : D) (records ends : List ℕ) → (told new).honest ≡ old.honest → records ≡ [] → (IsTrue old.honest → IsSettled (told new) (other store.side) the_table (store.generation + 1) end) → (IsTrue old.honest → OtherStays (other store.side) old (told new))
      → StandsFor told (record { disk = new; columns = store.columns; side = other store.side; end = end; generation = store.generation + 1; records = records; rows = store.rows; reserved = 0; known = false; failed = false; copy = None; ends = ends }) (all_committed content)
  stands_finished new records ends same none settled stays = record {
    columns = subst AreColumns (sym columns_are) s.columns;
    own = s.own ∙ sym columns_are;
    valid = s.valid;
    unowned = s.unowned;
    stand = tt;
    records = none;
    rows = s.rows;
    images = λ honest c left. settled_reads (told new) (other store.side) the_table (store.generation + 1) end (settled (sym same ∙ honest)) c left;
    settled = λ honest still. settled (sym same ∙ honest);
    ready = λ honest. let h = sym same ∙ honest in finished_ready (told new) h (settled h) (stays h);
    long = let no_more = ap pending_length none in omega (arith, side_long the_table.columns (side_bytes (store.generation + 1) (base told store content s progress is room) (0 ∷ [])) the_table (store.generation + 1) (base_at + length (base told store content s progress is room) + 1) (finished_side told store content s progress is room), end_is, no_more);
    copy = λ now wrong. absurd (none_some now wrong);
  }
    where
      none_some : (now : Progress) → None ≡ Some now → ⊥
      none_some now wrong = cc wrong
