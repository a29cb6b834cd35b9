-- What contracts see of a store, and what it stands for.
use Rattle.std.specs.Prelude.{◌≡◌, ◌==◌, ◌<◌, ◌≤◌, ◌+◌, ◌-◌, ◌*◌, ℕ, Bool, true, false, List, [], ◌∷◌, ◌++◌, Option, None, Some, All, IsTrue, length, nat_lt, sum_by, if◌then◌else◌}
use Rattle.std.specs.Option.{ForSome}
use Rattle.q4_value.specs.declared.column.Column.{Column}
use Rattle.q4_value.specs.declared.row.Value.{Value}
use Rattle.q4_value.specs.Names.{AreColumns}
use Rattle.q4_value.specs.Row.{Fits, row_size}
use Rattle.q4_value.specs.Spelling.{optional_count}
use Rattle.q4_table.specs.declared.adding.Check.TheVariants as check
use Rattle.q4_table.specs.declared.origin.Origin.{Origin}
use Rattle.q4_table.specs.Adding.{IsOrigin, check_of}
use Rattle.q4_table.specs.Rows.{IsThere}
use Rattle.q4_table.specs.TableState.{TableState}
use Rattle.q4_table.specs.Valid.{IsValidTable}
use Rattle.q4_record.specs.Record.{Record, record_bytes, records_bytes}
use Rattle.q4_record.specs.Replay.{at_batches, AllStand}
use Rattle.q4_record.specs.Schema.{schema_bytes}
use Rattle.q4_record.specs.Side.{side_limit, generation_limit, base_at, OwnSide}
use Rattle.q4_disk.specs.declared.disk.Side.{Side}
use Rattle.q4_disk.specs.Told.{Sides, Told}
use Rattle.q4_disk.specs.Images.{on, other, size, Within}
use Rattle.q4_store.specs.declared.fault.AppendFault.{AppendFault}
use Rattle.q4_store.specs.declared.fault.AppendFault.TheVariants as fault
use Rattle.q4_store.specs.declared.copying.Progress.{Progress}
use Rattle.q4_store.specs.Copied.{IsCopied, rows_from, row_cost, rest_records, piece_bytes, copy_length, compact_size, copy_bytes, HasCopied}
use Rattle.q4_store.specs.Reading.{IsBehind}
use Rattle.q4_store.specs.Parts.{IsReady, opened}
use Rattle.q4_store.specs.Looking.{header_bytes}
use Rattle.q4_store.specs.Content.{Content, table_of, row_ended, IsPrefix, IsPrefixOrNew}

pub record Stored (D : Type 0) : Type 0 where
  pub disk : D
  -- the columns that it was opened with, by which rows are spelled
  pub columns : List Column
  -- the current side, its length up to and with the closing gate, and its generation
  pub side : Side
  pub end : ℕ
  pub generation : ℕ
  -- the bytes of the records that wait for a commit
  pub records : List ℕ
  -- the number of rows, for whose ends memory is kept
  pub rows : ℕ
  -- the bytes of the record for which there is room and memory
  pub reserved : ℕ
  -- whether the gate of the other side is known to be there, closed and synced
  pub known : Bool
  -- whether it has failed: a commit failed, or a finish was unsure
  pub failed : Bool
  -- how far a copy has come, where one is under way, and the bytes of the ends that wait for it
  pub copy : Option Progress
  pub ends : List ℕ

-- what records add to a side: themselves, and where none waits yet a gate and their length in 4 bytes
abbrev pub batch_size : List ℕ → ℕ → ℕ
batch_size [] size = 5 + size
batch_size (b ∷ bs) size = size

abbrev pub pending_length : List ℕ → ℕ
pending_length [] = 0
pending_length (b ∷ bs) = 5 + length (b ∷ bs)

-- with what is pending
abbrev pub length_of : {D : Type 0} → Stored D → ℕ
length_of store = store.end + pending_length store.records

-- the ends that wait for a copy, with one row's that was copied
abbrev pub ends_with : Option Progress → List ℕ → ℕ → List ℕ
ends_with None ends number = ends
ends_with (Some progress) ends number = if nat_lt number progress.cursor then ends ++ record_bytes (row_ended number) else ends

-- a record of this size more, and 32 bytes for each row and one more, pass the limit of a side
abbrev pub IsOver : ℕ → ℕ → ℕ → Type 0
IsOver length cost live = side_limit < length + cost + 32 * (live + 1)

abbrev pub cost_of : {D : Type 0} → Stored D → ℕ → ℕ
cost_of store size = batch_size store.records size

-- In each image the current side is the one that is read, which stands for the table, and the other side is behind it.
pub record IsSettled (told : Told) (side : Side) (table : TableState) (generation end : ℕ) : Type 0 where
  pub stands : OwnSide table.columns (on side told.bytes) table generation end
  pub only : Within told.images (λ c. on side c ≡ on side told.bytes)
  pub behind : Within told.images (λ c. IsBehind generation (on (other side) c))

-- A copy is under way, and has come so far: what it has and what waits for it replay to exactly the rows below its cursor.
pub record CopyStands {D : Type 0} (told : D → Told) (store : Stored D) (table : TableState) (progress : Progress) : Type 0 where
  pub written : List Record
  pub waiting : List Record
  pub copied : IsCopied table progress.cursor (written ++ waiting)
  -- none waits before the first is written
  pub first : written ≡ [] → waiting ≡ []
  pub ends : store.ends ≡ records_bytes waiting
  pub at : progress.at ≡ base_at + length (copy_bytes table.columns written)
  -- With the rest it will be no longer than the current side with what is pending.
  pub fits : copy_length progress.cursor table (written ++ waiting) ≤ length_of store
  pub shut : store.known ≡ true
  pub limit : store.generation < generation_limit
  -- What it has stands on the other side, as it is read.
  pub bytes : IsTrue (told store.disk).honest → HasCopied table.columns written (on (other store.side) (told store.disk).bytes)

-- The store stands for this content.
pub record StandsFor {D : Type 0} (told : D → Told) (store : Stored D) (content : Content) : Type 0 where
  pub columns : AreColumns content.committed.columns
  pub own : store.columns ≡ content.committed.columns
  pub valid : IsValidTable (table_of content)
  pub unowned : All (λ r. r.owner ≡ None) (table_of content).rows
  pub stand : AllStand (at_batches content.committed) content.pending
  pub records : store.records ≡ records_bytes content.pending
  pub rows : store.rows ≡ length (table_of content).rows
  -- Opening what a crash now leaves gives what is committed and a prefix of what is pending.
  pub images : IsTrue (told store.disk).honest → Within (told store.disk).images (IsPrefix content store.generation)
  -- Where the store has not failed it gives exactly what is committed.
  pub settled : IsTrue (told store.disk).honest → store.failed ≡ false
      → IsSettled (told store.disk) store.side content.committed store.generation store.end
  -- The other side's gate is there and closed where that is known, and else that side counts for nothing with any gate.
  pub ready : IsTrue (told store.disk).honest → Within (told store.disk).images (IsReady store.known (other store.side))
  -- A copy would be no longer than the current side with what is pending.
  pub long : compact_size (table_of content) ≤ length_of store
  pub copy : ForSome store.copy (CopyStands told store (table_of content))

-- what is left of a copy, with a closed gate
abbrev pub last_bytes : {D : Type 0} → Stored D → Progress → TableState → List ℕ
last_bytes store progress table = piece_bytes (progress.at == base_at) table.columns store.ends (rest_records progress.cursor table) ++ 0 ∷ []

-- What is left of the copy, with a closed gate, and the header of its side.
pub record IsRest {D : Type 0} (store : Stored D) (progress : Progress) (content : Content) (last header : List ℕ) : Type 0 where
  pub last_is : last ≡ last_bytes store progress (table_of content)
  pub header_is : header ≡ header_bytes (store.generation + 1) (progress.at + length last - (base_at + 1))

-- How long the side will be once the copy is finished: what it has and what waits, the schema where it has none yet, and the rest.
abbrev pub finished_length : {D : Type 0} → Stored D → Progress → TableState → ℕ
finished_length store progress table =
    progress.at + length (if progress.at == base_at then schema_bytes table.columns else []) + length store.ends + sum_by (row_cost table.columns) (rows_from progress.cursor table.rows) + 10 * length table.marks + 10

-- A copy that is under way will be, once it is finished, longer by so many bytes than the least that a side of the table takes.
abbrev pub IsLongerBy : {D : Type 0} → Stored D → TableState → ℕ → Type 0
IsLongerBy store table extra = ForSome store.copy (λ progress. finished_length store progress table ≡ compact_size table + extra)

-- what the end of a row adds to that: where the copy has the row, its record and that of its end
abbrev pub end_extra : Option Progress → List Column → ℕ → List Value → ℕ
end_extra None columns number row = 0
end_extra (Some progress) columns number row =
    if nat_lt number progress.cursor then 18 + (row_size row + optional_count columns) else 0

-- What a crash may leave behind a finish that is unsure: opening gives the table with a prefix of the changes or the whole
-- table with a generation greater by one, and the new side, its gate taken as open, is that whole table.
pub record IsUnsure (content : Content) (generation : ℕ) (side : Side) (len : ℕ) (sides : Sides) : Type 0 where
  pub reads : IsPrefixOrNew content generation sides
  pub whole : OwnSide content.committed.columns (opened (on side sides)) (table_of content) (generation + 1) len

-- The store of this content is failed behind a finish that was unsure, with what a crash may leave then.
pub record StandsUnsure {D : Type 0} (told : D → Told) (store : Stored D) (content : Content) : Type 0 where
  pub failed : store.failed ≡ true
  pub dropped : store.copy ≡ None
  pub len : ℕ
  pub images : IsTrue (told store.disk).honest → Within (told store.disk).images (IsUnsure content store.generation (other store.side) len)

-- What always holds: the place of an honest disk's closing gate is there, and there is room for the end of each row.
pub record IsKept {D : Type 0} (told : D → Told) (store : Stored D) : Type 0 where
  pub gate : 1 ≤ store.end
  pub within : IsTrue (told store.disk).honest → store.failed ≡ false → store.end ≤ size store.side (told store.disk).bytes
  pub room : length_of store + 32 * store.rows ≤ side_limit
  pub reserve : 0 < store.reserved → length_of store + cost_of store store.reserved + 32 * (store.rows + 1) ≤ side_limit

-- And there is memory for it, in the batch and for a copy, and for a reserved row and its end.
pub record IsHeld {D : Type 0} (told : D → Told) (store : Stored D) (memory copy_memory : ℕ) : Type 0 where
  pub kept : IsKept told store
  pub batch : 9 * store.rows ≤ memory
  pub copy : length store.ends + 9 * store.rows ≤ copy_memory
  pub reserve_batch : 0 < store.reserved → store.reserved + 9 * (store.rows + 1) ≤ memory
  pub reserve_copy : 0 < store.reserved → length store.ends + 9 * (store.rows + 1) ≤ copy_memory

-- The table with all changes adds this row as this number.
pub record TakesRow (content : Content) (number : ℕ) (row : List Value) (origin : Option Origin) : Type 0 where
  pub fits : Fits (table_of content).columns row
  pub valid : ForSome origin IsOrigin
  pub new : check_of (table_of content) row origin ≡ check.New
  pub is_next : number ≡ (table_of content).next

-- it has this row
abbrev pub HasRow : Content → ℕ → Type 0
HasRow content number = IsThere (table_of content).rows number

-- Why no record of this cost is taken: the side is full, with its length and what is pending, or memory was wanted.
abbrev pub IsRefused : ℕ → ℕ → ℕ → AppendFault → Type 0
IsRefused taken cost live (fault.FileFull length) = (length ≡ taken) × IsOver taken cost live
IsRefused taken cost live fault.Memory = IsOver taken cost live → ⊥
