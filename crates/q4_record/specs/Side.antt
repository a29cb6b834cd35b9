-- What a side is: the parts that it has, and the table that they stand for.
use Rattle.std.specs.Prelude.{◌≡◌, ◌≢◌, ◌<◌, ◌≤◌, ◌+◌, ◌*◌, ◌^◌, ◌==◌, ◌⊎◌, ℕ, List, [], ◌∷◌, ◌++◌, length, take, drop, fold, codes, slice_index, if◌then◌else◌, All}
use Rattle.std.specs.Int.{w32, w64, to_be_bytes, from_be_bytes}
use Rattle.std.specs.List.{flat_map}
use Rattle.q4_value.specs.declared.column.Column.{Column}
use Rattle.q4_value.specs.Row.{AreWider}
use Rattle.q4_table.specs.TableState.{TableState}
use Rattle.q4_record.specs.declared.header.Format.{Format}
use Rattle.q4_record.specs.declared.header.Format.TheVariants.{First, Second}
use Rattle.q4_record.specs.declared.replay.Stage.TheVariants as stage
use Rattle.q4_record.specs.Record.{Record, records_bytes}
use Rattle.q4_record.specs.Replay.{ReplayState, replays, at_base, at_batches, AllStand}
use Rattle.q4_record.specs.Schema.{schema_bytes, MayHave}

-- the most bytes of a side
abbrev pub side_limit : ℕ
side_limit = 536870912

-- the greatest generation
abbrev pub generation_limit : ℕ
generation_limit = 2 ^ 62

-- the gate is the first byte, and 4 bytes of magic follow it
abbrev pub gate_of : List ℕ → ℕ
gate_of bytes = slice_index bytes 0

abbrev pub magic_of : List ℕ → List ℕ
magic_of bytes = take 4 (drop 1 bytes)

-- one of the two magics
abbrev pub HasMagic : List ℕ → Type 0
HasMagic bytes = (magic_of bytes ≡ codes "Q4O1") ⊎ (magic_of bytes ≡ codes "Q4O2")

-- the format that the magic tells by its last byte, which is `1` (49) in the first format
abbrev pub format_of : List ℕ → Format
format_of bytes = if slice_index bytes 4 == 49 then First else Second

-- the number of 8 bytes that is told at a place
unfoldable pub told_at : ℕ → List ℕ → ℕ
told_at place bytes = from_be_bytes w64 (take 8 (drop place bytes))

-- the generation is told at 5, and the length of the base at 13
abbrev pub generation_of : List ℕ → ℕ
generation_of bytes = told_at 5 bytes

abbrev pub base_length_of : List ℕ → ℕ
base_length_of bytes = told_at 13 bytes

-- the base begins at 21
abbrev pub base_at : ℕ
base_at = 21

abbrev pub base_of : List ℕ → List ℕ
base_of bytes = take (base_length_of bytes) (drop base_at bytes)

abbrev pub behind_base : List ℕ → List ℕ
behind_base bytes = drop (base_at + base_length_of bytes) bytes

-- The gate is open, and the header is all there.
pub record IsOpen (bytes : List ℕ) : Type 0 where
  pub header : base_at ≤ length bytes
  pub gate : gate_of bytes ≡ 1

-- The magic is one of the two, the generation is positive, and base and closing gate are within the bytes.
pub record HasHeader (bytes : List ℕ) : Type 0 where
  pub magic : HasMagic bytes
  pub positive : 1 ≤ generation_of bytes
  pub within : base_at + base_length_of bytes + 1 ≤ length bytes

-- The gate is open and what stands before the base is sound.
pub record Begins (bytes : List ℕ) : Type 0 where
  pub is_open : IsOpen bytes
  pub few : length bytes ≤ side_limit
  pub header : HasHeader bytes
  pub generation : generation_of bytes ≤ generation_limit

-- The base spells the schema, which the format has, and then records that stand, up to one next record, and they replay
-- to the table.
pub record IsBase (format : Format) (columns : List Column) (base : List ℕ) (table : TableState) : Type 0 where
  pub may : All (MayHave format) columns
  pub records : List Record
  pub base_is : base ≡ schema_bytes columns ++ records_bytes records
  pub stand : AllStand (at_base columns) records
  pub replay_is : replays (at_base columns) records ≡ record { stage = stage.Whole; table = table }

-- an open gate, the length of the records, and the records
abbrev pub batch_bytes : List Record → List ℕ
batch_bytes records = 1 ∷ to_be_bytes w32 (length (records_bytes records)) ++ records_bytes records

abbrev pub batches_bytes : List (List Record) → List ℕ
batches_bytes batches = flat_map batch_bytes batches

-- Each record of each batch stands where those before it lead to.
abbrev pub BatchesStand : ReplayState → List (List Record) → Type 0
BatchesStand replay [] = Unit {0}
BatchesStand replay (b ∷ bs) = AllStand replay b × BatchesStand (replays replay b) bs

abbrev pub after_batches : ReplayState → List (List Record) → ReplayState
after_batches replay batches = fold replays replay batches

-- The header, the base and these batches stand, and lead to this replay. The rest is what is behind them.
pub record Reaches (columns : List Column) (bytes : List ℕ) (batches : List (List Record)) (replay : ReplayState) (rest : List ℕ) : Type 0 where
  pub begins : Begins bytes
  pub base_table : TableState
  pub base : IsBase (format_of bytes) columns (base_of bytes) base_table
  pub behind : behind_base bytes ≡ batches_bytes batches ++ rest
  pub stand : BatchesStand (at_batches base_table) batches
  pub replay_is : replay ≡ after_batches (at_batches base_table) batches

-- where the rest behind these batches begins
abbrev pub place_behind : List ℕ → List (List Record) → ℕ
place_behind bytes batches = base_at + base_length_of bytes + length (batches_bytes batches)

-- All parts stand up to the closing gate, which is any byte but 1, whatever follows it. The length is that up to and
-- with the closing gate.
pub record IsWhole (columns : List Column) (bytes : List ℕ) (table : TableState) (generation len : ℕ) : Type 0 where
  pub batches : List (List Record)
  pub replay : ReplayState
  pub closing : ℕ
  pub ignored : List ℕ
  pub reaches : Reaches columns bytes batches replay (closing ∷ ignored)
  pub closed : closing ≢ 1
  pub table_is : table ≡ replay.table
  pub generation_is : generation ≡ generation_of bytes
  pub len_is : len ≡ place_behind bytes batches + 1

-- The length and 32 bytes for each row are within the limit.
abbrev pub HasRoom : TableState → ℕ → Type 0
HasRoom table len = len + 32 * length table.rows ≤ side_limit

-- The bytes are a side whose schema is of these very columns, which stands for the table, with this generation and length.
pub record OwnSide (columns : List Column) (bytes : List ℕ) (table : TableState) (generation len : ℕ) : Type 0 where
  pub stands : IsWhole columns bytes table generation len
  pub room : HasRoom table len

-- The bytes are a side of its own columns, than which those given are wider or the same. It stands for the table with the
-- columns given. Where they are wider there is a greater generation.
pub record Side (columns : List Column) (bytes : List ℕ) (table : TableState) (generation len : ℕ) : Type 0 where
  pub own : List Column
  pub own_table : TableState
  pub wider : AreWider columns own
  pub stands : OwnSide own bytes own_table generation len
  pub table_is : table ≡ record own_table { columns = columns }
  pub greater : own ≢ columns → generation < generation_limit

-- The side's schema is narrower than the columns given.
pub record IsNarrow (columns : List Column) (bytes : List ℕ) : Type 0 where
  pub own : List Column
  pub rest : List ℕ
  pub base_is : base_of bytes ≡ schema_bytes own ++ rest
  pub wider : AreWider columns own
  pub other : own ≢ columns
