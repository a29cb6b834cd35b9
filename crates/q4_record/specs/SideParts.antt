-- What the readers of the parts of a side answer.
use Rattle.std.specs.Prelude.{◌≡◌, ◌≢◌, ◌+◌, ◌⊎◌, ℕ, false, List, ◌∷◌, ◌++◌, Option, None, Some, IsTrue, length, All}
use Rattle.q4_value.specs.declared.column.Column.{Column}
use Rattle.q4_value.specs.Row.{IsWider, AreWider}
use Rattle.q4_table.specs.TableState.{TableState}
use Rattle.q4_record.specs.declared.header.Format.{Format}
use Rattle.q4_record.specs.declared.schema.Likeness.{Likeness}
use Rattle.q4_record.specs.declared.schema.Likeness.TheVariants as likeness
use Rattle.q4_record.specs.declared.schema.ToldColumns.{ToldColumns}
use Rattle.q4_record.specs.declared.side.SideFault.{SideFault}
use Rattle.q4_record.specs.declared.side.SideFault.TheVariants as fault
use Rattle.q4_record.specs.Record.{Record}
use Rattle.q4_record.specs.Replay.{ReplayState, at_batches}
use Rattle.q4_record.specs.Schema.{schema_bytes, MayHave, DifferFirst, SchemaFails}
use Rattle.q4_record.specs.Side.{base_at, IsOpen, IsBase, batches_bytes, BatchesStand, after_batches}
use Rattle.q4_record.specs.Faults.{HeaderFails, BaseFails, BatchFails}

-- How a column here, if there is one, stands to the one told: it is the same, or it is optional and the same otherwise, or
-- it neither is the same nor is wider.
abbrev pub HasLikeness : Likeness → Option Column → Column → Type 0
HasLikeness likeness.Same here told = here ≡ Some told
HasLikeness likeness.Wider here told = (column : Column) × (here ≡ Some column) × IsTrue column.optional × (told ≡ record column { optional = false })
HasLikeness likeness.Other here told = (column : Column) → here ≡ Some column → IsWider column told → ⊥

-- the columns given are kept where they are wider than the side's own
abbrev pub GivenWider : List Column → List Column → Option (List Column) → Type 0
GivenWider columns own None = own ≡ columns
GivenWider columns own (Some wider) = (wider ≡ columns) × (own ≢ columns)

-- Each column told so far is that given or is narrower. The side's own columns are those told, and behind them those given.
pub record WiderSoFar (columns told own : List Column) (wider : Option (List Column)) : Type 0 where
  pub front : List Column
  pub behind : List Column
  pub columns_are : columns ≡ front ++ behind
  pub own_is : own ≡ told ++ behind
  pub agree : AreWider front told
  pub given : GivenWider columns own wider

-- The column given of this number neither is that told nor is wider, or there is none.
pub record Differed (columns told : List Column) (number : ℕ) : Type 0 where
  pub front : List Column
  pub told_front : List Column
  pub rest : List Column
  pub column : Column
  pub told_rest : List Column
  pub columns_are : columns ≡ front ++ rest
  pub told_are : told ≡ told_front ++ column ∷ told_rest
  pub agree : AreWider front told_front
  pub differ : DifferFirst rest (column ∷ told_rest)
  pub number_is : number ≡ length front + 1

abbrev pub DiffersSoFar : List Column → List Column → List Column → Option (List Column) → Option ℕ → Type 0
DiffersSoFar columns told own wider None = WiderSoFar columns told own wider
DiffersSoFar columns told own wider (Some number) = Differed columns told number

-- what is known behind these columns that were told
abbrev pub ToldSoFar : List Column → List Column → ToldColumns → Type 0
ToldSoFar columns told now = DiffersSoFar columns told now.own now.wider now.differs

-- The base begins with the schema of the side's own columns, which the format has. Those given are the same, or are wider.
pub record SchemaRead (format : Format) (columns : List Column) (base : List ℕ) (own : List Column) (wider : Option (List Column)) (records : List ℕ) : Type 0 where
  pub may : All (MayHave format) own
  pub base_is : base ≡ schema_bytes own ++ records
  pub agree : AreWider columns own
  pub given : GivenWider columns own wider

abbrev pub SchemaFailed : Format → List Column → List ℕ → ℕ → SideFault → Type 0
SchemaFailed format columns base at fault.Memory = Unit {0}
SchemaFailed format columns base at why = SchemaFails format columns base at why

abbrev pub HeaderFailed : List ℕ → SideFault → Type 0
HeaderFailed bytes fault.Closed = IsOpen bytes → ⊥
HeaderFailed bytes why = IsOpen bytes × HeaderFails bytes why

-- The base leads to the table, of the side's own columns. Those given are the same, or are wider.
pub record BaseRead (format : Format) (columns : List Column) (base : List ℕ) (table : TableState) (wider : Option (List Column)) : Type 0 where
  pub own : List Column
  pub agree : AreWider columns own
  pub given : GivenWider columns own wider
  pub is : IsBase format own base table

-- The schema does not stand, or what is behind it.
abbrev pub BaseFailed : Format → List Column → List ℕ → SideFault → Type 0
BaseFailed format columns base fault.Memory = Unit {0}
BaseFailed format columns base why =
    SchemaFails format columns base base_at why
    ⊎ ((own : List Column) × AreWider columns own × BaseFails format own base why)

-- These batches stand behind a base that leads to this table, and lead to this replay.
pub record LeadsTo (table : TableState) (batches : List (List Record)) (replay : ReplayState) : Type 0 where
  pub stand : BatchesStand (at_batches table) batches
  pub replay_is : replay ≡ after_batches (at_batches table) batches

-- Batches stand up to the closing gate, and lead to the new table. They begin at this place, and the length is that up
-- to and with the closing gate.
pub record BatchesRead (table : TableState) (bytes : List ℕ) (at : ℕ) (new : TableState) (len : ℕ) : Type 0 where
  pub batches : List (List Record)
  pub replay : ReplayState
  pub closing : ℕ
  pub ignored : List ℕ
  pub bytes_are : bytes ≡ batches_bytes batches ++ closing ∷ ignored
  pub leads : LeadsTo table batches replay
  pub closed : closing ≢ 1
  pub new_is : new ≡ replay.table
  pub len_is : len ≡ at + length (batches_bytes batches) + 1

-- Some batches stand, and the next one does not.
pub record NextFails (table : TableState) (bytes : List ℕ) (at : ℕ) (why : SideFault) : Type 0 where
  pub batches : List (List Record)
  pub replay : ReplayState
  pub more : List ℕ
  pub bytes_are : bytes ≡ batches_bytes batches ++ 1 ∷ more
  pub leads : LeadsTo table batches replay
  pub fails : BatchFails replay more (at + length (batches_bytes batches)) why

abbrev pub BatchesFailed : TableState → List ℕ → ℕ → SideFault → Type 0
BatchesFailed table bytes at fault.Memory = Unit {0}
BatchesFailed table bytes at why = NextFails table bytes at why
