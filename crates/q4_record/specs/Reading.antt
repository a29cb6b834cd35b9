-- Where a base or a batch has no record that stands, and why.
use Rattle.std.specs.Prelude.{◌≡◌, ◌≢◌, ◌+◌, ◌⊎◌, ℕ, List, [], ◌++◌, Some, length}
use Rattle.q4_record.specs.declared.head.Head.{Head}
use Rattle.q4_record.specs.declared.side.SideFault.{SideFault}
use Rattle.q4_record.specs.declared.side.SideFault.TheVariants as fault
use Rattle.q4_record.specs.Wide.{CutLong}
use Rattle.q4_record.specs.Record.{Record, head_bytes, record_bytes, records_bytes, IsHead, row_columns, IsRecord}
use Rattle.q4_record.specs.Replay.{ReplayState, MayCome, replayed, replays, passed_limit, AllStand}

-- A record that may come next is spelled at the front.
pub record Comes (replay : ReplayState) (bytes : List ℕ) (r : Record) (rest : List ℕ) : Type 0 where
  pub bytes_are : bytes ≡ record_bytes r ++ rest
  pub is : IsRecord replay.table.columns r
  pub may : MayCome replay.stage replay.table r.head

-- An insert that may come next begins at the front. It ends too early, and one of its texts is told to be too long.
pub record BreaksOff (replay : ReplayState) (bytes : List ℕ) : Type 0 where
  pub head : Head
  pub row : List ℕ
  pub bytes_are : bytes ≡ head_bytes head ++ row
  pub is : IsHead head
  pub may : MayCome replay.stage replay.table head
  pub cut : CutLong (row_columns replay.table.columns head) row

-- A record that may come next is at the front, and this is the least limit that it passes.
pub record Passes (replay : ReplayState) (bytes : List ℕ) (limit : ℕ) : Type 0 where
  pub r : Record
  pub rest : List ℕ
  pub comes : Comes replay bytes r rest
  pub passed : passed_limit (replayed replay r).table r.row ≡ Some limit

-- Why no record stands at the front of bytes, which begin at a place. Damage goes before each limit, but a text that is
-- too long goes before an early end.
abbrev pub RecordFails : ReplayState → List ℕ → ℕ → SideFault → Type 0
RecordFails replay bytes at fault.Closed = ⊥
RecordFails replay bytes at (fault.Damaged place) =
    (place ≡ at) × ((r : Record) (rest : List ℕ) → Comes replay bytes r rest → ⊥) × (BreaksOff replay bytes → ⊥)
RecordFails replay bytes at (fault.Schema column) = ⊥
RecordFails replay bytes at (fault.Large limit) = Passes replay bytes limit ⊎ ((limit ≡ 4) × BreaksOff replay bytes)
RecordFails replay bytes at fault.Memory = ⊥

-- The records in front stand, and behind them, where there is more, none does.
pub record SectionFails (replay : ReplayState) (bytes : List ℕ) (at : ℕ) (why : SideFault) : Type 0 where
  pub front : List Record
  pub rest : List ℕ
  pub bytes_are : bytes ≡ records_bytes front ++ rest
  pub stand : AllStand replay front
  pub more : rest ≢ []
  pub fails : RecordFails (replays replay front) rest (at + length (records_bytes front)) why
