-- The device calls of a piece and of a finish, and how they end.
use Rattle.std.specs.Prelude.{◌≡◌, ◌==◌, ◌+◌, ◌-◌, ◌≤◌, ℕ, Bool, true, false, List, map, length}
use Rattle.q4_table.specs.TableState.{TableState}
use Rattle.q4_record.specs.Side.{base_at}
use Rattle.q4_record.specs.Written.{row_record}
use Rattle.q4_disk.specs.Told.{Told}
use Rattle.q4_disk.specs.Images.{other}
use Rattle.q4_disk.specs.Calls.{bump}
use Rattle.q4_store.specs.declared.fault.CopyFault.{CopyFault}
use Rattle.q4_store.specs.declared.fault.CopyFault.TheVariants as fault
use Rattle.q4_store.specs.declared.copying.Progress.{Progress}
use Rattle.q4_store.specs.Looking.{header_bytes}
use Rattle.q4_store.specs.Copied.{taken, piece_bytes}
use Rattle.q4_store.specs.Store.{Stored, last_bytes}
use Rattle.q4_store.specs.Device.{DeviceCall, AllMade, BrokeOff, extend_calls, fill_calls}

-- The count of faults rises where the disk failed, and stays where memory was wanted.
abbrev pub CountsCopy : CopyFault → ℕ → ℕ → Type 0
CountsCopy fault.Abandoned before now = bump before ≤ now
CountsCopy fault.Unsure before now = bump before ≤ now
CountsCopy fault.Memory before now = now ≡ before

-- the store is failed behind a finish that is unsure, and goes on behind any other fault
abbrev pub is_unsure : CopyFault → Bool
is_unsure fault.Abandoned = false
is_unsure fault.Unsure = true
is_unsure fault.Memory = false

-- a piece: one write of the next rows, at most so many, or none where there is nothing to write
abbrev pub piece_calls : {D : Type 0} → Stored D → Progress → ℕ → TableState → List DeviceCall
piece_calls store progress most table =
    extend_calls (other store.side) progress.at (piece_bytes (progress.at == base_at) table.columns store.ends (map (row_record table.columns) (taken most progress.cursor table)))

-- what is left, the header with a generation greater by one, and a sync
abbrev pub last_calls : {D : Type 0} → Stored D → Progress → TableState → List DeviceCall
last_calls store progress table =
    let last = last_bytes store progress table in
    fill_calls (other store.side) progress.at last (header_bytes (store.generation + 1) (progress.at + length last - (base_at + 1)))

-- A piece that is abandoned broke off, and one for which memory was wanted called nothing.
abbrev pub PieceStops : {D : Type 0} → (D → Told) → List DeviceCall → CopyFault → D → D → Type 0
PieceStops told calls fault.Abandoned old new = BrokeOff told calls old new
PieceStops told calls fault.Unsure old new = ⊥
PieceStops told calls fault.Memory old new = new ≡ old

-- A finish that is abandoned broke off before it wrote the gate, and one that is unsure as it opened it.
abbrev pub FinishStops : {D : Type 0} → (D → Told) → List DeviceCall → List DeviceCall → CopyFault → D → D → Type 0
FinishStops told fill switch fault.Abandoned old new = BrokeOff told fill old new
FinishStops {D = D} told fill switch fault.Unsure old new = (mid : D) × AllMade told fill old mid × BrokeOff told switch mid new
FinishStops told fill switch fault.Memory old new = new ≡ old
