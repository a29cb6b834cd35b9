-- One crash image of a record of calls.
use Rattle.std.specs.Prelude.{ℕ, ◌+◌, ◌-◌, ◌/◌, ◌==◌, if◌then◌else◌, List, [], ◌∷◌, ◌++◌, length, take, drop, replicate}
use Rattle.q4_disk.specs.declared.history.Step.{Step}
use Rattle.q4_disk.specs.declared.history.Step.TheVariants.{Write, CutTo, Sync}
use Rattle.q4_disk.specs.declared.pick.Pick.{Pick}
use Rattle.q4_disk.specs.declared.pick.Pick.TheVariants.{Kept, Lost, Half, Ones}
use Rattle.q4_disk.specs.Told.{Sides}
use Rattle.q4_disk.specs.Images.{on, put}
use Rattle.q4_disk.specs.Replay.{side_of, place, no_bytes, read_after}

-- these bytes at an offset, behind zeros where the old end lies before it
abbrev pub over : List ℕ → ℕ → List ℕ → List ℕ
over old at bytes = (take at old ++ (replicate (at - length old) 0 ++ bytes)) ++ drop (at + length bytes) old

-- the first half of a range, rounded down
abbrev pub half : List ℕ → List ℕ
half bytes = take (length bytes / 2) bytes

-- a write that wasn't synced: kept, lost, kept in its first half, or filled with byte 1
abbrev pub of_write : Pick → List ℕ → ℕ → List ℕ → List ℕ
of_write Kept old at bytes = over old at bytes
of_write Lost old at bytes = old
of_write Half old at bytes = if length (half bytes) == 0 then old else over old at (half bytes)
of_write Ones old at bytes = over old at (replicate (length bytes) 1)

-- the bytes past a cut that wasn't synced: gone, there as before, gone, or all byte 1
abbrev pub of_cut : Pick → List ℕ → ℕ → List ℕ
of_cut Kept old to = take to old
of_cut Lost old to = old
of_cut Half old to = take to old
of_cut Ones old to = take to old ++ replicate (length old - to) 1

-- what a pick makes of its side at a call, by what was read and what it had picked before
abbrev pub picks : Pick → Step → List ℕ → List ℕ → List ℕ
picks pick (Write side at bytes done) seen old = of_write pick old (place seen at) bytes
picks pick (CutTo side to done) seen old = of_cut pick old to
picks pick (Sync side) seen old = seen

-- and of both sides
abbrev pub pick_after : Pick → Step → Sides → Sides → Sides
pick_after pick step seen old = put (side_of step) (picks pick step (on (side_of step) seen) (on (side_of step) old)) old

-- the image of these calls, the newest first
abbrev pub picked : Pick → List Step → Sides
picked pick [] = no_bytes
picked pick (step ∷ earlier) = pick_after pick step (read_after earlier) (picked pick earlier)
