-- A record of calls, and what it stands for. The newest call comes first.
use Rattle.std.specs.Prelude.{◌≡◌, ℕ, ◌≤◌, ◌⊎◌, min, if◌then◌else◌, List, [], ◌∷◌, length, take}
use Rattle.q4_disk.specs.declared.disk.Side.{Side}
use Rattle.q4_disk.specs.declared.history.Step.{Step}
use Rattle.q4_disk.specs.declared.history.Step.TheVariants.{Write, CutTo, Sync}
use Rattle.q4_disk.specs.Told.{Sides}
use Rattle.q4_disk.specs.Images.{on, put, both, written, Torn, Cut, Sided}

abbrev pub side_of : Step → Side
side_of (Write side at bytes done) = side
side_of (CutTo side to done) = side
side_of (Sync side) = side

-- the offset of a write, which never lies past the end of what is read
abbrev pub place : List ℕ → ℕ → ℕ
place seen at = min at (length seen)

-- what is read of its side after a call, by what was read before: a call that wasn't done changes nothing
abbrev pub reads : Step → List ℕ → List ℕ
reads (Write side at bytes done) seen = if done then written seen (place seen at) bytes else seen
reads (CutTo side to done) seen = if done then take to seen else seen
reads (Sync side) seen = seen

-- what a crash may leave of its side after a call, done or not, by what was read and what it might have left before
abbrev pub Leaves : Step → List ℕ → List ℕ → List ℕ → Type 0
Leaves (Write side at bytes done) seen old new = Torn (place seen at) (length bytes) old new
Leaves (CutTo side to done) seen old new = Cut to old new
Leaves (Sync side) seen old new = new ≡ seen

-- both sides as they are read after a call
abbrev pub after : Step → Sides → Sides
after step seen = put (side_of step) (reads step (on (side_of step) seen)) seen

abbrev pub no_bytes : Sides
no_bytes = both [] []

-- what is read after these calls
abbrev pub read_after : List Step → Sides
read_after [] = no_bytes
read_after (step ∷ earlier) = after step (read_after earlier)

-- what a crash after these calls may leave
abbrev pub IsImage : List Step → Sides → Type 0
IsImage [] c = c ≡ no_bytes
IsImage (step ∷ earlier) c = (d : Sides) × IsImage earlier d × Sided (side_of step) (Leaves step (on (side_of step) (read_after earlier))) d c

-- what a crash after the first t calls or later might have left
abbrev pub Since : List Step → ℕ → Sides → Type 0
Since [] t c = IsImage [] c
Since (step ∷ earlier) t c = IsImage (step ∷ earlier) c ⊎ ((t ≤ length earlier) × Since earlier t c)
