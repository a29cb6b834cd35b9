-- All bytes of a source.
use Rattle.std.specs.Prelude.{◌≡◌, ◌<◌, ◌≤◌, ℕ, List, Option, Result, Ok, Err, length}
use Rattle.q4_flow.specs.declared.all.AllFault.{AllFault}
use Rattle.q4_flow.specs.declared.all.AllFault.TheVariants as fault
use Rattle.q4_flow.specs.Flow.{NothingLeft}

-- What is answered where these bytes came, of which there may be so many: they, once the source told its end, or a fault.
-- It is too long exactly where more came.
abbrev pub ReadsAll : ℕ → Type 0 → Option (List ℕ) → List ℕ → Result (List ℕ) AllFault → Type 0
ReadsAll most ended left taken (Ok bytes) = (bytes ≡ taken) × (length taken ≤ most) × ended × NothingLeft left
ReadsAll most ended left taken (Err fault.TooLong) = most < length taken
ReadsAll most ended left taken (Err fault.ReadFault) = length taken ≤ most
ReadsAll most ended left taken (Err fault.Memory) = length taken ≤ most
