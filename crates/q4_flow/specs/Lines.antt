-- Lines of the bytes that a source gives.
use Rattle.std.specs.Prelude.{◌≡◌, ◌≢◌, ◌≤◌, ◌<◌, ◌+◌, ◌*◌, ◌++◌, ◌∷◌, [], ℕ, List, Option, Some, None, All, length, take, drop}
use Rattle.q4_flow.specs.declared.lines.LineEnd.{LineEnd}
use Rattle.q4_flow.specs.declared.lines.LineEnd.TheVariants.{Line, End, Partial, TooLong, ReadFault, Memory}
use Rattle.q4_flow.specs.Flow.{Gave}
use Rattle.q4_flow.specs.Reading.{Reading}

-- No byte of it is a newline.
abbrev pub IsOneLine : List ℕ → Type 0
IsOneLine bytes = All (λ byte. byte ≢ 10) bytes

-- A line has fewer bytes, its newline not counted.
abbrev pub line_limit : ℕ
line_limit = 4194304

-- The bytes so far are the beginning of a line that may still end.
abbrev pub IsOpenLine : List ℕ → Type 0
IsOpenLine bytes = IsOneLine bytes × (length bytes < line_limit)

-- What one call answers over the bytes that were pending or taken by it, where the source has ended or not.
abbrev pub Cuts : List ℕ → Type 0 → Reading → LineEnd → Type 0
Cuts bytes ended new Line = (bytes ≡ new.line ++ 10 ∷ new.pending) × IsOpenLine new.line
Cuts bytes ended new End = ended × (bytes ≡ [])
Cuts bytes ended new (Partial count) = ended × IsOpenLine bytes × (length bytes ≡ count) × (0 < count)
Cuts bytes ended new TooLong = IsOneLine (take line_limit bytes) × (line_limit ≤ length bytes)
Cuts bytes ended new ReadFault = IsOpenLine bytes
Cuts bytes ended new Memory = IsOpenLine bytes

-- The source gave some bytes, and P holds of them.
abbrev pub Takes : Option (List ℕ) → Option (List ℕ) → (List ℕ → Type 0) → Type 0
Takes left left' P = (taken : List ℕ) × Gave left left' taken × P taken

abbrev pub NextFrom : Option LineEnd → Reading → Reading → Option (List ℕ) → Option (List ℕ) → Type 0 → LineEnd → Type 0
NextFrom (Some before) old new left left' ended end = (end ≡ before) × (new ≡ old) × (left' ≡ left)
NextFrom None old new left left' ended end = Takes left left' (λ taken. Cuts (old.pending ++ taken) ended new end)

-- One call of `next`: while nothing stopped it, it cuts the bytes that were pending and those that it takes.
-- Later it repeats its answer and takes nothing.
abbrev pub Next : Reading → Reading → Option (List ℕ) → Option (List ℕ) → Type 0 → LineEnd → Type 0
Next old new left left' ended end = NextFrom old.stopped old new left left' ended end

-- the bytes of one read at most
abbrev pub chunk_size : ℕ
chunk_size = 65536

-- What bounds the lines that may come: each read that gives bytes costs one, and gives at most a chunk.
abbrev pub fuel : ℕ → List ℕ → ℕ
fuel reads pending = reads * (chunk_size + 1) + length pending

-- Where the first newline of the bytes is, if there is one.
abbrev pub NewlineAt : List ℕ → Option ℕ → Type 0
NewlineAt bytes (Some at) = (bytes ≡ take at bytes ++ 10 ∷ drop (at + 1) bytes) × IsOneLine (take at bytes) × (at < length bytes)
NewlineAt bytes None = IsOneLine bytes

-- The bytes before the first newline, or all of them, were put behind the line that began before them.
abbrev pub Appended : List ℕ → List ℕ → List ℕ → Option ℕ → Type 0
Appended old new bytes (Some at) = (new ≡ old ++ take at bytes) × NewlineAt bytes (Some at)
Appended old new bytes None = (new ≡ old ++ bytes) × NewlineAt bytes None
