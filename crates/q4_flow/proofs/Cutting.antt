-- A range of a list, cut at a place.
use Rattle.std.proofs.Common.{◌≡◌, ◌≢◌, ◌≤◌, ◌<◌, ◌+◌, ◌-◌, ◌++◌, ◌∷◌, ◌∙◌, [], List, ℕ, Option, Some, None, length, take, drop, min, sym, ap, subst, arith, take-take, drop-drop, drop_of_length-le, append-nil, append_assoc, length-append, take_all, slice_range}
use Rattle.std.proofs.lemmas.List.{drop-take, length-take, length-drop, take-append-le, take-append-drop}
use Rattle.std.proofs.lemmas.List.Elements.{All-append, All-take}
use Rattle.q4_flow.specs.Lines.{NewlineAt, Appended, Cuts, Takes, Next, NextFrom, IsOneLine, IsOpenLine, line_limit}
use Rattle.q4_flow.specs.Reading.{Reading}
use Rattle.q4_flow.specs.declared.lines.LineEnd.{LineEnd}
use Rattle.q4_flow.specs.declared.lines.LineEnd.TheVariants.{Line, End, Partial, TooLong, ReadFault, Memory}

pub take_of_range : (xs : List ℕ) (from until at : ℕ) → at ≤ until - from → take at (slice_range xs from until) ≡ slice_range xs from (from + at)
take_of_range xs from until at inside =
    let here : at ≡ (from + at) - from = omega arith in
    take-take at (until - from) (drop from xs) inside ∙ ap (λ n. take n (drop from xs)) here

pub drop_of_range : (xs : List ℕ) (from until at : ℕ) → at ≤ until - from → drop at (slice_range xs from until) ≡ slice_range xs (from + at) until
drop_of_range xs from until at inside =
    let parts : until - from ≡ at + (until - (from + at)) = omega arith in
    ap (λ n. drop at (take n (drop from xs))) parts ∙ drop-take at (until - (from + at)) (drop from xs) ∙ ap (take (until - (from + at))) (drop-drop at from xs)

-- A line that lies in the chunk, and the bytes behind its newline.
pub cut_range : (chunk : List ℕ) (from until at : ℕ) → until ≤ 65536 → at < until - from → NewlineAt (slice_range chunk from until) (Some at)
    → (slice_range chunk from until ≡ slice_range chunk from (from + at) ++ 10 ∷ slice_range chunk (from + (at + 1)) until) × IsOpenLine (slice_range chunk from (from + at))
cut_range chunk from until at within inside found =
    let line : take at (slice_range chunk from until) ≡ slice_range chunk from (from + at) = take_of_range chunk from until at (omega arith) in
    let rest : drop (at + 1) (slice_range chunk from until) ≡ slice_range chunk (from + (at + 1)) until = drop_of_range chunk from until (at + 1) (omega arith) in
    let short : length (slice_range chunk from (from + at)) < line_limit =
    let size : length (slice_range chunk from (from + at)) ≡ min ((from + at) - from) (length (drop from chunk)) = length-take ((from + at) - from) (drop from chunk) in
    omega (arith, size, inside, within) in (
      found.0 ∙ ap (λ xs. xs ++ 10 ∷ drop (at + 1) (slice_range chunk from until)) line ∙ ap (λ xs. slice_range chunk from (from + at) ++ 10 ∷ xs) rest,
      (subst IsOneLine line found.1, short),
    )

-- A chunk that was read over as a whole.
pub whole_chunk : (len : ℕ) (into old : List ℕ) → length into ≡ length old → len ≡ length old → take len (into ++ drop (length into) old) ≡ into
whole_chunk len into old same size =
    let nothing : drop (length into) old ≡ [] = drop_of_length-le old {i = length into} (omega arith) in
    ap (λ xs. take len (into ++ xs)) nothing ∙ ap (take len) (append-nil into) ∙ take_all len into (omega arith)

pub range_from_zero : (xs : List ℕ) (count : ℕ) → slice_range xs 0 count ≡ take count xs
range_from_zero xs count =
    let same : count - 0 ≡ count = omega arith in
    ap (λ n. take n xs) same

pub no_range : (xs : List ℕ) (from until : ℕ) → from ≡ 0 → until ≡ 0 → slice_range xs from until ≡ []
no_range xs from until is_from is_until = ap (λ n. slice_range xs n until) is_from ∙ ap (λ n. slice_range xs 0 n) is_until

pub within_range : (xs : List ℕ) (from until at : ℕ) → at < length (slice_range xs from until) → at < until - from
within_range xs from until at inside =
    let size : length (slice_range xs from until) ≡ min (until - from) (length (drop from xs)) = length-take (until - from) (drop from xs) in
    omega (arith, size, inside)

-- The line that was carried over ends in the chunk.
pub gathered_line : (chunk bytes carried line : List ℕ) (from until at : ℕ) → bytes ≡ carried ++ slice_range chunk from until → IsOneLine carried → Appended carried line (slice_range chunk from until) (Some at)
    → (bytes ≡ line ++ 10 ∷ slice_range chunk (from + (at + 1)) until) × IsOneLine line
gathered_line chunk bytes carried line from until at so_far one_line appended =
    let inside : at < until - from = within_range chunk from until at appended.1.2 in
    let rest : drop (at + 1) (slice_range chunk from until) ≡ slice_range chunk (from + (at + 1)) until = drop_of_range chunk from until (at + 1) (omega arith) in
    let front = take at (slice_range chunk from until) in (
      so_far ∙ ap (λ xs. carried ++ xs) (appended.1.0 ∙ ap (λ xs. front ++ 10 ∷ xs) rest) ∙ sym (append_assoc carried front (10 ∷ slice_range chunk (from + (at + 1)) until)) ∙ ap (λ xs. xs ++ 10 ∷ slice_range chunk (from + (at + 1)) until) (sym appended.0),
      subst IsOneLine (sym appended.0) (All-append (λ byte. byte ≢ 10) carried front one_line appended.1.1),
    )

-- The line that was carried over goes on behind the chunk.
pub gathered_all : (chunk bytes carried line : List ℕ) (from until : ℕ) → bytes ≡ carried ++ slice_range chunk from until → IsOneLine carried → Appended carried line (slice_range chunk from until) None
    → (bytes ≡ line) × IsOneLine line
gathered_all chunk bytes carried line from until so_far one_line appended =
    (so_far ∙ sym appended.0, subst IsOneLine (sym appended.0) (All-append (λ byte. byte ≢ 10) carried (slice_range chunk from until) one_line appended.1))

-- So many bytes came without a newline.
pub too_long : (bytes line rest : List ℕ) → bytes ≡ line ++ rest → IsOneLine line → line_limit ≤ length line → IsOneLine (take line_limit bytes) × (line_limit ≤ length bytes)
too_long bytes line rest whole one_line long =
    let front : take line_limit bytes ≡ take line_limit line = ap (take line_limit) whole ∙ take-append-le line_limit line rest long in
    let sum : length bytes ≡ length line + length rest = ap length whole ∙ length-append line rest in
    (subst IsOneLine (sym front) (All-take (λ byte. byte ≢ 10) line_limit line one_line), omega (arith, sum, long))

-- The source gave more bytes behind those that were taken before.
pub more_bytes : (pending taken line into chunk : List ℕ) (count : ℕ) → pending ++ taken ≡ line → chunk ≡ into → pending ++ (taken ++ take count into) ≡ line ++ slice_range chunk 0 count
more_bytes pending taken line into chunk count so_far is =
    sym (append_assoc pending taken (take count into)) ∙ ap (λ xs. xs ++ take count into) so_far ∙ ap (λ xs. line ++ xs) (sym (range_from_zero into count)) ∙ ap (λ xs. line ++ slice_range xs 0 count) (sym is)

-- What was cut holds of a reader with the same line and the same pending bytes.
pub cuts_same : (bytes : List ℕ) (ended : Type 0) (one other : Reading) (end : LineEnd) → one.line ≡ other.line → one.pending ≡ other.pending → Cuts bytes ended one end → Cuts bytes ended other end
cuts_same bytes ended one other Line line pending cut =
    (cut.0 ∙ ap (λ xs. xs ++ 10 ∷ one.pending) line ∙ ap (λ xs. other.line ++ 10 ∷ xs) pending, subst IsOpenLine line cut.1)
cuts_same bytes ended one other End line pending cut = cut
cuts_same bytes ended one other (Partial count) line pending cut = cut
cuts_same bytes ended one other TooLong line pending cut = cut
cuts_same bytes ended one other ReadFault line pending cut = cut
cuts_same bytes ended one other Memory line pending cut = cut

-- A call that nothing had stopped, from the bytes that it took.
pub next_from : (old new : Reading) (left left' : Option (List ℕ)) (ended : Type 0) (end : LineEnd) → old.stopped ≡ None → Takes left left' (λ taken. Cuts (old.pending ++ taken) ended new end) → Next old new left left' ended end
next_from old new left left' ended end going takes = subst (λ o. NextFrom o old new left left' ended end) (sym going) takes

-- A slice to the end is what stands behind its begin.
pub slice_to_end : (xs ys : List ℕ) (at : ℕ) → ys ≡ xs → take (length ys - at) (drop at ys) ≡ drop at xs
slice_to_end xs ys at same =
    let size : length (drop at ys) ≡ length ys - at = length-drop at ys in
    take_all (length ys - at) (drop at ys) (omega arith) ∙ ap (drop at) same

-- The bytes of a read from memory, and what is left behind them.
pub front_and_rest : (bytes given : List ℕ) (at count : ℕ) → given ≡ take count (drop at bytes) → drop at bytes ≡ given ++ drop (at + count) bytes
front_and_rest bytes given at count is =
    sym (take-append-drop count (drop at bytes)) ∙ ap (λ xs. xs ++ drop count (drop at bytes)) (sym is) ∙ ap (λ xs. given ++ xs) (drop-drop count at bytes)
