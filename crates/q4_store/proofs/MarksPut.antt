-- Marks that are put one after the other, by rising source.
use Rattle.std.proofs.Common.{◌≡◌, ℕ, ◌+◌, ◌<◌, ◌≤◌, Bool, true, false, cond, eqb, ltb, List, [], ◌∷◌, ◌++◌, None, Some, Option, map, refl, sym, ap, ◌∙◌, append_assoc, append-nil, inl, inr, arith}
use Rattle.std.specs.List.{All, filter, find}
use Rattle.std.specs.Option.{option_map}
use Rattle.std.specs.Prelude.{unwrap_or}
use Rattle.std.proofs.lemmas.Bool.{cases_order, lt-ltb, le-ltb, cond-true, cond-false, ne_eqb, eq-eqb}
use Rattle.std.proofs.lemmas.List.{map-append}
use Rattle.std.proofs.lemmas.List.Concat.{flat_map-append}
use Rattle.std.proofs.lemmas.List.Elements.{All-head, All-tail, All-weaker}
use Rattle.q4_table.specs.declared.marks.Mark.{Mark}
use Rattle.q4_table.specs.Marks.{mark_of}
use Rattle.q4_table.specs.Valid.{IsMark, SourcesRise}
use Rattle.q4_record.specs.declared.head.Head.TheVariants as head
use Rattle.q4_record.specs.Record.{record_bytes, records_bytes}
use Rattle.q4_record.specs.Written.{mark_record}
use Rattle.q4_record.proofs.WrittenBases.{kept, dropped}

-- the marks of sources below one
abbrev pub marks_below : ℕ → List Mark → List Mark
marks_below i ms = filter (λ m. ltb m.source i) ms

-- the mark of a source, where it has one
abbrev pub mark_here : ℕ → ℕ → List Mark
mark_here i n = cond (ltb 0 n) (record { source = i; number = n } ∷ []) []

none_marked : (i : ℕ) (ms : List Mark) → All (λ m. i < m.source) ms → find (λ m. eqb m.source i) ms ≡ None
none_marked i [] all = refl
none_marked i (m ∷ ms) all =
    let here = All-head (λ (m : Mark). i < m.source) m ms all in
    ap (λ (b : Bool). cond b (Some m) (find (λ m. eqb m.source i) ms)) (ne_eqb m.source i (λ same. omega (arith, same, here))) ∙ none_marked i ms (All-tail (λ (m : Mark). i < m.source) m ms all)

none_below : (i : ℕ) (ms : List Mark) → All (λ m. i ≤ m.source) ms → marks_below i ms ≡ []
none_below i ms all = dropped (λ m. ltb m.source i) ms (All-weaker (λ (m : Mark). i ≤ m.source) (λ (m : Mark). ltb m.source i ≡ false) (λ m le. le-ltb m.source i le) ms all)

number_of : Option Mark → ℕ
number_of o = unwrap_or (option_map (λ (m : Mark). m.number) o) 0

pub marks_more : (i : ℕ) (ms : List Mark) → SourcesRise ms → All IsMark ms → marks_below (i + 1) ms ≡ marks_below i ms ++ mark_here i (mark_of ms i)
marks_more i [] rise are = refl
marks_more i (m ∷ ms) rise are = elim (cases_order m.source i) [
  | inl same ↦
      let later = All-weaker (λ (n : Mark). m.source < n.source) (λ (n : Mark). i + 1 ≤ n.source) (λ n lt. omega (arith, same, lt)) ms rise.0 in
      let from = All-weaker (λ (n : Mark). m.source < n.source) (λ (n : Mark). i ≤ n.source) (λ n lt. omega (arith, same, lt)) ms rise.0 in
      let positive = (All-head IsMark m ms are).positive in
      let marked = ap (λ (b : Bool). unwrap_or (option_map (λ (q : Mark). q.number) (cond b (Some m) (find (λ q. eqb q.source i) ms))) 0) (eq-eqb m.source i same) in
      cond-true (ltb m.source (i + 1)) (m ∷ marks_below (i + 1) ms) (marks_below (i + 1) ms) (lt-ltb m.source (i + 1) (omega (arith, same)))
      ∙ ap (λ qs. m ∷ qs) (none_below (i + 1) ms later)
      ∙ (λ k. record { source = same k; number = m.number } ∷ [])
      ∙ sym (cond-true (ltb 0 m.number) (record { source = i; number = m.number } ∷ []) [] (lt-ltb 0 m.number (omega (arith, positive))))
      ∙ sym (ap (mark_here i) marked)
      ∙ ap (λ qs. qs ++ mark_here i (mark_of (m ∷ ms) i)) (sym (cond-false (ltb m.source i) (m ∷ marks_below i ms) (marks_below i ms) (le-ltb m.source i (omega (arith, same))) ∙ none_below i ms from))
  | inr (inl lt) ↦
      let others = ap (λ (b : Bool). unwrap_or (option_map (λ (q : Mark). q.number) (cond b (Some m) (find (λ q. eqb q.source i) ms))) 0) (ne_eqb m.source i (λ same. omega (arith, same, lt))) in
      cond-true (ltb m.source (i + 1)) (m ∷ marks_below (i + 1) ms) (marks_below (i + 1) ms) (lt-ltb m.source (i + 1) (omega (arith, lt)))
      ∙ ap (λ qs. m ∷ qs) (marks_more i ms rise.1 (All-tail IsMark m ms are))
      ∙ ap (λ qs. qs ++ mark_here i (mark_of ms i)) (sym (cond-true (ltb m.source i) (m ∷ marks_below i ms) (marks_below i ms) (lt-ltb m.source i lt)))
      ∙ ap (λ n. marks_below i (m ∷ ms) ++ mark_here i n) (sym others)
  | inr (inr gt) ↦
      let from = All-weaker (λ (n : Mark). m.source < n.source) (λ (n : Mark). i ≤ n.source) (λ n lt. omega (arith, gt, lt)) ms rise.0 in
      let later = All-weaker (λ (n : Mark). m.source < n.source) (λ (n : Mark). i + 1 ≤ n.source) (λ n lt. omega (arith, gt, lt)) ms rise.0 in
      let above = All-weaker (λ (n : Mark). m.source < n.source) (λ (n : Mark). i < n.source) (λ n lt. omega (arith, gt, lt)) ms rise.0 in
      let none = ap (λ (b : Bool). unwrap_or (option_map (λ (q : Mark). q.number) (cond b (Some m) (find (λ q. eqb q.source i) ms))) 0) (ne_eqb m.source i (λ same. omega (arith, same, gt)))
      ∙ ap (λ (o : Option Mark). unwrap_or (option_map (λ (q : Mark). q.number) o) 0) (none_marked i ms above) in
      cond-false (ltb m.source (i + 1)) (m ∷ marks_below (i + 1) ms) (marks_below (i + 1) ms) (le-ltb m.source (i + 1) (omega (arith, gt)))
      ∙ none_below (i + 1) ms later
      ∙ sym (cond-false (ltb m.source i) (m ∷ marks_below i ms) (marks_below i ms) (le-ltb m.source i (omega (arith, gt))) ∙ none_below i ms from)
      ∙ sym (append-nil (marks_below i (m ∷ ms)))
      ∙ ap (λ n. marks_below i (m ∷ ms) ++ mark_here i n) (sym none)
]

pub all_marks : (ms : List Mark) → All IsMark ms → marks_below 64 ms ≡ ms
all_marks ms are = kept (λ m. ltb m.source 64) ms (All-weaker IsMark (λ (m : Mark). ltb m.source 64 ≡ true) (λ m is. lt-ltb m.source 64 is.source) ms are)

-- what is put so far
abbrev pub PutSoFar : List Mark → ℕ → List ℕ → List ℕ → Type 0
PutSoFar ms i before out = out ≡ before ++ records_bytes (map mark_record (marks_below i ms))

pub none_put : (ms : List Mark) (before : List ℕ) → PutSoFar ms 0 before before
none_put ms before = sym (ap (λ qs. before ++ records_bytes (map mark_record qs)) (none_below 0 ms (λ k d lt. omega arith)) ∙ append-nil before)

more_put : (before : List ℕ) (front here : List Mark) → before ++ records_bytes (map mark_record (front ++ here)) ≡ (before ++ records_bytes (map mark_record front)) ++ records_bytes (map mark_record here)
more_put before front here =
    ap (λ rs. before ++ records_bytes rs) (map-append mark_record front here) ∙ ap (λ (l : List ℕ). before ++ l) (flat_map-append record_bytes (map mark_record front) (map mark_record here))
    ∙ sym (append_assoc before (records_bytes (map mark_record front)) (records_bytes (map mark_record here)))

-- a source with a mark, and one without
pub one_put : (ms : List Mark) (i number : ℕ) (before out after : List ℕ) → SourcesRise ms → All IsMark ms → number ≡ mark_of ms i → 0 < number → PutSoFar ms i before out → after ≡ out ++ record_bytes (record { head = head.Mark i number; columns = []; row = [] }) → PutSoFar ms (i + 1) before after
one_put ms i number before out after rise are is some so put =
    let here : mark_here i (mark_of ms i) ≡ record { source = i; number = number } ∷ [] = ap (mark_here i) (sym is) ∙ cond-true (ltb 0 number) (record { source = i; number = number } ∷ []) [] (lt-ltb 0 number some) in
    put ∙ ap (λ (l : List ℕ). l ++ record_bytes (record { head = head.Mark i number; columns = []; row = [] })) so
    ∙ ap (λ (l : List ℕ). (before ++ records_bytes (map mark_record (marks_below i ms))) ++ l) (sym (append-nil (record_bytes (record { head = head.Mark i number; columns = []; row = [] }))))
    ∙ sym (more_put before (marks_below i ms) (record { source = i; number = number } ∷ []))
    ∙ ap (λ qs. before ++ records_bytes (map mark_record qs)) (sym (marks_more i ms rise are ∙ ap (λ qs. marks_below i ms ++ qs) here))

pub nothing_put : (ms : List Mark) (i number : ℕ) (before out : List ℕ) → SourcesRise ms → All IsMark ms → number ≡ mark_of ms i → number ≤ 0 → PutSoFar ms i before out → PutSoFar ms (i + 1) before out
nothing_put ms i number before out rise are is none so =
    let here : mark_here i (mark_of ms i) ≡ [] = ap (mark_here i) (sym is) ∙ cond-false (ltb 0 number) (record { source = i; number = number } ∷ []) [] (le-ltb 0 number none) in
    so ∙ ap (λ qs. before ++ records_bytes (map mark_record qs)) (sym (marks_more i ms rise are ∙ ap (λ qs. marks_below i ms ++ qs) here ∙ append-nil (marks_below i ms)))

pub marks_put : (ms : List Mark) (before out : List ℕ) → All IsMark ms → PutSoFar ms 64 before out → out ≡ before ++ records_bytes (map mark_record ms)
marks_put ms before out are so = so ∙ ap (λ qs. before ++ records_bytes (map mark_record qs)) (all_marks ms are)
