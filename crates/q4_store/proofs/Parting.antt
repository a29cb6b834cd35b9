-- The rows of a table, parted by a cursor.
use Rattle.std.proofs.Common.{◌≡◌, ℕ, zero, suc, ◌+◌, ◌<◌, ◌≤◌, Bool, true, false, cond, not, eqb, ltb, leb, List, [], ◌∷◌, ◌++◌, Some, take, refl, sym, ap, subst, ◌∙◌, inl, inr, arith}
use Rattle.std.specs.List.{All, filter}
use Rattle.std.proofs.lemmas.Bool.{cases_lt, lt-ltb, le-ltb, le-leb, lt-leb, ltb-true, ltb-false, leb-true, eqb-true, cond-true, cond-false, ne_eqb}
use Rattle.std.proofs.lemmas.List.Elements.{All-nil, All-cons, All-head, All-weaker, filter-append, filter_passes}
use Rattle.std.proofs.lemmas.List.{append-nil}
use Rattle.std.specs.Prelude.{IsSome}
use Rattle.q4_table.proofs.Rising.{rise-filter}
use Rattle.q4_table.specs.declared.rows.StoredRow.{StoredRow}
use Rattle.q4_table.specs.Rows.{numbers_of, without_row, row_in, IsThere}
use Rattle.q4_table.specs.Valid.{RiseBelow}
use Rattle.q4_record.proofs.WrittenBases.{kept, dropped}
use Rattle.q4_store.specs.Copied.{is_below, is_from, rows_below, rows_from, cursor_after}

-- numbers that rise from above low on
pub rise_from : (low next cursor : ℕ) (rows : List StoredRow) → RiseBelow low next (numbers_of rows) → cursor ≤ low + 1 → All (λ r. cursor ≤ r.number) rows
rise_from low next cursor [] rise le = All-nil (λ (r : StoredRow). cursor ≤ r.number)
rise_from low next cursor (r ∷ rs) rise le =
    All-cons (λ (q : StoredRow). cursor ≤ q.number) r rs (omega (arith, rise.0, le)) (rise_from r.number next cursor rs rise.2 (omega (arith, rise.0, le)))

pub all_from : (cursor : ℕ) (rows : List StoredRow) → All (λ r. cursor ≤ r.number) rows → rows_from cursor rows ≡ rows
all_from cursor rows all = kept (is_from cursor) rows (All-weaker (λ (r : StoredRow). cursor ≤ r.number) (λ (r : StoredRow). is_from cursor r ≡ true) (λ r le. le-leb cursor r.number le) rows all)

pub none_below : (cursor : ℕ) (rows : List StoredRow) → All (λ r. cursor ≤ r.number) rows → rows_below cursor rows ≡ []
none_below cursor rows all = dropped (is_below cursor) rows (All-weaker (λ (r : StoredRow). cursor ≤ r.number) (λ (r : StoredRow). is_below cursor r ≡ false) (λ r le. le-ltb r.number cursor le) rows all)

below_here : (cursor : ℕ) (r : StoredRow) (rs : List StoredRow) → r.number < cursor → rows_below cursor (r ∷ rs) ≡ r ∷ rows_below cursor rs
below_here cursor r rs lt = cond-true (ltb r.number cursor) (r ∷ rows_below cursor rs) (rows_below cursor rs) (lt-ltb r.number cursor lt)

pub from_later : (cursor : ℕ) (r : StoredRow) (rs : List StoredRow) → r.number < cursor → rows_from cursor (r ∷ rs) ≡ rows_from cursor rs
from_later cursor r rs lt = cond-false (leb cursor r.number) (r ∷ rows_from cursor rs) (rows_from cursor rs) (lt-leb cursor r.number lt)

-- they are all of them
pub parted : (low next cursor : ℕ) (rows : List StoredRow) → RiseBelow low next (numbers_of rows) → rows_below cursor rows ++ rows_from cursor rows ≡ rows
parted low next cursor [] rise = refl
parted low next cursor (r ∷ rs) rise = elim (cases_lt r.number cursor) [
  | inl lt ↦ (λ i. below_here cursor r rs lt i ++ from_later cursor r rs lt i) ∙ ap (λ qs. r ∷ qs) (parted r.number next cursor rs rise.2)
  | inr le ↦
      let all = All-cons (λ (q : StoredRow). cursor ≤ q.number) r rs le (rise_from r.number next cursor rs rise.2 (omega (arith, le))) in
      (λ i. none_below cursor (r ∷ rs) all i ++ all_from cursor (r ∷ rs) all i)
]

-- the cursor goes on
pub goes_on : (low next cursor n : ℕ) (rows : List StoredRow) → RiseBelow low next (numbers_of rows) → All (λ r. cursor ≤ r.number) rows → cursor ≤ cursor_after cursor (take n rows)
goes_on low next cursor zero rows rise all = omega arith
goes_on low next cursor (suc n) [] rise all = omega arith
goes_on low next cursor (suc n) (r ∷ rs) rise all =
    let on = goes_on r.number next (r.number + 1) n rs rise.2 (rise_from r.number next (r.number + 1) rs rise.2 (omega arith)) in
    let here = All-head (λ (q : StoredRow). cursor ≤ q.number) r rs all in
    omega (arith, on, here)

pub stays_within : (low next cursor n : ℕ) (rows : List StoredRow) → RiseBelow low next (numbers_of rows) → cursor ≤ next → cursor_after cursor (take n rows) ≤ next
stays_within low next cursor zero rows rise le = le
stays_within low next cursor (suc n) [] rise le = le
stays_within low next cursor (suc n) (r ∷ rs) rise le = stays_within r.number next (r.number + 1) n rs rise.2 (omega (arith, rise.1))

pub from_rises : (low next cursor : ℕ) (rows : List StoredRow) → RiseBelow low next (numbers_of rows) → RiseBelow low next (numbers_of (rows_from cursor rows))
from_rises low next cursor rows rise = rise-filter (λ (r : StoredRow). r.number) (is_from cursor) low next rows rise

pub are_from : (cursor : ℕ) (rows : List StoredRow) → All (λ r. cursor ≤ r.number) (rows_from cursor rows)
are_from cursor rows = All-weaker (λ (r : StoredRow). is_from cursor r ≡ true) (λ (r : StoredRow). cursor ≤ r.number) (λ r on. leb-true cursor r.number on) (rows_from cursor rows) (filter_passes (is_from cursor) rows)

-- behind so many rows from the start on
first_below : (low next cursor n : ℕ) (rows : List StoredRow) → RiseBelow low next (numbers_of rows) → All (λ r. cursor ≤ r.number) rows → rows_below (cursor_after cursor (take n rows)) rows ≡ take n rows
first_below low next cursor zero rows rise all = none_below cursor rows all
first_below low next cursor (suc n) [] rise all = refl
first_below low next cursor (suc n) (r ∷ rs) rise all =
    let later = rise_from r.number next (r.number + 1) rs rise.2 (omega arith) in
    let on = goes_on r.number next (r.number + 1) n rs rise.2 later in
    below_here (cursor_after (r.number + 1) (take n rs)) r rs (omega (arith, on)) ∙ ap (λ qs. r ∷ qs) (first_below r.number next (r.number + 1) n rs rise.2 later)

-- behind so many rows from the cursor on
pub below_after : (low next cursor n : ℕ) (rows : List StoredRow) → RiseBelow low next (numbers_of rows) → rows_below (cursor_after cursor (take n (rows_from cursor rows))) rows ≡ rows_below cursor rows ++ take n (rows_from cursor rows)
below_after low next cursor zero [] rise = refl
below_after low next cursor (suc n) [] rise = refl
below_after low next cursor n (r ∷ rs) rise = elim (cases_lt r.number cursor) [
  | inl lt ↦
      let rest = from_later cursor r rs lt in
      let on = goes_on r.number next cursor n (rows_from cursor rs) (from_rises r.number next cursor rs rise.2) (are_from cursor rs) in
      ap (λ qs. rows_below (cursor_after cursor (take n qs)) (r ∷ rs)) rest
      ∙ below_here (cursor_after cursor (take n (rows_from cursor rs))) r rs (omega (arith, on, lt))
      ∙ ap (λ qs. r ∷ qs) (below_after r.number next cursor n rs rise.2)
      ∙ sym (λ i. below_here cursor r rs lt i ++ take n (rest i))
  | inr le ↦
      let all = All-cons (λ (q : StoredRow). cursor ≤ q.number) r rs le (rise_from r.number next cursor rs rise.2 (omega (arith, le))) in
      let whole = all_from cursor (r ∷ rs) all in
      ap (λ qs. rows_below (cursor_after cursor (take n qs)) (r ∷ rs)) whole
      ∙ first_below low next cursor n (r ∷ rs) rise all
      ∙ sym (λ i. none_below cursor (r ∷ rs) all i ++ take n (whole i))
]

-- a row that is added is not below the cursor
pub below_added : (cursor : ℕ) (rows : List StoredRow) (r : StoredRow) → cursor ≤ r.number → rows_below cursor (rows ++ r ∷ []) ≡ rows_below cursor rows
below_added cursor rows r le =
    filter-append (is_below cursor) rows (r ∷ []) ∙ ap (λ qs. rows_below cursor rows ++ qs) (cond-false (ltb r.number cursor) (r ∷ []) [] (le-ltb r.number cursor le)) ∙ append-nil (rows_below cursor rows)

-- two filters, in either order
swapped : {X : Type 0} (p q : X → Bool) (x : X) (xs ys : List X) (a b : Bool) → p x ≡ a → q x ≡ b → filter p xs ≡ filter q ys → filter p (cond b (x ∷ xs) xs) ≡ filter q (cond a (x ∷ ys) ys)
swapped p q x xs ys true true pa qb same = (λ i. cond (pa i) (x ∷ same i) (same i)) ∙ ap (λ b. cond b (x ∷ filter q ys) (filter q ys)) (sym qb)
swapped p q x xs ys true false pa qb same = same ∙ ap (λ b. cond b (x ∷ filter q ys) (filter q ys)) (sym qb)
swapped p q x xs ys false true pa qb same = ap (λ b. cond b (x ∷ filter p xs) (filter p xs)) pa ∙ same
swapped p q x xs ys false false pa qb same = same

pub filters_swap : {X : Type 0} (p q : X → Bool) (xs : List X) → filter p (filter q xs) ≡ filter q (filter p xs)
filters_swap p q [] = refl
filters_swap p q (x ∷ xs) = swapped p q x (filter q xs) (filter p xs) (p x) (q x) refl refl (filters_swap p q xs)

-- a row that is removed, from the cursor on: those below stay
pub below_removed : (cursor number : ℕ) (rows : List StoredRow) → cursor ≤ number → rows_below cursor (without_row number rows) ≡ rows_below cursor rows
below_removed cursor number rows le =
    filters_swap (is_below cursor) (λ r. not (eqb r.number number)) rows
    ∙ kept (λ r. not (eqb r.number number)) (rows_below cursor rows)
    (All-weaker (λ (r : StoredRow). is_below cursor r ≡ true) (λ (r : StoredRow). not (eqb r.number number) ≡ true) (λ r lt. let below = ltb-true r.number cursor lt in ap not (ne_eqb r.number number (λ same. omega (arith, same, below, le)))) (rows_below cursor rows) (filter_passes (is_below cursor) rows))

-- and below it: it is there below it too
found_if : (number cursor : ℕ) (r : StoredRow) (rs : List StoredRow) (b d : Bool) → eqb r.number number ≡ b → ltb r.number cursor ≡ d → number < cursor → (IsSome (row_in rs number) → IsSome (row_in (rows_below cursor rs) number))
    → IsSome (cond b (Some r) (row_in rs number)) → IsSome (row_in (cond d (r ∷ rows_below cursor rs) (rows_below cursor rs)) number)
found_if number cursor r rs true true is below lt rest there = subst (λ (b : Bool). IsSome (cond b (Some r) (row_in (rows_below cursor rs) number))) (sym is) there
found_if number cursor r rs true false is below lt rest there = let same = eqb-true r.number number is in let not_below = ltb-false r.number cursor below in absurd (omega (arith, same, not_below, lt))
found_if number cursor r rs false true is below lt rest there = subst (λ (b : Bool). IsSome (cond b (Some r) (row_in (rows_below cursor rs) number))) (sym is) (rest there)
found_if number cursor r rs false false is below lt rest there = rest there

pub there_below : (number cursor : ℕ) (rows : List StoredRow) → number < cursor → IsThere rows number → IsThere (rows_below cursor rows) number
there_below number cursor [] lt there = there
there_below number cursor (r ∷ rs) lt there = found_if number cursor r rs (eqb r.number number) (ltb r.number cursor) refl refl lt (there_below number cursor rs lt) there
