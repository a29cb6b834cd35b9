-- Going over the rows of a table by rising numbers.
use Rattle.std.proofs.Common.{◌≡◌, ◌==◌, ◌<◌, ◌≤◌, ◌+◌, ◌++◌, ◌∷◌, ◌∙◌, [], List, ℕ, Bool, true, false, cond, not, Option, Some, None, Result, Ok, Err, IfOk, IsSome, map, filter, find, take, length, is_none, nat_le, refl, sym, ap, subst, arith, inl, inr, append-nil}
use Rattle.std.specs.Option.{option_map}
use Rattle.std.specs.Prelude.{option_and_then}
use Rattle.std.proofs.Math.Seq.{take-append_seam}
use Rattle.std.proofs.lemmas.Bool.{ne_eqb, eq-eqb, eqb-true, le-leb}
use Rattle.std.proofs.lemmas.Bool.Decides.{leb_tells}
use Rattle.std.proofs.lemmas.List.{length-append, length-map, map-append, take_all}
use Rattle.std.proofs.lemmas.List.Elements.{filter-append}
use Rattle.q4_value.specs.declared.row.Value.{Value}
use Rattle.q4_value.specs.declared.NoMemory.{NoMemory}
use Rattle.q4_table.specs.declared.rows.StoredRow.{StoredRow}
use Rattle.q4_table.specs.Rows.{row_in, values_in, owner_in, least_from}
use Rattle.q4_table.specs.Valid.{RiseBelow}
use Rattle.q4_table.proofs.Lookup.{some_of, found_key}
use Rattle.q4_table.proofs.Rising.{least_found}
use Rattle.q4_machine.specs.declared.shown.NumberedRow.{NumberedRow}
use Rattle.q4_machine.specs.declared.session.SessionMode.TheVariants.{Owner}
use Rattle.q4_machine.specs.declared.entry.Call.TheVariants.{Select}
use Rattle.q4_machine.specs.declared.entry.Reply.{Reply}
use Rattle.q4_machine.specs.declared.entry.Reply.TheVariants.{Shown}
use Rattle.q4_machine.specs.Machine.{MachineState, table_at, mode_of}
use Rattle.q4_machine.specs.Step.{numbered, visible, shown, step}

-- the row's number is at least the cursor, or below it
abbrev pub is_from : ℕ → StoredRow → Bool
is_from cursor r = nat_le cursor r.number

abbrev pub is_below : ℕ → StoredRow → Bool
is_below cursor r = not (nat_le cursor r.number)

abbrev pub below : ℕ → List StoredRow → List StoredRow
below cursor rows = filter (is_below cursor) rows

abbrev pub from : ℕ → List StoredRow → List StoredRow
from cursor rows = filter (is_from cursor) rows

abbrev pub Rise : ℕ → ℕ → List StoredRow → Type 0
Rise low next rows = RiseBelow low next (map (λ (r : StoredRow). r.number) rows)

abbrev pub unowned : StoredRow → Bool
unowned r = is_none r.owner

none_some : {X : Type 0} (x : X) → None ≡ Some x → ⊥
none_some x is = cc is

some_none : {X : Type 0} (x : X) → Some x ≡ None → ⊥
some_none x is = cc is

le_true : (a b : ℕ) → a ≤ b → nat_le a b ≡ true
le_true a b le = le-leb a b le

gt_false : (a b : ℕ) → b < a → nat_le a b ≡ false
gt_false a b lt = elim (leb_tells a b) [ inl up ↦ absurd (omega (arith, up.1, lt)) | inr down ↦ down.0 ]

-- where numbers rise from above, none is below
none_under : (low next cursor : ℕ) (rows : List StoredRow) → Rise low next rows → cursor ≤ low + 1 → below cursor rows ≡ []
none_under low next cursor [] rise small = refl
none_under low next cursor (x ∷ xs) rise small =
    let above : nat_le cursor x.number ≡ true = le_true cursor x.number (omega (arith, rise.0, small)) in
    ap (λ (b : Bool). cond (not b) (x ∷ below cursor xs) (below cursor xs)) above ∙ none_under x.number next cursor xs rise.2 (omega (arith, rise.0, small))

all_from : (low next cursor : ℕ) (rows : List StoredRow) → Rise low next rows → cursor ≤ low + 1 → from cursor rows ≡ rows
all_from low next cursor [] rise small = refl
all_from low next cursor (x ∷ xs) rise small =
    let above : nat_le cursor x.number ≡ true = le_true cursor x.number (omega (arith, rise.0, small)) in
    ap (λ (b : Bool). cond b (x ∷ from cursor xs) (from cursor xs)) above ∙ ap (λ ys. x ∷ ys) (all_from x.number next cursor xs rise.2 (omega (arith, rise.0, small)))

-- rows of rising numbers are those below a number and those from it on
pub parted : (low next cursor : ℕ) (rows : List StoredRow) → Rise low next rows → rows ≡ below cursor rows ++ from cursor rows
parted low next cursor [] rise = refl
parted low next cursor (x ∷ xs) rise = elim (leb_tells cursor x.number) [
  | inl up ↦
      let under : below cursor (x ∷ xs) ≡ [] = ap (λ (b : Bool). cond (not b) (x ∷ below cursor xs) (below cursor xs)) up.0 ∙ none_under x.number next cursor xs rise.2 (omega (arith, up.1)) in
      let above : from cursor (x ∷ xs) ≡ x ∷ xs = ap (λ (b : Bool). cond b (x ∷ from cursor xs) (from cursor xs)) up.0 ∙ ap (λ ys. x ∷ ys) (all_from x.number next cursor xs rise.2 (omega (arith, up.1))) in
      sym (ap (λ ys. ys ++ from cursor (x ∷ xs)) under ∙ above)
  | inr down ↦
      let under : below cursor (x ∷ xs) ≡ x ∷ below cursor xs = ap (λ (b : Bool). cond (not b) (x ∷ below cursor xs) (below cursor xs)) down.0 in
      let above : from cursor (x ∷ xs) ≡ from cursor xs = ap (λ (b : Bool). cond b (x ∷ from cursor xs) (from cursor xs)) down.0 in
      ap (λ ys. x ∷ ys) (parted x.number next cursor xs rise.2) ∙ sym (ap (λ ys. ys ++ from cursor (x ∷ xs)) under ∙ ap (λ ys. x ∷ (below cursor xs ++ ys)) above)
]

-- What the row is that comes next: its number is at least the cursor, it is found by that, and with it the rows below
-- are one more.
pub record NextRow (rows : List StoredRow) (cursor : ℕ) (r : StoredRow) : Type 0 where
  pub from_it : cursor ≤ r.number
  pub is_row : row_in rows r.number ≡ Some r
  pub more : below (r.number + 1) rows ≡ below cursor rows ++ r ∷ []

next_first : (low next cursor : ℕ) (x : StoredRow) (xs : List StoredRow) (r : StoredRow) → Rise low next (x ∷ xs) → (nat_le cursor x.number ≡ true) × (cursor ≤ x.number) → x ≡ r → NextRow (x ∷ xs) cursor r
next_first low next cursor x xs r rise up is = subst (NextRow (x ∷ xs) cursor) is (record {
  from_it = up.1;
  is_row = ap (λ (b : Bool). cond b (Some x) (row_in xs x.number)) (eq-eqb x.number x.number refl);
  more =
      let kept : nat_le (x.number + 1) x.number ≡ false = gt_false (x.number + 1) x.number (omega arith) in
      let left : below (x.number + 1) (x ∷ xs) ≡ x ∷ [] = ap (λ (b : Bool). cond (not b) (x ∷ below (x.number + 1) xs) (below (x.number + 1) xs)) kept ∙ ap (λ ys. x ∷ ys) (none_under x.number next (x.number + 1) xs rise.2 (omega arith)) in
      let right : below cursor (x ∷ xs) ≡ [] = ap (λ (b : Bool). cond (not b) (x ∷ below cursor xs) (below cursor xs)) up.0 ∙ none_under x.number next cursor xs rise.2 (omega (arith, up.1)) in
      left ∙ sym (ap (λ ys. ys ++ x ∷ []) right);
})

next_later : (low next cursor : ℕ) (x : StoredRow) (xs : List StoredRow) (r : StoredRow) → (nat_le cursor x.number ≡ false) × (x.number < cursor) → NextRow xs cursor r → NextRow (x ∷ xs) cursor r
next_later low next cursor x xs r down later =
    let differs : (x.number == r.number) ≡ false = ne_eqb x.number r.number (λ is. omega (arith, is, down.1, later.from_it)) in
    let kept : nat_le (r.number + 1) x.number ≡ false = gt_false (r.number + 1) x.number (omega (arith, down.1, later.from_it)) in
    record {
      from_it = later.from_it;
      is_row = ap (λ (b : Bool). cond b (Some x) (row_in xs r.number)) differs ∙ later.is_row;
      more =
          ap (λ (b : Bool). cond (not b) (x ∷ below (r.number + 1) xs) (below (r.number + 1) xs)) kept
          ∙ ap (λ ys. x ∷ ys) later.more
          ∙ sym (ap (λ (b : Bool). cond (not b) (x ∷ below cursor xs) (below cursor xs) ++ r ∷ []) down.0);
    }

pub next_row : (low next cursor : ℕ) (rows : List StoredRow) (r : StoredRow) → Rise low next rows → find (is_from cursor) rows ≡ Some r → NextRow rows cursor r
next_row low next cursor [] r rise is = absurd (none_some r is)
next_row low next cursor (x ∷ xs) r rise is = elim (leb_tells cursor x.number) [
  | inl up ↦ next_first low next cursor x xs r rise up (some_of x r (sym (ap (λ (b : Bool). cond b (Some x) (find (is_from cursor) xs)) up.0) ∙ is))
  | inr down ↦ next_later low next cursor x xs r down (next_row x.number next cursor xs r rise.2 (sym (ap (λ (b : Bool). cond b (Some x) (find (is_from cursor) xs)) down.0) ∙ is))
]

-- where there is no row from a number on, all are below it
pub all_below : (cursor : ℕ) (rows : List StoredRow) → find (is_from cursor) rows ≡ None → below cursor rows ≡ rows
all_below cursor [] none = refl
all_below cursor (x ∷ xs) none = elim (leb_tells cursor x.number) [
  | inl up ↦ absurd (some_none x (sym (ap (λ (b : Bool). cond b (Some x) (find (is_from cursor) xs)) up.0) ∙ none))
  | inr down ↦
      ap (λ (b : Bool). cond (not b) (x ∷ below cursor xs) (below cursor xs)) down.0
      ∙ ap (λ ys. x ∷ ys) (all_below cursor xs (sym (ap (λ (b : Bool). cond b (Some x) (find (is_from cursor) xs)) down.0) ∙ none))
]

-- ## As the code asks the table

number_none : (o : Option StoredRow) → option_map (λ (r : StoredRow). r.number) o ≡ None → o ≡ None
number_none None is = refl
number_none (Some r) is = absurd (some_none r.number is)

pub nothing_from : (low next cursor : ℕ) (rows : List StoredRow) → Rise low next rows → least_from rows cursor ≡ None → find (is_from cursor) rows ≡ None
nothing_from low next cursor rows rise none =
    number_none (find (is_from cursor) rows) (sym (least_found (λ (r : StoredRow). r.number) (is_from cursor) low next rows rise) ∙ none)

some_number : (o : Option StoredRow) (n : ℕ) → option_map (λ (r : StoredRow). r.number) o ≡ Some n → (r : StoredRow) × (o ≡ Some r) × (r.number ≡ n)
some_number None n is = absurd (none_some n is)
some_number (Some r) n is = (r, refl, some_of r.number n is)

-- the row whose number the table told
pub row_from : (low next cursor n : ℕ) (rows : List StoredRow) → Rise low next rows → least_from rows cursor ≡ Some n → (r : StoredRow) × NextRow rows cursor r × (r.number ≡ n)
row_from low next cursor n rows rise is =
    let found = some_number (find (is_from cursor) rows) n (sym (least_found (λ (r : StoredRow). r.number) (is_from cursor) low next rows rise) ∙ is) in
    (found.0, next_row low next cursor rows found.0 rise found.1, found.2)

-- ## The rows that are shown so far

abbrev pub shown_below : ℕ → List StoredRow → List NumberedRow
shown_below cursor rows = map numbered (filter unowned (below cursor rows))

cond_rows : (b : Bool) (r : StoredRow) → is_none r.owner ≡ b → filter unowned (r ∷ []) ≡ cond b (r ∷ []) []
cond_rows b r is = ap (λ (x : Bool). cond x (r ∷ []) []) is

one_more : (rows : List StoredRow) (cursor : ℕ) (r : StoredRow) → NextRow rows cursor r → shown_below (r.number + 1) rows ≡ shown_below cursor rows ++ map numbered (filter unowned (r ∷ []))
one_more rows cursor r next =
    ap (λ ys. map numbered (filter unowned ys)) next.more
    ∙ ap (map numbered) (filter-append unowned (below cursor rows) (r ∷ []))
    ∙ map-append numbered (filter unowned (below cursor rows)) (filter unowned (r ∷ []))

same_row : (rows : List StoredRow) (r : StoredRow) (n : ℕ) (row : List Value) → row_in rows r.number ≡ Some r → r.number ≡ n → values_in rows n ≡ Some row → numbered r ≡ record { number = n; row = row }
same_row rows r n row is number told =
    let values : r.row ≡ row = some_of r.row row (sym (ap (option_map (λ (x : StoredRow). x.row)) (ap (row_in rows) (sym number) ∙ is)) ∙ told) in
    ap (λ k. let x : NumberedRow = record { number = k; row = r.row } in x) number ∙ ap (λ ys. let x : NumberedRow = record { number = n; row = ys } in x) values

owner_row : (rows : List StoredRow) (r : StoredRow) (n : ℕ) → row_in rows r.number ≡ Some r → r.number ≡ n → owner_in rows n ≡ r.owner
owner_row rows r n is number = ap (option_and_then (λ (x : StoredRow). x.owner)) (ap (row_in rows) (sym number) ∙ is)

-- a row that nobody owns is shown
pub shown_one : (low next cursor n : ℕ) (rows : List StoredRow) (row : List Value) (old new : List NumberedRow) → Rise low next rows → least_from rows cursor ≡ Some n → is_none (owner_in rows n) ≡ true → values_in rows n ≡ Some row
    → old ≡ shown_below cursor rows → new ≡ old ++ record { number = n; row = row } ∷ [] → new ≡ shown_below (n + 1) rows
shown_one low next cursor n rows row old new rise told free values was grew =
    let found = row_from low next cursor n rows rise told in
    let r = found.0 in
    let none : is_none r.owner ≡ true = ap is_none (sym (owner_row rows r n found.1.is_row found.2)) ∙ free in
    let same = same_row rows r n row found.1.is_row found.2 values in
    let more : shown_below (r.number + 1) rows ≡ shown_below cursor rows ++ numbered r ∷ [] = one_more rows cursor r found.1 ∙ ap (λ ys. shown_below cursor rows ++ map numbered ys) (cond_rows true r none) in
    grew ∙ ap (λ ys. ys ++ record { number = n; row = row } ∷ []) was ∙ ap (λ x. shown_below cursor rows ++ x ∷ []) (sym same) ∙ sym more ∙ ap (λ k. shown_below (k + 1) rows) found.2

-- a row that somebody owns is not
pub shown_none : (low next cursor n : ℕ) (rows : List StoredRow) (old : List NumberedRow) → Rise low next rows → least_from rows cursor ≡ Some n → is_none (owner_in rows n) ≡ false → old ≡ shown_below cursor rows → old ≡ shown_below (n + 1) rows
shown_none low next cursor n rows old rise told owned was =
    let found = row_from low next cursor n rows rise told in
    let r = found.0 in
    let some : is_none r.owner ≡ false = ap is_none (sym (owner_row rows r n found.1.is_row found.2)) ∙ owned in
    let more : shown_below (r.number + 1) rows ≡ shown_below cursor rows = one_more rows cursor r found.1 ∙ ap (λ ys. shown_below cursor rows ++ map numbered ys) (cond_rows false r some) ∙ append-nil (shown_below cursor rows) in
    was ∙ sym more ∙ ap (λ k. shown_below (k + 1) rows) found.2

-- The rows that are shown after one more row of the table: one more at most.
pub record ShownNext (rows : List StoredRow) (n : ℕ) (old new : List NumberedRow) : Type 0 where
  pub shown : new ≡ shown_below (n + 1) rows
  pub size : length new ≤ length old + 1

pub shown_next : (low next cursor n : ℕ) (rows : List StoredRow) (old new : List NumberedRow) → Rise low next rows → least_from rows cursor ≡ Some n → old ≡ shown_below cursor rows
    → (is_none (owner_in rows n) ≡ true → (row : List Value) × (values_in rows n ≡ Some row) × (new ≡ old ++ record { number = n; row = row } ∷ [])) → (is_none (owner_in rows n) ≡ false → new ≡ old) → ShownNext rows n old new
shown_next low next cursor n rows old new rise told was free owned = next_of (is_none (owner_in rows n)) refl where
  next_of : (b : Bool) → is_none (owner_in rows n) ≡ b → ShownNext rows n old new
  next_of true is =
      let pushed = free is in
      let size = length-append old (record { number = n; row = pushed.0 } ∷ []) in
      record { shown = shown_one low next cursor n rows pushed.0 old new rise told is pushed.1 was pushed.2; size = omega (arith, ap length pushed.2, size) }
  next_of false is =
      let same = owned is in
      record { shown = same ∙ shown_none low next cursor n rows old rise told is was; size = omega (arith, ap length same) }

next_step : (next n : ℕ) (x : StoredRow) (later_row : Option StoredRow) (r : StoredRow) (b : Bool) → x.number < next → (x.number == n) ≡ b → cond b (Some x) later_row ≡ Some r → (later_row ≡ Some r → n < next) → n < next
next_step next n x later_row r true small same here later = let number : x.number ≡ n = eqb-true x.number n same in omega (arith, number, small)
next_step next n x later_row r false small differs here later = later here

below_next : (low next n : ℕ) (rows : List StoredRow) (r : StoredRow) → Rise low next rows → row_in rows n ≡ Some r → n < next
below_next low next n [] r rise is = absurd (none_some r is)
below_next low next n (x ∷ xs) r rise is = next_step next n x (row_in xs n) r (x.number == n) rise.1 refl is (below_next x.number next n xs r rise.2)

some_there : (o : Option StoredRow) (r : StoredRow) → o ≡ Some r → IsSome o
some_there None r is = absurd (none_some r is)
some_there (Some x) r is = refl

-- the number that the table told is a row's, at or above the cursor
pub record Told (rows : List StoredRow) (cursor next n : ℕ) : Type 0 where
  pub from_it : cursor ≤ n
  pub before : n < next
  pub there : IsSome (row_in rows n)

pub told : (low next cursor n : ℕ) (rows : List StoredRow) → Rise low next rows → least_from rows cursor ≡ Some n → Told rows cursor next n
told low next cursor n rows rise is =
    let found = row_from low next cursor n rows rise is in
    let r = found.0 in
    let here : row_in rows n ≡ Some r = ap (row_in rows) (sym found.2) ∙ found.1.is_row in
    record { from_it = omega (arith, found.1.from_it, found.2); before = below_next low next n rows r rise here; there = some_there (row_in rows n) r here }

-- all that is to be shown: no row is left
pub shown_whole : (low next cursor most : ℕ) (rows : List StoredRow) (old : List NumberedRow) → Rise low next rows → least_from rows cursor ≡ None → old ≡ shown_below cursor rows → length old ≤ most → old ≡ map numbered (take most (filter unowned rows))
shown_whole low next cursor most rows old rise none was few =
    let all : below cursor rows ≡ rows = all_below cursor rows (nothing_from low next cursor rows rise none) in
    let whole : old ≡ map numbered (filter unowned rows) = was ∙ ap (λ ys. map numbered (filter unowned ys)) all in
    let size : length (filter unowned rows) ≤ most = subst (λ k. k ≤ most) (ap length whole ∙ length-map (filter unowned rows) numbered) few in
    whole ∙ ap (map numbered) (sym (take_all most (filter unowned rows) size))

-- or as many as were asked for
pub shown_enough : (low next cursor most : ℕ) (rows : List StoredRow) (old : List NumberedRow) → Rise low next rows → old ≡ shown_below cursor rows → length old ≡ most → old ≡ map numbered (take most (filter unowned rows))
shown_enough low next cursor most rows old rise was enough =
    let front = filter unowned (below cursor rows) in
    let back = filter unowned (from cursor rows) in
    let cut : filter unowned rows ≡ front ++ back = ap (filter unowned) (parted low next cursor rows rise) ∙ filter-append unowned (below cursor rows) (from cursor rows) in
    let size : length front ≡ most = sym (length-map front numbered) ∙ sym (ap length was) ∙ enough in
    was ∙ ap (map numbered) (sym (ap (take most) cut ∙ ap (λ k. take k (front ++ back)) (sym size) ∙ take-append_seam front back))

-- nothing is shown at first
pub shown_first : (low next : ℕ) (rows : List StoredRow) → Rise low next rows → [] ≡ shown_below 1 rows
shown_first low next rows rise = ap (λ ys. map numbered (filter unowned ys)) (sym (none_under low next 1 rows rise (omega arith)))

-- ## One row

none_other : (low next n : ℕ) (rows : List StoredRow) → Rise low next rows → n ≤ low → filter (λ (x : StoredRow). x.number == n) rows ≡ []
none_other low next n [] rise small = refl
none_other low next n (x ∷ xs) rise small =
    let differs : (x.number == n) ≡ false = ne_eqb x.number n (λ is. omega (arith, is, rise.0, small)) in
    ap (λ (b : Bool). cond b (x ∷ filter (λ (y : StoredRow). y.number == n) xs) (filter (λ (y : StoredRow). y.number == n) xs)) differs ∙ none_other x.number next n xs rise.2 (omega (arith, rise.0, small))

only_step : (low next n : ℕ) (x : StoredRow) (xs : List StoredRow) (r : StoredRow) (b : Bool) → (x.number == n) ≡ b → Rise low next (x ∷ xs) → cond b (Some x) (row_in xs n) ≡ Some r → (row_in xs n ≡ Some r → filter (λ (y : StoredRow). y.number == n) xs ≡ r ∷ [])
    → cond b (x ∷ filter (λ (y : StoredRow). y.number == n) xs) (filter (λ (y : StoredRow). y.number == n) xs) ≡ r ∷ []
only_step low next n x xs r true same rise is later =
    let number : x.number ≡ n = eqb-true x.number n same in
    ap (λ y. y ∷ filter (λ (z : StoredRow). z.number == n) xs) (some_of x r is) ∙ ap (λ ys. r ∷ ys) (none_other x.number next n xs rise.2 (omega (arith, number)))
only_step low next n x xs r false differs rise is later = later is

-- where numbers rise, one row at most has a number
pub only_row : (low next n : ℕ) (rows : List StoredRow) (r : StoredRow) → Rise low next rows → row_in rows n ≡ Some r → filter (λ (x : StoredRow). x.number == n) rows ≡ r ∷ []
only_row low next n [] r rise is = absurd (none_some r is)
only_row low next n (x ∷ xs) r rise is = only_step low next n x xs r (x.number == n) refl rise is (only_row x.number next n xs r rise.2)

take_one : (r : StoredRow) (most : ℕ) → 0 < most → take most (r ∷ []) ≡ r ∷ []
take_one r most some = take_all most (r ∷ []) (omega (arith, some))

some_row : (o : Option StoredRow) (row : List Value) → option_map (λ (x : StoredRow). x.row) o ≡ Some row → (r : StoredRow) × (o ≡ Some r)
some_row None row is = absurd (none_some row is)
some_row (Some r) row is = (r, refl)

row_number_is : (n : ℕ) (rows : List StoredRow) (r : StoredRow) → row_in rows n ≡ Some r → r.number ≡ n
row_number_is n rows r is = found_key (λ (x : StoredRow). x.number) n rows r is

-- the row with a number is shown where any is asked for
pub shown_only : (low next n most : ℕ) (rows : List StoredRow) (row : List Value) → Rise low next rows → values_in rows n ≡ Some row → 0 < most → map numbered (take most (filter (λ (x : StoredRow). x.number == n) rows)) ≡ record { number = n; row = row } ∷ []
shown_only low next n most rows row rise values some =
    let there = some_row (row_in rows n) row values in
    let r = there.0 in
    let number : r.number ≡ n = row_number_is n rows r there.1 in
    let only = only_row low next n rows r rise there.1 in
    ap (λ ys. map numbered (take most ys)) only ∙ ap (map numbered) (take_one r most some) ∙ ap (λ x. x ∷ []) (same_row rows r n row (ap (row_in rows) number ∙ there.1) number values)

-- what a session in owner mode is shown of its row's table
pub own_shown : (m : MachineState) (s t own n most : ℕ) (result : Result (List NumberedRow) NoMemory) → mode_of m s ≡ Some (Owner own n) → own ≡ t → IfOk result (λ rows. rows ≡ map numbered (take most (filter (λ r. r.number == n) (table_at m.tables t).rows)))
    → IfOk result (λ rows. step m s (Select t most) ≡ (m, Shown rows))
own_shown m s t own n most (Err fault) mode same is = tt
own_shown m s t own n most (Ok rows) mode same is =
    let test : (own == t) ≡ true = eq-eqb own t same in
    let seen : visible m t (mode_of m s) ≡ filter (λ r. r.number == n) (table_at m.tables t).rows = ap (visible m t) mode ∙ ap (λ (b : Bool). cond b (filter (λ r. r.number == n) (table_at m.tables t).rows) []) test in
    let all : shown m s t most ≡ rows = ap (λ (rs : List StoredRow). map numbered (take most rs)) seen ∙ sym is in
    ap (λ (rs : List NumberedRow). let r : MachineState × Reply = (m, Shown rs) in r) all
