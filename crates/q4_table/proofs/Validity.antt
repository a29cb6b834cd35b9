-- What the calls do to a valid table leaves it valid.
use Rattle.std.proofs.Common.{◌≡◌, ◌≢◌, ◌==◌, ◌≤◌, ◌+◌, ◌∷◌, ◌∙◌, [], List, ℕ, Bool, true, false, cond, not, Option, Some, None, length, length-append, refl, sym, ap, arith}
use Rattle.std.specs.Option.{ForSome}
use Rattle.std.specs.Prelude.{nat_lt}
use Rattle.std.proofs.lemmas.Bool.{eq-eqb, eqb-true, ltb-false}
use Rattle.std.proofs.lemmas.List.{length-map, map-append}
use Rattle.std.proofs.lemmas.List.Elements.{All-map, All-filter, All-push, All-weaker}
use Rattle.std.proofs.lemmas.List.Filters.{length-filter_both, sum_by-filter_both}
use Rattle.std.proofs.lemmas.List.Sums.{sum_by-cons, sum_by_push}
use Rattle.q4_value.specs.declared.row.Value.{Value}
use Rattle.q4_value.specs.declared.column.Column.{Column}
use Rattle.q4_value.specs.Row.{AreWider, row_size, Fits}
use Rattle.q4_value.proofs.Wider.{length-wider, fits-wider}
use Rattle.q4_table.specs.declared.adding.Check.{Check}
use Rattle.q4_table.specs.declared.adding.Check.TheVariants as check
use Rattle.q4_table.specs.declared.origin.Origin.{Origin}
use Rattle.q4_table.specs.declared.rows.StoredRow.{StoredRow}
use Rattle.q4_table.specs.TableState.{TableState}
use Rattle.q4_table.specs.Marks.{mark_of}
use Rattle.q4_table.specs.declared.marks.Mark.{Mark}
use Rattle.q4_table.specs.Rows.{row_in, owned_by, with_owner, without_row, bytes_of, numbers_of}
use Rattle.q4_table.specs.Adding.{number_limit, count_limit, bytes_limit, IsOrigin, was_seen, room_for, check_seen, check_of, with_origin, add_row}
use Rattle.q4_table.specs.Valid.{RiseBelow, IsMarks, IsValidTable}
use Rattle.q4_table.proofs.Changes.{number, rise-owned, rise-removed}
use Rattle.q4_table.proofs.Marking.{marks-with}
use Rattle.q4_table.proofs.Rising.{rise-push, rise_wider}
use Rattle.q4_table.proofs.Lookup.{some_of}
use Rattle.q4_table.proofs.Places.{none_some, without_above}

abbrev pub size : StoredRow → ℕ
size r = row_size r.row

keeps_row : (k : ℕ) (owner : Option ℕ) (r : StoredRow) → (owned_by k owner r).row ≡ r.row
keeps_row k owner r = elim (r.number == k) as (λ b. (cond b (record { number = r.number; row = r.row; owner = owner }) r).row ≡ r.row) [ true ↦ refl | false ↦ refl ]

-- an owner weighs nothing
pub bytes-owned : (k : ℕ) (owner : Option ℕ) (rows : List StoredRow) → bytes_of (with_owner k owner rows) ≡ bytes_of rows
bytes-owned k owner [] = refl
bytes-owned k owner (r ∷ rows) =
    omega (arith, sum_by-cons size (owned_by k owner r) (with_owner k owner rows), sum_by-cons size r rows, ap row_size (keeps_row k owner r), bytes-owned k owner rows)

pub valid-owned : (table : TableState) (k : ℕ) (owner : Option ℕ) → IsValidTable table → IsValidTable (record table { rows = with_owner k owner table.rows })
valid-owned table k owner valid = record {
  columns = valid.columns;
  begins = valid.begins;
  limit = valid.limit;
  numbers = rise-owned 0 table.next k owner table.rows valid.numbers;
  fit = All-map (λ (r : StoredRow). Fits table.columns r.row) (owned_by k owner) table.rows
      (All-weaker (λ (r : StoredRow). Fits table.columns r.row) (λ (r : StoredRow). Fits table.columns (owned_by k owner r).row) (λ r fits. rw (keeps_row k owner r) fits) table.rows valid.fit);
  marks = valid.marks;
  count = omega (arith, length-map table.rows (owned_by k owner), valid.count);
  bytes = omega (arith, bytes-owned k owner table.rows, valid.bytes);
}

abbrev other : ℕ → StoredRow → Bool
other k r = not (r.number == k)

pub valid-removed : (table : TableState) (k : ℕ) → IsValidTable table → IsValidTable (record table { rows = without_row k table.rows })
valid-removed table k valid = record {
  columns = valid.columns;
  begins = valid.begins;
  limit = valid.limit;
  numbers = rise-removed 0 table.next k table.rows valid.numbers;
  fit = All-filter (other k) (λ (r : StoredRow). Fits table.columns r.row) table.rows valid.fit;
  marks = valid.marks;
  count = omega (arith, length-filter_both (other k) (λ r. not (other k r)) (λ r. refl) table.rows, valid.count);
  bytes = omega (arith, sum_by-filter_both (other k) (λ r. not (other k r)) (λ r. refl) size table.rows, valid.bytes);
}

-- what there is where there is room
pub record Room (table : TableState) (row : List Value) : Type 0 where
  pub number_left : table.next ≢ number_limit
  pub place_left : length table.rows ≢ count_limit
  pub bytes_left : bytes_of table.rows + row_size row ≤ bytes_limit

spent_new : check.Spent ≡ check.New → ⊥
spent_new is = cc is

rows_new : check.Rows ≡ check.New → ⊥
rows_new is = cc is

bytes_new : (sum : ℕ) → check.Bytes sum ≡ check.New → ⊥
bytes_new sum is = cc is

seen_new : (mark : ℕ) → check.Seen mark ≡ check.New → ⊥
seen_new mark is = cc is

room_cases : (table : TableState) (row : List Value) (spent full large : Bool) → (table.next == number_limit) ≡ spent → (length table.rows == count_limit) ≡ full → nat_lt bytes_limit (bytes_of table.rows + row_size row) ≡ large
    → cond spent check.Spent (cond full check.Rows (cond large (check.Bytes (bytes_of table.rows)) check.New)) ≡ check.New → Room table row
room_cases table row true full large s f l is = absurd (spent_new is)
room_cases table row false true large s f l is = absurd (rows_new is)
room_cases table row false false true s f l is = absurd (bytes_new (bytes_of table.rows) is)
room_cases table row false false false s f l is = record {
  number_left = λ same. false_true (sym s ∙ eq-eqb table.next number_limit same);
  place_left = λ same. false_true (sym f ∙ eq-eqb (length table.rows) count_limit same);
  bytes_left = ltb-false bytes_limit (bytes_of table.rows + row_size row) l;
}
  where
    false_true : false ≡ true → ⊥
    false_true same = cc same

pub room_is : (table : TableState) (row : List Value) → room_for table row ≡ check.New → Room table row
room_is table row is = room_cases table row (table.next == number_limit) (length table.rows == count_limit) (nat_lt bytes_limit (bytes_of table.rows + row_size row)) refl refl refl is

unseen : (seen : Bool) (mark : ℕ) (room : Check) → check_seen seen mark room ≡ check.New → room ≡ check.New
unseen true mark room is = absurd (seen_new mark is)
unseen false mark room is = is

-- a row that would be added has room
pub check_room : (table : TableState) (row : List Value) (origin : Option Origin) → check_of table row origin ≡ check.New → room_for table row ≡ check.New
check_room table row None is = is
check_room table row (Some origin) is =
    let mark = mark_of table.marks origin.source in
    unseen (was_seen origin.mode origin.number mark) mark (room_for table row) is

pub marks-noted : (origin : Option Origin) (marks : List _) → ForSome origin IsOrigin → IsMarks marks → IsMarks (with_origin origin marks)
marks-noted None marks is all = all
marks-noted (Some origin) marks is all = marks-with origin.source origin.number marks (record { source = (is origin refl).source; positive = (is origin refl).positive; number = (is origin refl).number }) all

pub valid-added : (table : TableState) (row : List Value) (origin : Option Origin) → IsValidTable table → Fits table.columns row → ForSome origin IsOrigin → room_for table row ≡ check.New → IsValidTable (add_row table row origin)
valid-added table row origin valid fits is new =
    let stored : StoredRow = record { number = table.next; row = row; owner = None } in
    let room = room_is table row new in
    record {
      columns = valid.columns;
      begins = omega arith;
      limit = omega (arith, valid.limit, room.number_left);
      numbers = rw (map-append) (rise-push 0 table.next (numbers_of table.rows) valid.begins valid.numbers);
      fit = All-push (λ (r : StoredRow). Fits table.columns r.row) table.rows stored valid.fit fits;
      marks = marks-noted origin table.marks is valid.marks;
      count = omega (arith, length-append table.rows (stored ∷ []), valid.count, room.place_left);
      bytes = omega (arith, sum_by_push size table.rows stored, room.bytes_left);
    }

pub valid-marked : (table : TableState) (marks : List Mark) → IsValidTable table → IsMarks marks → IsValidTable (record table { marks = marks })
valid-marked table marks valid all = record {
  columns = valid.columns;
  begins = valid.begins;
  limit = valid.limit;
  numbers = valid.numbers;
  fit = valid.fit;
  marks = all;
  count = valid.count;
  bytes = valid.bytes;
}

pub valid-next : (table : TableState) (next : ℕ) → IsValidTable table → table.next ≤ next → next ≤ number_limit → IsValidTable (record table { next = next })
valid-next table next valid rises limit = record {
  columns = valid.columns;
  begins = omega (arith, valid.begins, rises);
  limit = limit;
  numbers = rise_wider 0 0 table.next next (numbers_of table.rows) (omega arith) rises valid.numbers;
  fit = valid.fit;
  marks = valid.marks;
  count = valid.count;
  bytes = valid.bytes;
}

-- rows that fit fit wider columns
pub valid-wider : (table : TableState) (columns : List Column) → IsValidTable table → AreWider columns table.columns → IsValidTable (record table { columns = columns })
valid-wider table columns valid wider =
    let len = length-wider columns table.columns wider in
    record {
      columns = record { some = omega (arith, valid.columns.some, len); few = omega (arith, valid.columns.few, len) };
      begins = valid.begins;
      limit = valid.limit;
      numbers = valid.numbers;
      fit = All-weaker (λ (r : StoredRow). Fits table.columns r.row) (λ (r : StoredRow). Fits columns r.row) (λ r fits. fits-wider columns table.columns r.row wider fits) table.rows valid.fit;
      marks = valid.marks;
      count = valid.count;
      bytes = valid.bytes;
    }

removed_step : (low next k : ℕ) (x : StoredRow) (xs : List StoredRow) (r : StoredRow) → RiseBelow low next (numbers_of (x ∷ xs)) → (b : Bool) → (x.number == k) ≡ b → cond b (Some x) (row_in xs k) ≡ Some r
    → (row_in xs k ≡ Some r → bytes_of (without_row k xs) + size r ≡ bytes_of xs) → bytes_of (cond (not b) (x ∷ without_row k xs) (without_row k xs)) + size r ≡ bytes_of (x ∷ xs)
removed_step low next k x xs r rise true here is later =
    let same : x ≡ r = some_of x r is in
    let number_is : x.number ≡ k = eqb-true x.number k here in
    let rest : without_row k xs ≡ xs = without_above number x.number next k xs (omega (arith, number_is)) rise.2 in
    omega (arith, sum_by-cons size x xs, ap bytes_of rest, ap size same)
removed_step low next k x xs r rise false other is later =
    omega (arith, sum_by-cons size x xs, sum_by-cons size x (without_row k xs), later is)

-- without a row the sum of sizes lacks its size
pub bytes-removed : (low next k : ℕ) (rows : List StoredRow) (r : StoredRow) → RiseBelow low next (numbers_of rows) → row_in rows k ≡ Some r → bytes_of (without_row k rows) + size r ≡ bytes_of rows
bytes-removed low next k [] r rise is = absurd (none_some r is)
bytes-removed low next k (x ∷ xs) r rise is = removed_step low next k x xs r rise (x.number == k) refl is (bytes-removed x.number next k xs r rise.2)
