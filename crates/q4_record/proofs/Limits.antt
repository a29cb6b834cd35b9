-- What it means that no limit is passed, and which records pass none.
use Rattle.std.proofs.Common.{◌≡◌, ℕ, ◌<◌, ◌≤◌, Bool, true, false, cond, ltb, List, [], Option, None, Some, length, not, eqb, refl, arith}
use Rattle.std.specs.List.{list_any}
use Rattle.std.proofs.lemmas.Bool.{ltb-false, le-ltb}
use Rattle.std.proofs.lemmas.List.Filters.{length-filter_both, sum_by-filter_both}
use Rattle.q4_value.specs.declared.row.Value.{Value}
use Rattle.q4_value.specs.Row.{row_limit, row_size}
use Rattle.q4_table.specs.declared.rows.StoredRow.{StoredRow}
use Rattle.q4_table.specs.TableState.{TableState}
use Rattle.q4_table.specs.Rows.{bytes_of, without_row}
use Rattle.q4_table.specs.Adding.{number_limit, count_limit, bytes_limit}
use Rattle.q4_record.specs.Wide.{is_long}
use Rattle.q4_record.specs.Replay.{passed_limit}

-- No limit is passed.
pub record Within (table : TableState) (row : List Value) : Type 0 where
  pub rows : length table.rows ≤ count_limit
  pub bytes : bytes_of table.rows ≤ bytes_limit
  pub next : table.next ≤ number_limit
  pub short : list_any is_long row ≡ false
  pub size : row_size row ≤ row_limit

none_if : (b : Bool) (n : ℕ) (o : Option ℕ) → cond b (Some n) o ≡ None → (b ≡ false) × (o ≡ None)
none_if true n o e = absurd cc
none_if false n o e = (refl, e)

if_none : (b : Bool) (n : ℕ) (o : Option ℕ) → b ≡ false → o ≡ None → cond b (Some n) o ≡ None
if_none true n o off e = absurd cc
if_none false n o off e = e

pub within : (table : TableState) (row : List Value) → passed_limit table row ≡ None → Within table row
within table row e =
    let a = none_if (ltb count_limit (length table.rows)) 1 _ e in
    let b = none_if (ltb bytes_limit (bytes_of table.rows)) 2 _ a.1 in
    let d = none_if (ltb number_limit table.next) 3 _ b.1 in
    let f = none_if (list_any is_long row) 4 _ d.1 in
    let g = none_if (ltb row_limit (row_size row)) 5 None f.1 in
    record {
      rows = ltb-false count_limit (length table.rows) a.0;
      bytes = ltb-false bytes_limit (bytes_of table.rows) b.0;
      next = ltb-false number_limit table.next d.0;
      short = f.0;
      size = ltb-false row_limit (row_size row) g.0;
    }

pub passes_none : (table : TableState) (row : List Value) → Within table row → passed_limit table row ≡ None
passes_none table row w =
    if_none (ltb count_limit (length table.rows)) 1 _ (le-ltb count_limit (length table.rows) w.rows)
    (if_none (ltb bytes_limit (bytes_of table.rows)) 2 _ (le-ltb bytes_limit (bytes_of table.rows) w.bytes)
    (if_none (ltb number_limit table.next) 3 _ (le-ltb number_limit table.next w.next)
    (if_none (list_any is_long row) 4 _ w.short
    (if_none (ltb row_limit (row_size row)) 5 None (le-ltb row_limit (row_size row) w.size) refl))))

skip : (b : Bool) (n : ℕ) (o p : Option ℕ) → b ≡ false → o ≡ p → cond b (Some n) o ≡ p
skip true n o p off e = absurd cc
skip false n o p off e = e

stop : (b : Bool) (n : ℕ) (o : Option ℕ) → b ≡ true → cond b (Some n) o ≡ Some n
stop true n o on = refl
stop false n o on = absurd cc

-- Too great a next number is the least limit that is passed.
pub next_passed : (table : TableState) (number : ℕ) → passed_limit table [] ≡ None → number_limit < number → passed_limit (record table { next = number }) [] ≡ Some 3
next_passed table number e lt =
    let w = within table [] e in
    let on : ltb number_limit number ≡ true = grind arith in
    skip (ltb count_limit (length table.rows)) 1 _ (Some 3) (le-ltb count_limit (length table.rows) w.rows)
    (skip (ltb bytes_limit (bytes_of table.rows)) 2 _ (Some 3) (le-ltb bytes_limit (bytes_of table.rows) w.bytes) (stop (ltb number_limit number) 3 _ on))

-- The rows that are left are no more and no larger.
pub ended_within : (table : TableState) (number : ℕ) → passed_limit table [] ≡ None → passed_limit (record table { rows = without_row number table.rows }) [] ≡ None
ended_within table number e =
    let w = within table [] e in
    let others : StoredRow → Bool = λ r. not (eqb r.number number) in
    let count = length-filter_both others (λ r. not (others r)) (λ r. refl) table.rows in
    let sizes = sum_by-filter_both others (λ r. not (others r)) (λ r. refl) (λ r. row_size r.row) table.rows in
    passes_none (record table { rows = without_row number table.rows }) [] (record {
      rows = omega (arith, w.rows, count);
      bytes = omega (arith, w.bytes, sizes);
      next = w.next;
      short = refl;
      size = w.size;
    })

-- A limit that a table passes by itself is passed with any row.
pub table_within : (table : TableState) (row : List Value) → passed_limit table row ≡ None → passed_limit table [] ≡ None
table_within table row e =
    let w = within table row e in
    let size : row_size [] ≤ row_limit = omega arith in
    passes_none table [] (record { rows = w.rows; bytes = w.bytes; next = w.next; short = refl; size = size })
