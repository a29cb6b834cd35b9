-- The record of a change that a table takes stands in a batch behind it.
use Rattle.std.proofs.Common.{◌≡◌, ◌≢◌, ℕ, ◌+◌, ◌<◌, ◌≤◌, Bool, true, false, cond, ltb, eqb, List, [], ◌∷◌, Option, None, Some, length, refl, arith}
use Rattle.std.specs.Prelude.{IsSome}
use Rattle.std.specs.Option.{ForSome}
use Rattle.std.specs.List.{find}
use Rattle.std.proofs.lemmas.Bool.{ltb-false, eqb-true}
use Rattle.std.proofs.lemmas.List.{length_push}
use Rattle.std.proofs.lemmas.List.Elements.{All-nil}
use Rattle.std.proofs.lemmas.List.Sums.{sum_by-append, sum_by-cons}
use Rattle.q4_value.specs.declared.row.Value.{Value}
use Rattle.q4_value.specs.Row.{Fits, row_size}
use Rattle.q4_table.specs.declared.adding.Check.{Check}
use Rattle.q4_table.specs.declared.adding.Check.TheVariants as check
use Rattle.q4_table.specs.declared.origin.Mode.{Mode}
use Rattle.q4_table.specs.declared.origin.Mode.TheVariants.{A, W}
use Rattle.q4_table.specs.declared.origin.Origin.{Origin}
use Rattle.q4_table.specs.declared.rows.StoredRow.{StoredRow}
use Rattle.q4_table.specs.TableState.{TableState}
use Rattle.q4_table.specs.Rows.{bytes_of, numbers_of, IsThere}
use Rattle.q4_table.specs.Marks.{mark_of}
use Rattle.q4_table.specs.Adding.{IsOrigin, was_seen, room_for, check_seen, check_of, add_row, number_limit, count_limit, bytes_limit}
use Rattle.q4_table.specs.Valid.{RiseBelow, IsValidTable}
use Rattle.q4_record.specs.declared.head.Head.TheVariants.{Insert, End}
use Rattle.q4_record.specs.Wide.{IsWideValue}
use Rattle.q4_record.specs.Record.{IsSpelledOrigin}
use Rattle.q4_record.specs.Replay.{MayForward, Stands, at_batches, passed_limit}
use Rattle.q4_record.proofs.Cuts.{wide_row, none_long}
use Rattle.q4_record.proofs.Limits.{Within, passes_none, ended_within}

-- there is room for the row
record HasRoomFor (table : TableState) (row : List Value) : Type 0 where
  next : table.next ≢ number_limit
  rows : length table.rows ≢ count_limit
  bytes : bytes_of table.rows + row_size row ≤ bytes_limit

spent : (b : Bool) (o : Check) → cond b check.Spent o ≡ check.New → (b ≡ false) × (o ≡ check.New)
spent true o e = absurd cc
spent false o e = (refl, e)

full : (b : Bool) (o : Check) → cond b check.Rows o ≡ check.New → (b ≡ false) × (o ≡ check.New)
full true o e = absurd cc
full false o e = (refl, e)

large : (b : Bool) (sum : ℕ) → cond b (check.Bytes sum) check.New ≡ check.New → b ≡ false
large true sum e = absurd cc
large false sum e = refl

differs : (m n : ℕ) → eqb m n ≡ false → m ≢ n
differs m n off same = grind arith

room : (table : TableState) (row : List Value) → room_for table row ≡ check.New → HasRoomFor table row
room table row e =
    let a = spent (eqb table.next number_limit) _ e in
    let b = full (eqb (length table.rows) count_limit) _ a.1 in
    let d = large (ltb bytes_limit (bytes_of table.rows + row_size row)) (bytes_of table.rows) b.1 in
    record { next = differs table.next number_limit a.0; rows = differs (length table.rows) count_limit b.0; bytes = ltb-false bytes_limit (bytes_of table.rows + row_size row) d }

unseen : (b : Bool) (mark : ℕ) (r : Check) → check_seen b mark r ≡ check.New → (b ≡ false) × (r ≡ check.New)
unseen true mark r e = absurd cc
unseen false mark r e = (refl, e)

above : (mode : Mode) (number mark : ℕ) → was_seen mode number mark ≡ false → mode ≡ A → mark < number
above A number mark off e = grind arith
above W number mark off e = absurd cc

parts : (table : TableState) (row : List Value) (origin : Option Origin) → ForSome origin IsOrigin → check_of table row origin ≡ check.New → HasRoomFor table row × MayForward table.marks origin × IsSpelledOrigin origin
parts table row None is e = (room table row e, tt, tt)
parts table row (Some origin) is e =
    let mark = mark_of table.marks origin.source in
    let u = unseen (was_seen origin.mode origin.number mark) mark (room_for table row) e in
    let valid : IsOrigin origin = is origin refl in
    (room table row u.1, (valid, above origin.mode origin.number mark u.0), omega (arith, valid.number))

pub added_stands : (table : TableState) (row : List Value) (origin : Option Origin) → IsValidTable table → Fits table.columns row → ForSome origin IsOrigin → check_of table row origin ≡ check.New → Stands (at_batches table) (record { head = Insert table.next origin; columns = table.columns; row = row })
added_stands table row origin valid fits is e =
    let p = parts table row origin is e in
    let has = p.0 in
    let next = has.next in
    let rows = has.rows in
    let limit = valid.limit in
    let count = valid.count in
    let size : StoredRow → ℕ = λ r. row_size r.row in
    let new : StoredRow = record { number = table.next; row = row; owner = None } in
    let within : Within (add_row table row origin) row = record {
      rows = omega (arith, rows, count, length_push table.rows new);
      bytes = omega (arith, has.bytes, sum_by-append size table.rows (new ∷ []), sum_by-cons size new []);
      next = omega (arith, next, limit);
      short = none_long row fits.row_of.values;
      size = fits.size;
    } in
    record {
      is = record { head = (omega (arith, limit), p.2); columns_are = refl; row = wide_row table.columns row fits.row_of };
      may = (refl, p.1);
      within = passes_none (add_row table row origin) row within;
    }

found_below : (low next number : ℕ) (r : StoredRow) (rs : List StoredRow) (b : Bool) → eqb r.number number ≡ b → RiseBelow low next (numbers_of (r ∷ rs)) → IsSome (cond b (Some r) (find (λ q. eqb q.number number) rs))
    → (IsSome (find (λ q. eqb q.number number) rs) → number < next) → number < next
found_below low next number r rs true on rise is deeper = omega (arith, rise.1, eqb-true r.number number on)
found_below low next number r rs false off rise is deeper = deeper is

none_some : (number : ℕ) → IsSome (find (λ (r : StoredRow). eqb r.number number) []) → ⊥
none_some number is = absurd cc

there_below : (low next number : ℕ) (rows : List StoredRow) → RiseBelow low next (numbers_of rows) → IsSome (find (λ r. eqb r.number number) rows) → number < next
there_below low next number [] rise is = absurd (none_some number is)
there_below low next number (r ∷ rs) rise is = found_below low next number r rs (eqb r.number number) refl rise is (there_below r.number next number rs rise.2)

pub ended_stands : (table : TableState) (number : ℕ) → IsValidTable table → IsThere table.rows number → Stands (at_batches table) (record { head = End number; columns = []; row = [] })
ended_stands table number valid is =
    let limit = valid.limit in
    let below = there_below 0 table.next number table.rows valid.numbers is in
    let count = valid.count in
    let whole : passed_limit table [] ≡ None = passes_none table [] (record { rows = count; bytes = valid.bytes; next = limit; short = refl; size = omega arith }) in
    record {
      is = record { head = omega (arith, below, limit); columns_are = refl; row = record { taken = tt; values = All-nil IsWideValue } };
      may = is;
      within = ended_within table number whole;
    }
