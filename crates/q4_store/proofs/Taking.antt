-- Rows that are gathered one after the other, from a cursor on.
use Rattle.std.proofs.Common.{◌≡◌, ℕ, suc, ◌+◌, ◌<◌, ◌≤◌, Bool, true, false, cond, List, [], ◌∷◌, ◌++◌, None, Some, Option, map, take, refl, sym, ap, subst, ◌∙◌, append_assoc, append-nil, inl, inr, arith}
use Rattle.std.specs.List.{All}
use Rattle.std.specs.Prelude.{is_none, is_some, not, ◌↔◌}
use Rattle.std.specs.Option.{option_map}
use Rattle.std.proofs.lemmas.Bool.{cases_lt, ne_eqb, eq-eqb}
use Rattle.std.proofs.lemmas.List.{flat_map_more}
use Rattle.std.proofs.lemmas.List.Elements.{All-cons, All-head, All-filter}
use Rattle.q4_value.specs.declared.column.Column.{Column}
use Rattle.q4_value.specs.declared.row.Value.{Value}
use Rattle.q4_value.specs.Row.{Fits}
use Rattle.q4_table.specs.declared.rows.StoredRow.{StoredRow}
use Rattle.q4_table.specs.TableState.{TableState}
use Rattle.q4_table.specs.Rows.{numbers_of, row_in, values_in, least, least_from}
use Rattle.q4_table.specs.Valid.{RiseBelow, IsValidTable}
use Rattle.q4_table.proofs.Rising.{rising_first, first}
use Rattle.q4_record.specs.declared.head.Head.TheVariants.{Insert}
use Rattle.q4_record.specs.Record.{Record, record_bytes, records_bytes}
use Rattle.q4_record.specs.Written.{row_record}
use Rattle.q4_store.specs.Copied.{is_from, rows_from, cursor_after, taken}
use Rattle.q4_store.proofs.Parting.{rise_from, all_from, from_rises, are_from, from_later}

-- the first row from a cursor on is there, and the others are those behind it
pub record FirstRow (cursor : ℕ) (rows : List StoredRow) (r : StoredRow) (rest : List StoredRow) : Type 0 where
  pub behind : rows_from (r.number + 1) rows ≡ rest
  pub values : values_in rows r.number ≡ Some r.row

heads : (x r : StoredRow) (xs rest : List StoredRow) → x ∷ xs ≡ r ∷ rest → (x ≡ r) × (xs ≡ rest)
heads x r xs rest is = (cc is, cc is)

first_here : (low next : ℕ) (x : StoredRow) (xs : List StoredRow) → RiseBelow low next (numbers_of (x ∷ xs)) → FirstRow x.number (x ∷ xs) x xs
first_here low next x xs rise = record {
  behind = from_later (x.number + 1) x xs (omega arith) ∙ all_from (x.number + 1) xs (rise_from x.number next (x.number + 1) xs rise.2 (omega arith));
  values = ap (λ (b : Bool). option_map (λ (r : StoredRow). r.row) (cond b (Some x) (row_in xs x.number))) (eq-eqb x.number x.number refl);
}

first_later : (cursor : ℕ) (x r : StoredRow) (xs rest : List StoredRow) → x.number < r.number → FirstRow cursor xs r rest → FirstRow cursor (x ∷ xs) r rest
first_later cursor x r xs rest lt f = record {
  behind = from_later (r.number + 1) x xs (omega (arith, lt)) ∙ f.behind;
  values = ap (λ (b : Bool). option_map (λ (q : StoredRow). q.row) (cond b (Some x) (row_in xs r.number))) (ne_eqb x.number r.number (λ same. omega (arith, same, lt))) ∙ f.values;
}

first_row : (low next cursor : ℕ) (rows : List StoredRow) (r : StoredRow) (rest : List StoredRow) → RiseBelow low next (numbers_of rows) → rows_from cursor rows ≡ r ∷ rest → FirstRow cursor rows r rest
first_row low next cursor [] r rest rise is = absurd (cc is)
first_row low next cursor (x ∷ xs) r rest rise is = elim (cases_lt x.number cursor) [
  | inl lt ↦
      let later = sym (from_later cursor x xs lt) ∙ is in
      let from = All-head (λ (q : StoredRow). cursor ≤ q.number) r rest (subst (λ qs. All (λ (q : StoredRow). cursor ≤ q.number) qs) later (are_from cursor xs)) in
      first_later cursor x r xs rest (omega (arith, lt, from)) (first_row x.number next cursor xs r rest rise.2 later)
  | inr le ↦
      let all = All-cons (λ (q : StoredRow). cursor ≤ q.number) x xs le (rise_from x.number next cursor xs rise.2 (omega (arith, le))) in
      let same = heads x r xs rest (sym (all_from cursor (x ∷ xs) all) ∙ is) in
      let here = first_here low next x xs rise in
      record {
        behind = ap (λ (q : StoredRow). rows_from (q.number + 1) (x ∷ xs)) (sym same.0) ∙ here.behind ∙ same.1;
        values = ap (λ (q : StoredRow). values_in (x ∷ xs) q.number) (sym same.0) ∙ here.values ∙ ap (λ (q : StoredRow). Some q.row) same.0;
      }
]

-- what the least number says of the rows from the cursor on
pub record LeastRow (table : TableState) (cursor number : ℕ) : Type 0 where
  pub r : StoredRow
  pub is : r.number ≡ number
  pub rows : rows_from cursor table.rows ≡ r ∷ rows_from (number + 1) table.rows
  pub values : values_in table.rows number ≡ Some r.row

from_first : (table : TableState) (cursor number : ℕ) (rows : List StoredRow) → IsValidTable table → rows_from cursor table.rows ≡ rows → first (numbers_of rows) ≡ Some number → LeastRow table cursor number
from_first table cursor number [] valid are is = absurd (cc is)
from_first table cursor number (r ∷ rest) valid are is =
    let f = first_row 0 table.next cursor table.rows r rest valid.numbers are in
    let same : r.number ≡ number = cc is in
    record { r = r; is = same; rows = are ∙ ap (λ qs. r ∷ qs) (sym f.behind) ∙ ap (λ n. r ∷ rows_from (n + 1) table.rows) same; values = ap (values_in table.rows) (sym same) ∙ f.values }

pub least_row : (table : TableState) (cursor number : ℕ) → IsValidTable table → least_from table.rows cursor ≡ Some number → LeastRow table cursor number
least_row table cursor number valid is =
    let rows = rows_from cursor table.rows in
    from_first table cursor number rows valid refl (sym (rising_first 0 table.next (numbers_of rows) (from_rises 0 table.next cursor table.rows valid.numbers)) ∙ is)

none_first : (rows : List StoredRow) → first (numbers_of rows) ≡ None → rows ≡ []
none_first [] is = refl
none_first (r ∷ rows) is = absurd (cc is)

pub none_left : (table : TableState) (cursor : ℕ) → IsValidTable table → least_from table.rows cursor ≡ None → rows_from cursor table.rows ≡ []
none_left table cursor valid is =
    let rows = rows_from cursor table.rows in
    none_first rows (sym (rising_first 0 table.next (numbers_of rows) (from_rises 0 table.next cursor table.rows valid.numbers)) ∙ is)

-- rows that were put, and those that are left to put
pub record RowsSoFar (table : TableState) (start most : ℕ) (before : List ℕ) (cursor left : ℕ) (out : List ℕ) : Type 0 where
  pub done : List Record
  pub out_is : out ≡ before ++ records_bytes done
  pub all : map (row_record table.columns) (taken most start table) ≡ done ++ map (row_record table.columns) (taken left cursor table)
  pub ends : cursor_after start (taken most start table) ≡ cursor_after cursor (taken left cursor table)

pub none_yet : (table : TableState) (start most : ℕ) (before : List ℕ) → RowsSoFar table start most before start most before
none_yet table start most before = record { done = []; out_is = sym (append-nil before); all = refl; ends = refl }

take_suc : {X : Type 0} (n : ℕ) (x : X) (xs : List X) → take (n + 1) (x ∷ xs) ≡ x ∷ take n xs
take_suc n x xs = ap (λ (k : ℕ). take k (x ∷ xs)) (plus_one n)
  where
    plus_one : (n : ℕ) → n + 1 ≡ suc n
    plus_one n = omega arith

pub one_more : (table : TableState) (start most : ℕ) (before : List ℕ) (cursor left : ℕ) (out after : List ℕ) (number : ℕ) → RowsSoFar table start most before cursor (left + 1) out → (l : LeastRow table cursor number)
    → after ≡ out ++ record_bytes (row_record table.columns l.r) → RowsSoFar table start most before (number + 1) left after
one_more table start most before cursor left out after number so l is =
    let rest = taken left (number + 1) table in
    let now : taken (left + 1) cursor table ≡ l.r ∷ rest = ap (take (left + 1)) l.rows ∙ take_suc left l.r (rows_from (number + 1) table.rows) in
    record {
      done = so.done ++ row_record table.columns l.r ∷ [];
      out_is = is ∙ ap (λ (bs : List ℕ). bs ++ record_bytes (row_record table.columns l.r)) so.out_is ∙ append_assoc before (records_bytes so.done) (record_bytes (row_record table.columns l.r)) ∙ ap (λ (bs : List ℕ). before ++ bs) (flat_map_more record_bytes [] so.done (row_record table.columns l.r));
      all = so.all ∙ ap (λ qs. so.done ++ map (row_record table.columns) qs) now ∙ sym (append_assoc so.done (row_record table.columns l.r ∷ []) (map (row_record table.columns) rest));
      ends = so.ends ∙ ap (cursor_after cursor) now ∙ ap (λ n. cursor_after (n + 1) rest) l.is;
    }

pub all_put : (table : TableState) (start most : ℕ) (before : List ℕ) (cursor left : ℕ) (out : List ℕ) → RowsSoFar table start most before cursor left out → taken left cursor table ≡ []
    → (cursor ≡ cursor_after start (taken most start table)) × (out ≡ before ++ records_bytes (map (row_record table.columns) (taken most start table)))
all_put table start most before cursor left out so none = (
  sym (so.ends ∙ ap (cursor_after cursor) none),
  so.out_is ∙ ap (λ rs. before ++ records_bytes rs) (sym (so.all ∙ ap (λ qs. so.done ++ map (row_record table.columns) qs) none ∙ append-nil so.done)),
)

-- such a row is one of the table's
pub least_fits : (table : TableState) (cursor number : ℕ) → IsValidTable table → (l : LeastRow table cursor number) → Fits table.columns l.r.row
least_fits table cursor number valid l =
    let fit = All-filter (is_from cursor) (λ (q : StoredRow). Fits table.columns q.row) table.rows valid.fit in
    All-head (λ (q : StoredRow). Fits table.columns q.row) l.r (rows_from (number + 1) table.rows) (subst (λ qs. All (λ (q : StoredRow). Fits table.columns q.row) qs) l.rows fit)

pub least_below : (table : TableState) (cursor number : ℕ) → IsValidTable table → (l : LeastRow table cursor number) → number < table.next
least_below table cursor number valid l =
    let rise = subst (λ qs. RiseBelow 0 table.next (numbers_of qs)) l.rows (from_rises 0 table.next cursor table.rows valid.numbers) in
    omega (arith, rise.1, l.is)

-- its values are those that a search by its number gives
pub row_given : (table : TableState) (cursor number : ℕ) → (l : LeastRow table cursor number) → (row : List Value) → Some row ≡ values_in table.rows number → row ≡ l.r.row
row_given table cursor number l row is = let same : Some row ≡ Some l.r.row = is ∙ l.values in cc same

pub row_missing : (table : TableState) (cursor number : ℕ) → (l : LeastRow table cursor number) → None ≡ values_in table.rows number → ⊥
row_missing table cursor number l is = let wrong : None ≡ Some l.r.row = is ∙ l.values in cc wrong

-- how the bytes of its record are put
pub record_given : (columns : List Column) (out after : List ℕ) (number : ℕ) (row : List Value) (r : StoredRow) → after ≡ out ++ record_bytes (record { head = Insert number None; columns = columns; row = row }) → r.number ≡ number → row ≡ r.row
    → after ≡ out ++ record_bytes (row_record columns r)
record_given columns out after number row r is number_is row_is = is ∙ (λ i. out ++ record_bytes (record { head = Insert (sym number_is i) None; columns = columns; row = row_is i }))

-- whether a row is left
none_of : (o : Option ℕ) → is_none o ≡ true → o ≡ None
none_of None is = refl
none_of (Some n) is = absurd (cc is)

pub none_left_iff : (table : TableState) (cursor : ℕ) (o : Option ℕ) (b : Bool) → IsValidTable table → o ≡ least_from table.rows cursor → b ≡ is_none o → (b ≡ true) ↔ (rows_from cursor table.rows ≡ [])
none_left_iff table cursor o b valid is b_is = (
  λ yes. none_left table cursor valid (sym is ∙ none_of o (sym b_is ∙ yes)),
  λ none. b_is ∙ ap is_none (is ∙ ap (λ rows. least (numbers_of rows)) none),
)

pub none_by_some : (o : Option ℕ) (b : Bool) → is_some o ≡ not b → b ≡ is_none o
none_by_some None true is = refl
none_by_some None false is = absurd (cc is)
none_by_some (Some n) true is = absurd (cc is)
none_by_some (Some n) false is = refl
