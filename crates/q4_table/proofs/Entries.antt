-- The rows as entries of a map by number: what a look-up finds, and what a change of the entries does to the list of rows.
use Rattle.std.proofs.Common.{◌≡◌, ◌==◌, ◌<◌, ◌+◌, ◌++◌, ◌∷◌, ◌∙◌, ◌&&◌, [], List, ℕ, Bool, true, false, cond, not, Option, Some, filter, All, refl, sym, ap, arith}
use Rattle.std.specs.Prelude.{nat_le}
use Rattle.std.specs.Ordering.{nat_cmp, is_le, match_ordering}
use Rattle.std.specs.declared.cmp.Ordering.TheVariants.{Greater}
use Rattle.std.specs.declared.ops.Bound.TheVariants.{Included, Unbounded}
use Rattle.std.specs.Cmp.{nat_cmp_is}
use Rattle.std.specs.Map.{lookup, remove_entry, set_value, values_of, keys_of}
use Rattle.std.specs.BTreeMap.{is_at, insert_entry}
use Rattle.std.specs.BTreeMap.Range.{entries_between}
use Rattle.std.proofs.lemmas.Bool.{eqb-true}
use Rattle.std.proofs.lemmas.List.{map-append}
use Rattle.std.proofs.lemmas.List.Elements.{All-nil, All-cons, All-head, All-tail, All-append}
use Rattle.q4_table.specs.declared.rows.StoredRow.{StoredRow}
use Rattle.q4_table.specs.Adding.{number_limit}
use Rattle.q4_table.specs.Numbered.{IsNumbered}
use Rattle.q4_table.specs.Rows.{row_in, owned_by, with_owner, without_row, numbers_of, rows_from, least_from}
use Rattle.q4_table.specs.Valid.{RiseBelow}
use Rattle.q4_table.proofs.Changes.{number, others_keep, rise-owned}
use Rattle.q4_table.proofs.Lookup.{some_of, found_key}
use Rattle.q4_table.proofs.Places.{none_some, map_above, without_above}
use Rattle.q4_table.proofs.Rising.{first, rising_first, rise-filter, rise-push, rise_wider}

abbrev pub Entry : Type 0
Entry = ℕ × StoredRow

-- the row stands under its number
abbrev pub IsKeyed : Entry → Type 0
IsKeyed e = e.1.number ≡ e.0

-- whether a key is the one looked for
abbrev pub at : ℕ → ℕ → Bool
at k = is_at (nat_cmp k)

at_eqb : (k n : ℕ) → at k n ≡ (n == k)
at_eqb k n = grind arith

from_le : (k n : ℕ) → (is_le (nat_cmp k n) && not false) ≡ nat_le k n
from_le k n = grind arith

above_greater : (k n : ℕ) → n < k → nat_cmp k n ≡ Greater
above_greater k n low = sym (nat_cmp_is k n Greater low)

at_number : (k : ℕ) (e : Entry) → IsKeyed e → at k e.0 ≡ (e.1.number == k)
at_number k e keyed = at_eqb k e.0 ∙ ap (λ n. n == k) (sym keyed)

-- a row is looked up by its number
pub lookup-row_in : (k : ℕ) (es : List Entry) → All IsKeyed es → lookup (at k) es ≡ row_in (values_of es) k
lookup-row_in k [] keyed = refl
lookup-row_in k (e ∷ es) keyed =
    ap (λ (b : Bool). cond b (Some e.1) (lookup (at k) es)) (at_number k e (All-head IsKeyed e es keyed))
    ∙ ap (λ o. cond (e.1.number == k) (Some e.1) o) (lookup-row_in k es (All-tail IsKeyed e es keyed))

without_step : (low next k : ℕ) (e : Entry) (es : List Entry) → RiseBelow low next (numbers_of (values_of (e ∷ es))) → (b : Bool) → (e.1.number == k) ≡ b
    → values_of (remove_entry (at k) es) ≡ without_row k (values_of es)
    → values_of (cond b es (e ∷ remove_entry (at k) es)) ≡ cond (not b) (e.1 ∷ without_row k (values_of es)) (without_row k (values_of es))
without_step low next k e es rise true same later =
    let is : e.1.number ≡ k = eqb-true e.1.number k same in
    sym (without_above number e.1.number next k (values_of es) (omega (arith, is)) rise.2)
without_step low next k e es rise false other later = ap (λ rs. e.1 ∷ rs) later

-- without one entry, the list is without the row of its number
pub values-removed : (low next k : ℕ) (es : List Entry) → All IsKeyed es → RiseBelow low next (numbers_of (values_of es)) → values_of (remove_entry (at k) es) ≡ without_row k (values_of es)
values-removed low next k [] keyed rise = refl
values-removed low next k (e ∷ es) keyed rise =
    ap (λ (b : Bool). values_of (cond b es (e ∷ remove_entry (at k) es))) (at_number k e (All-head IsKeyed e es keyed))
    ∙ without_step low next k e es rise (e.1.number == k) refl (values-removed e.1.number next k es (All-tail IsKeyed e es keyed) rise.2)

keyed-removed : (k : ℕ) (es : List Entry) → All IsKeyed es → All IsKeyed (remove_entry (at k) es)
keyed-removed k [] keyed = keyed
keyed-removed k (e ∷ es) keyed = elim (at k e.0) as (λ b. All IsKeyed (cond b es (e ∷ remove_entry (at k) es))) [
  | true ↦ All-tail IsKeyed e es keyed
  | false ↦ All-cons IsKeyed e (remove_entry (at k) es) (All-head IsKeyed e es keyed) (keyed-removed k es (All-tail IsKeyed e es keyed))
]

pub numbered-removed : (k : ℕ) (es : List Entry) → IsNumbered es → IsNumbered (remove_entry (at k) es)
numbered-removed k es is = record {
  keyed = keyed-removed k es is.keyed;
  rise = rw (values-removed 0 number_limit k es is.keyed is.rise) (rise-filter number (λ r. not (r.number == k)) 0 number_limit (values_of es) is.rise);
}

-- an entry whose number is greater than the others comes in behind them
pub entry-pushed : (low k : ℕ) (es : List Entry) (r : StoredRow) → All IsKeyed es → RiseBelow low k (numbers_of (values_of es)) → insert_entry nat_cmp es k r ≡ es ++ (k, r) ∷ []
entry-pushed low k [] r keyed rise = refl
entry-pushed low k (e ∷ es) r keyed rise =
    let is : e.1.number ≡ e.0 = All-head IsKeyed e es keyed in
    let greater = above_greater k e.0 (omega (arith, is, rise.1)) in
    ap (λ o. match_ordering o ((k, r) ∷ e ∷ es) ((e.0, r) ∷ es) (e ∷ insert_entry nat_cmp es k r)) greater
    ∙ ap (λ (rest : List Entry). e ∷ rest) (entry-pushed e.1.number k es r (All-tail IsKeyed e es keyed) rise.2)

owner_step : (low next k : ℕ) (owner : Option ℕ) (e : Entry) (es : List Entry) (r : StoredRow) → RiseBelow low next (numbers_of (values_of (e ∷ es))) → (b : Bool) → (e.1.number == k) ≡ b
    → cond b (Some e.1) (lookup (at k) es) ≡ Some r
    → (lookup (at k) es ≡ Some r → values_of (set_value (at k) es (record { number = r.number; row = r.row; owner = owner })) ≡ with_owner k owner (values_of es))
    → values_of (cond b ((e.0, record { number = r.number; row = r.row; owner = owner }) ∷ es) (e ∷ set_value (at k) es (record { number = r.number; row = r.row; owner = owner })))
    ≡ cond b (record { number = e.1.number; row = e.1.row; owner = owner }) e.1 ∷ with_owner k owner (values_of es)
owner_step low next k owner e es r rise true same there later =
    let is : e.1.number ≡ k = eqb-true e.1.number k same in
    ap (λ (x : StoredRow). record { number = x.number; row = x.row; owner = owner } ∷ values_of es) (sym (some_of e.1 r there))
    ∙ ap (λ rs. record { number = e.1.number; row = e.1.row; owner = owner } ∷ rs) (sym (map_above number (owned_by k owner) e.1.number next k (values_of es) (others_keep k owner) (omega (arith, is)) rise.2))
owner_step low next k owner e es r rise false other there later = ap (λ rs. e.1 ∷ rs) (later there)

-- where the row of a number has another owner written to it, the list has it owned so
pub values-owned : (low next k : ℕ) (owner : Option ℕ) (es : List Entry) (r : StoredRow) → All IsKeyed es → RiseBelow low next (numbers_of (values_of es)) → lookup (at k) es ≡ Some r
    → values_of (set_value (at k) es (record { number = r.number; row = r.row; owner = owner })) ≡ with_owner k owner (values_of es)
values-owned low next k owner [] r keyed rise there = absurd (none_some r there)
values-owned low next k owner (e ∷ es) r keyed rise there =
    let same = at_number k e (All-head IsKeyed e es keyed) in
    let w : StoredRow = record { number = r.number; row = r.row; owner = owner } in
    ap (λ (b : Bool). values_of (cond b ((e.0, w) ∷ es) (e ∷ set_value (at k) es w))) same
    ∙ owner_step low next k owner e es r rise (e.1.number == k) refl (ap (λ (b : Bool). cond b (Some e.1) (lookup (at k) es)) (sym same) ∙ there)
    (values-owned e.1.number next k owner es r (All-tail IsKeyed e es keyed) rise.2)

keyed_step : (k : ℕ) (e : Entry) (es : List Entry) (w : StoredRow) → IsKeyed e → All IsKeyed es → w.number ≡ k → (b : Bool) → at k e.0 ≡ b → All IsKeyed (set_value (at k) es w)
    → All IsKeyed (cond b ((e.0, w) ∷ es) (e ∷ set_value (at k) es w))
keyed_step k e es w here keyed is true same later =
    let key : e.0 ≡ k = eqb-true e.0 k (sym (at_eqb k e.0) ∙ same) in
    All-cons IsKeyed (e.0, w) es (is ∙ sym key) keyed
keyed_step k e es w here keyed is false same later = All-cons IsKeyed e (set_value (at k) es w) here later

keyed-set : (k : ℕ) (es : List Entry) (w : StoredRow) → All IsKeyed es → w.number ≡ k → All IsKeyed (set_value (at k) es w)
keyed-set k [] w keyed is = keyed
keyed-set k (e ∷ es) w keyed is =
    keyed_step k e es w (All-head IsKeyed e es keyed) (All-tail IsKeyed e es keyed) is (at k e.0) refl (keyed-set k es w (All-tail IsKeyed e es keyed) is)

-- where rows rise around one, its number lies between, and those before it rise below it
pub rise-middle : (low next : ℕ) (front back : List StoredRow) (r : StoredRow) → RiseBelow low next (numbers_of (front ++ r ∷ back)) → (low < r.number) × (r.number < next) × RiseBelow low r.number (numbers_of front)
rise-middle low next [] back r rise = (rise.0, rise.1, tt)
rise-middle low next (x ∷ front) back r rise =
    let rest = rise-middle x.number next front back r rise.2 in
    (omega (arith, rise.0, rest.0), rest.1, (rise.0, rest.0, rest.2))

pub numbered-owned : (k : ℕ) (owner : Option ℕ) (es : List Entry) (r : StoredRow) → IsNumbered es → lookup (at k) es ≡ Some r → IsNumbered (set_value (at k) es (record { number = r.number; row = r.row; owner = owner }))
numbered-owned k owner es r is there =
    let same : r.number ≡ k = found_key number k (values_of es) r (sym (lookup-row_in k es is.keyed) ∙ there) in
    record {
      keyed = keyed-set k es (record { number = r.number; row = r.row; owner = owner }) is.keyed same;
      rise = rw (values-owned 0 number_limit k owner es r is.keyed is.rise there) (rise-owned 0 number_limit k owner (values_of es) is.rise);
    }

pub values-pushed : (low k : ℕ) (es : List Entry) (r : StoredRow) → All IsKeyed es → RiseBelow low k (numbers_of (values_of es)) → values_of (insert_entry nat_cmp es k r) ≡ values_of es ++ r ∷ []
values-pushed low k es r keyed rise = ap values_of (entry-pushed low k es r keyed rise) ∙ map-append (λ (e : Entry). e.1) es ((k, r) ∷ [])

pub numbered-pushed : (es : List Entry) (r : StoredRow) → IsNumbered es → 0 < r.number → r.number < number_limit → RiseBelow 0 r.number (numbers_of (values_of es)) → IsNumbered (insert_entry nat_cmp es r.number r)
numbered-pushed es r is positive limit above = record {
  keyed = rw (entry-pushed 0 r.number es r is.keyed above) (All-append IsKeyed es ((r.number, r) ∷ []) is.keyed (All-cons IsKeyed (r.number, r) [] refl (All-nil IsKeyed)));
  rise = rw (values-pushed 0 r.number es r is.keyed above, map-append)
      (rise_wider 0 0 (r.number + 1) number_limit _ (omega arith) (omega (arith, limit)) (rise-push 0 r.number (numbers_of (values_of es)) positive above));
}

from_step : (k : ℕ) (e : Entry) (es : List Entry) → IsKeyed e → numbers_of (filter (λ r. nat_le k r.number) (values_of es)) ≡ keys_of (entries_between nat_cmp (Included k) Unbounded es)
    → (b : Bool) → numbers_of (cond b (e.1 ∷ filter (λ r. nat_le k r.number) (values_of es)) (filter (λ r. nat_le k r.number) (values_of es)))
    ≡ keys_of (cond b (e ∷ entries_between nat_cmp (Included k) Unbounded es) (entries_between nat_cmp (Included k) Unbounded es))
from_step k e es keyed later true = ap (λ n. n ∷ numbers_of (filter (λ r. nat_le k r.number) (values_of es))) keyed ∙ ap (λ ns. e.0 ∷ ns) later
from_step k e es keyed later false = later

values_step : (k : ℕ) (e : Entry) (es fs : List Entry) (rows : List StoredRow) → values_of fs ≡ rows → (b : Bool) → values_of (cond b (e ∷ fs) fs) ≡ cond b (e.1 ∷ rows) rows
values_step k e es fs rows later true = ap (λ rs. e.1 ∷ rs) later
values_step k e es fs rows later false = later

-- the rows from a number on are those of the entries from it on
pub values-from : (k : ℕ) (es : List Entry) → All IsKeyed es → values_of (entries_between nat_cmp (Included k) Unbounded es) ≡ rows_from k (values_of es)
values-from k [] keyed = refl
values-from k (e ∷ es) keyed =
    let fs = entries_between nat_cmp (Included k) Unbounded es in
    let later = values-from k es (All-tail IsKeyed e es keyed) in
    values_step k e es fs (rows_from k (values_of es)) later (is_le (nat_cmp k e.0) && not false)
    ∙ ap (λ (b : Bool). cond b (e.1 ∷ rows_from k (values_of es)) (rows_from k (values_of es))) (from_le k e.0 ∙ ap (nat_le k) (sym (All-head IsKeyed e es keyed)))

-- the numbers from one on are the keys of the entries from it on
keys-from : (k : ℕ) (es : List Entry) → All IsKeyed es → numbers_of (filter (λ r. nat_le k r.number) (values_of es)) ≡ keys_of (entries_between nat_cmp (Included k) Unbounded es)
keys-from k [] keyed = refl
keys-from k (e ∷ es) keyed =
    let here = All-head IsKeyed e es keyed in
    from_step k e es here (keys-from k es (All-tail IsKeyed e es keyed)) (nat_le k e.1.number)
    ∙ ap (λ (b : Bool). keys_of (cond b (e ∷ entries_between nat_cmp (Included k) Unbounded es) (entries_between nat_cmp (Included k) Unbounded es))) (ap (nat_le k) here ∙ sym (from_le k e.0))

-- the least number from one on is the first key from it on
pub least-first : (k : ℕ) (es : List Entry) → IsNumbered es → least_from (values_of es) k ≡ first (keys_of (entries_between nat_cmp (Included k) Unbounded es))
least-first k es is =
    rising_first 0 number_limit (numbers_of (filter (λ r. nat_le k r.number) (values_of es))) (rise-filter number (λ r. nat_le k r.number) 0 number_limit (values_of es) is.rise)
    ∙ ap first (keys-from k es is.keyed)
