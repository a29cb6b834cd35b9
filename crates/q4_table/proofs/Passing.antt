-- Why a look may begin at a cursor, and what changes of a table leave its cursors true.
use Rattle.std.proofs.Common.{◌≡◌, ◌==◌, ◌<◌, ◌≤◌, ◌∷◌, [], List, ℕ, zero, suc, Bool, true, false, cond, not, Option, Some, None, All, find, take, min, unwrap_or, length, IsSome, IsSomeAnd, refl, sym, ap, subst, arith}
use Rattle.std.specs.Prelude.{nat_le}
use Rattle.std.specs.Option.{option_map}
use Rattle.std.proofs.lemmas.Bool.{eqb-true}
use Rattle.std.proofs.lemmas.List.Elements.{All-nil, All-cons, All-head, All-tail, All-map, All-filter, All-push, All-weaker}
use Rattle.q4_value.specs.declared.column.Column.{Column}
use Rattle.q4_value.specs.declared.row.Value.{Value}
use Rattle.q4_cond.specs.Tree.{Tree}
use Rattle.q4_cond.proofs.SameTrees.{same-equal}
use Rattle.q4_table.specs.declared.marks.Mark.{Mark}
use Rattle.q4_table.specs.declared.origin.Origin.{Origin}
use Rattle.q4_table.specs.declared.rows.StoredRow.{StoredRow}
use Rattle.q4_table.specs.Adding.{add_row}
use Rattle.q4_table.specs.Cursors.{Cursor, kept_limit, is_for, begin_of, without_tree, with_kept, with_moved, lowered_to, with_lowered, end_of_look}
use Rattle.q4_table.specs.Oldest.{IsFree, is_free, oldest_meeting}
use Rattle.q4_table.specs.Passed.{HasPassed}
use Rattle.q4_table.specs.Rows.{owned_by, with_owner, without_row, row_in, IsOwned, rows_from, numbers_of}
use Rattle.q4_table.specs.TableState.{TableState}
use Rattle.q4_table.specs.Valid.{RiseBelow, IsValidTable}
use Rattle.q4_table.proofs.Changes.{number, keeps_number}
use Rattle.q4_table.proofs.Looks.{passes_free, all_above, takes_oldest}
use Rattle.q4_table.proofs.Lookup.{found_key}
use Rattle.q4_table.proofs.Rising.{least_found}
use Rattle.q4_table.proofs.Searching.{filter_within, find_above, find_below}

-- No row before a number is free for the condition.
abbrev pub NoneBefore : List StoredRow → ℕ → Option Tree → Type 0
NoneBefore rows from tree = All (λ r. r.number < from → IsFree tree r → ⊥) rows

not_free : (tree : Option Tree) (r : StoredRow) (b : Bool) → is_free tree r ≡ b → (IsFree tree r → ⊥) → is_free tree r ≡ false
not_free tree r true is none = absurd (none (passes_free tree r is))
not_free tree r false is none = is

-- so a look that begins there finds what one from the front does
pub oldest-from : (rows : List StoredRow) (from : ℕ) (tree : Option Tree) → NoneBefore rows from tree → oldest_meeting (rows_from from rows) tree ≡ oldest_meeting rows tree
oldest-from rows from tree none =
    ap (λ rs. Rattle.q4_table.specs.Rows.least (numbers_of rs)) (filter_within (is_free tree) (λ r. nat_le from r.number) rows
    (All-weaker (λ (r : StoredRow). r.number < from → IsFree tree r → ⊥) (λ (r : StoredRow). nat_le from r.number ≡ false → is_free tree r ≡ false)
    (λ r before low. not_free tree r (is_free tree r) refl (before (below from r.number (nat_le from r.number) refl low))) rows none))
  where
    below : (a b : ℕ) (t : Bool) → nat_le a b ≡ t → t ≡ false → b < a
    below a b t is low = grind (arith, is, low)

-- a cursor that stands at the front has passed nothing
one_passed : (table : TableState) (tree : Option Tree) → IsValidTable table → HasPassed table (record { tree = tree; from = 1 })
one_passed table tree valid = record {
  positive = omega arith;
  inside = valid.begins;
  none_before = All-weaker (λ (r : StoredRow). 0 < r.number) (λ (r : StoredRow). r.number < 1 → IsFree tree r → ⊥) (λ r positive low free. omega (arith, positive, low)) table.rows (all_above 0 table.next table.rows valid.numbers);
}

begin_cases : (table : TableState) (tree : Option Tree) (c : Cursor) (cs : List Cursor) (b : Bool) → is_for tree c ≡ b → HasPassed table c → HasPassed table (record { tree = tree; from = begin_of cs tree })
    → HasPassed table (record { tree = tree; from = unwrap_or (option_map (λ (d : Cursor). d.from) (cond b (Some c) (find (is_for tree) cs))) 1 })
begin_cases table tree c cs true is here later = subst (λ (t : Option Tree). HasPassed table (record { tree = t; from = c.from })) (same-equal c.tree tree is) here
begin_cases table tree c cs false is here later = later

-- where a look begins
pub begin_passed : (table : TableState) (tree : Option Tree) (kept : List Cursor) → IsValidTable table → All (HasPassed table) kept → HasPassed table (record { tree = tree; from = begin_of kept tree })
begin_passed table tree [] valid passed = one_passed table tree valid
begin_passed table tree (c ∷ cs) valid passed =
    begin_cases table tree c cs (is_for tree c) refl (All-head (HasPassed table) c cs passed) (begin_passed table tree cs valid (All-tail (HasPassed table) c cs passed))

end_cases : (table : TableState) (tree : Option Tree) (o : Option StoredRow) → IsValidTable table → find (is_free tree) table.rows ≡ o → oldest_meeting table.rows tree ≡ option_map number o
    → HasPassed table (record { tree = tree; from = end_of_look table (option_map number o) })
end_cases table tree None valid is found = record {
  positive = valid.begins;
  inside = omega arith;
  none_before = All-weaker (λ (r : StoredRow). IsFree tree r → ⊥) (λ (r : StoredRow). r.number < table.next → IsFree tree r → ⊥) (λ r none low free. none free) table.rows
      (subst (Rattle.q4_table.specs.Oldest.TakesOldest table.rows tree) found (takes_oldest tree table.next table.rows valid.numbers));
}
end_cases table tree (Some x) valid is found =
    let oldest = subst (Rattle.q4_table.specs.Oldest.TakesOldest table.rows tree) found (takes_oldest tree table.next table.rows valid.numbers) in
    record {
      positive = omega (arith, find_above (is_free tree) 0 table.next table.rows x valid.numbers is);
      inside = omega (arith, find_below (is_free tree) 0 table.next table.rows x valid.numbers is);
      none_before = All-weaker (λ (r : StoredRow). IsFree tree r → x.number ≤ r.number) (λ (r : StoredRow). r.number < x.number → IsFree tree r → ⊥) (λ r least low free. let h : x.number ≤ r.number = least free in omega (arith, h, low)) table.rows oldest.least_number;
    }

-- where a look ends
pub end_passed : (table : TableState) (tree : Option Tree) → IsValidTable table → HasPassed table (record { tree = tree; from = end_of_look table (oldest_meeting table.rows tree) })
end_passed table tree valid =
    let found = least_found number (is_free tree) 0 table.next table.rows valid.numbers in
    subst (λ (o : Option ℕ). HasPassed table (record { tree = tree; from = end_of_look table o })) (sym found) (end_cases table tree (find (is_free tree) table.rows) valid refl found)

moved_cases : (table : TableState) (tree : Option Tree) (to : ℕ) (c : Cursor) (cs : List Cursor) (b : Bool) → is_for tree c ≡ b → HasPassed table (record { tree = tree; from = to }) → HasPassed table c → All (HasPassed table) cs
    → All (HasPassed table) (with_moved tree to cs) → All (HasPassed table) (cond b (record { tree = c.tree; from = to } ∷ cs) (c ∷ with_moved tree to cs))
moved_cases table tree to c cs true is there here others later =
    All-cons (HasPassed table) (record { tree = c.tree; from = to }) cs (subst (λ (t : Option Tree). HasPassed table (record { tree = t; from = to })) (sym (same-equal c.tree tree is)) there) others
moved_cases table tree to c cs false is there here others later = All-cons (HasPassed table) c (with_moved tree to cs) here later

pub passed-moved : (table : TableState) (tree : Option Tree) (to : ℕ) (kept : List Cursor) → HasPassed table (record { tree = tree; from = to }) → All (HasPassed table) kept → All (HasPassed table) (with_moved tree to kept)
passed-moved table tree to [] there passed = All-nil (HasPassed table)
passed-moved table tree to (c ∷ cs) there passed =
    let others = All-tail (HasPassed table) c cs passed in
    moved_cases table tree to c cs (is_for tree c) refl there (All-head (HasPassed table) c cs passed) others (passed-moved table tree to cs there others)

pub length-moved : (tree : Option Tree) (to : ℕ) (kept : List Cursor) → length (with_moved tree to kept) ≡ length kept
length-moved tree to [] = refl
length-moved tree to (c ∷ cs) = elim (is_for tree c) as (λ b. length (cond b (record { tree = c.tree; from = to } ∷ cs) (c ∷ with_moved tree to cs)) ≡ length (c ∷ cs)) [ true ↦ refl | false ↦ omega (arith, length-moved tree to cs) ]

passed_without : (table : TableState) (tree : Option Tree) (kept : List Cursor) → All (HasPassed table) kept → All (HasPassed table) (without_tree tree kept)
passed_without table tree [] passed = passed
passed_without table tree (c ∷ cs) passed =
    let others = All-tail (HasPassed table) c cs passed in
    elim (is_for tree c) as (λ b. All (HasPassed table) (cond b cs (c ∷ without_tree tree cs))) [
      | true ↦ others
      | false ↦ All-cons (HasPassed table) c (without_tree tree cs) (All-head (HasPassed table) c cs passed) (passed_without table tree cs others)
    ]

passed_take : (table : TableState) (n : ℕ) (kept : List Cursor) → All (HasPassed table) kept → All (HasPassed table) (take n kept)
passed_take table zero [] passed = passed
passed_take table (suc n) [] passed = passed
passed_take table zero (c ∷ cs) passed = All-nil (HasPassed table)
passed_take table (suc n) (c ∷ cs) passed = All-cons (HasPassed table) c (take n cs) (All-head (HasPassed table) c cs passed) (passed_take table n cs (All-tail (HasPassed table) c cs passed))

pub passed-kept : (table : TableState) (tree : Option Tree) (kept : List Cursor) → IsValidTable table → All (HasPassed table) kept → All (HasPassed table) (with_kept tree kept)
passed-kept table tree kept valid passed =
    let front : Cursor = record { tree = tree; from = begin_of kept tree } in
    passed_take table kept_limit (front ∷ without_tree tree kept) (All-cons (HasPassed table) front (without_tree tree kept) (begin_passed table tree kept valid passed) (passed_without table tree kept passed))

length_take : (n : ℕ) (kept : List Cursor) → length (take n kept) ≤ n
length_take zero [] = omega arith
length_take (suc n) [] = omega arith
length_take zero (c ∷ cs) = omega arith
length_take (suc n) (c ∷ cs) = omega (arith, length_take n cs)

pub length_taken : (n : ℕ) (kept : List Cursor) → length (take n kept) ≤ length kept
length_taken zero [] = omega arith
length_taken (suc n) [] = omega arith
length_taken zero (c ∷ cs) = omega arith
length_taken (suc n) (c ∷ cs) = omega (arith, length_taken n cs)

pub few-kept : (tree : Option Tree) (kept : List Cursor) → length (with_kept tree kept) ≤ kept_limit
few-kept tree kept = length_take kept_limit (record { tree = tree; from = begin_of kept tree } ∷ without_tree tree kept)

row_rises : (low next k : ℕ) (rows : List StoredRow) → RiseBelow low next (numbers_of rows) → (o : Option StoredRow) → row_in rows k ≡ o → IsSome o → low < k
row_rises low next k rows rise None is some = cc some
row_rises low next k rows rise (Some r) is some = omega (arith, find_above (λ x. x.number == k) low next rows r rise is, found_key number k rows r is)

-- the number of a row that is there
pub positive_there : (table : TableState) (k : ℕ) → IsValidTable table → IsSome (row_in table.rows k) → 1 ≤ k
positive_there table k valid some = row_rises 0 table.next k table.rows valid.numbers (row_in table.rows k) refl some

owned_cases : (o : Option StoredRow) → IsSomeAnd o (λ r. IsSome r.owner) → IsSome o
owned_cases None owned = absurd owned
owned_cases (Some r) owned = refl

pub owned_there : (rows : List StoredRow) (k : ℕ) → IsOwned rows k → IsSome (row_in rows k)
owned_there rows k owned = owned_cases (row_in rows k) owned

-- a change that leaves each cursor true
every : (t u : TableState) → ((c : Cursor) → HasPassed t c → HasPassed u c) → (kept : List Cursor) → All (HasPassed t) kept → All (HasPassed u) kept
every t u keeps kept passed = All-weaker (HasPassed t) (HasPassed u) keeps kept passed

pub passed-added : (table : TableState) (row : List Value) (origin : Option Origin) (kept : List Cursor) → All (HasPassed table) kept → All (HasPassed (add_row table row origin)) kept
passed-added table row origin kept passed = every table (add_row table row origin) (λ c here. record {
  positive = here.positive;
  inside = omega (arith, here.inside);
  none_before = All-push (λ (r : StoredRow). r.number < c.from → IsFree c.tree r → ⊥) table.rows (record { number = table.next; row = row; owner = None }) here.none_before (λ low free. omega (arith, low, here.inside));
}) kept passed

owned_free : (k session : ℕ) (tree : Option Tree) (r : StoredRow) (b : Bool) → IsFree tree (cond b (record { number = r.number; row = r.row; owner = Some session }) r) → IsFree tree r
owned_free k session tree r true free = absurd (let h : Some session ≡ None = free.unowned in cc h)
owned_free k session tree r false free = free

pub passed-owned : (table : TableState) (k session : ℕ) (kept : List Cursor) → All (HasPassed table) kept → All (HasPassed (record table { rows = with_owner k (Some session) table.rows })) kept
passed-owned table k session kept passed = every table (record table { rows = with_owner k (Some session) table.rows }) (λ c here. record {
  positive = here.positive;
  inside = here.inside;
  none_before = All-map (λ (r : StoredRow). r.number < c.from → IsFree c.tree r → ⊥) (owned_by k (Some session)) table.rows
      (All-weaker (λ (r : StoredRow). r.number < c.from → IsFree c.tree r → ⊥) (λ (r : StoredRow). (owned_by k (Some session) r).number < c.from → IsFree c.tree (owned_by k (Some session) r) → ⊥)
      (λ r before low free. before (omega (arith, low, keeps_number k (Some session) r)) (owned_free k session c.tree r (r.number == k) free)) table.rows here.none_before);
}) kept passed

released_cases : (k from : ℕ) (tree : Option Tree) (r : StoredRow) (b : Bool) → (r.number == k) ≡ b → r.number < min from k → (r.number < from → IsFree tree r → ⊥) → IsFree tree (cond b (record { number = r.number; row = r.row; owner = None }) r) → ⊥
released_cases k from tree r true same low before free = omega (arith, eqb-true r.number k same, low)
released_cases k from tree r false other low before free = before (omega (arith, low)) free

pub passed-released : (table : TableState) (k : ℕ) (kept : List Cursor) → 1 ≤ k → All (HasPassed table) kept → All (HasPassed (record table { rows = with_owner k None table.rows })) (with_lowered k kept)
passed-released table k kept positive passed = All-map (HasPassed (record table { rows = with_owner k None table.rows })) (lowered_to k) kept
    (All-weaker (HasPassed table) (λ (c : Cursor). HasPassed (record table { rows = with_owner k None table.rows }) (lowered_to k c)) (λ c here. record {
      positive = omega (arith, here.positive, positive);
      inside = omega (arith, here.inside);
      none_before = All-map (λ (r : StoredRow). r.number < min c.from k → IsFree c.tree r → ⊥) (owned_by k None) table.rows
          (All-weaker (λ (r : StoredRow). r.number < c.from → IsFree c.tree r → ⊥) (λ (r : StoredRow). (owned_by k None r).number < min c.from k → IsFree c.tree (owned_by k None r) → ⊥)
          (λ r before low free. released_cases k c.from c.tree r (r.number == k) refl (omega (arith, low, keeps_number k None r)) before free) table.rows here.none_before);
    }) kept passed)

pub passed-removed : (table : TableState) (k : ℕ) (kept : List Cursor) → All (HasPassed table) kept → All (HasPassed (record table { rows = without_row k table.rows })) kept
passed-removed table k kept passed = every table (record table { rows = without_row k table.rows }) (λ c here. record {
  positive = here.positive;
  inside = here.inside;
  none_before = All-filter (λ (r : StoredRow). not (r.number == k)) (λ (r : StoredRow). r.number < c.from → IsFree c.tree r → ⊥) table.rows here.none_before;
}) kept passed

pub passed-next : (table : TableState) (next : ℕ) (kept : List Cursor) → table.next ≤ next → All (HasPassed table) kept → All (HasPassed (record table { next = next })) kept
passed-next table next kept rises passed = every table (record table { next = next }) (λ c here. record { positive = here.positive; inside = omega (arith, here.inside, rises); none_before = here.none_before }) kept passed

pub passed-marked : (table : TableState) (marks : List Mark) (kept : List Cursor) → All (HasPassed table) kept → All (HasPassed (record table { marks = marks })) kept
passed-marked table marks kept passed = every table (record table { marks = marks }) (λ c here. record { positive = here.positive; inside = here.inside; none_before = here.none_before }) kept passed

pub passed-wider : (table : TableState) (columns : List Column) (kept : List Cursor) → All (HasPassed table) kept → All (HasPassed (record table { columns = columns })) kept
passed-wider table columns kept passed = every table (record table { columns = columns }) (λ c here. record { positive = here.positive; inside = here.inside; none_before = here.none_before }) kept passed
