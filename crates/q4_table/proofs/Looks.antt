-- The least number is that of the oldest free row.
use Rattle.std.proofs.Common.{◌≡◌, ◌==◌, ◌<◌, ◌≤◌, ◌∷◌, ◌∙◌, [], List, ℕ, Bool, true, false, cond, ◌&&◌, Option, Some, None, IsTrue, All, find, is_none, refl, sym, ap, subst, arith}
use Rattle.std.specs.Option.{option_map}
use Rattle.std.proofs.lemmas.Bool.{ne_eqb, eq-eqb}
use Rattle.std.proofs.lemmas.List.Elements.{All-nil, All-cons, All-weaker}
use Rattle.q4_cond.specs.Tree.{Tree}
use Rattle.q4_cond.specs.Values.{meets}
use Rattle.q4_table.specs.declared.rows.StoredRow.{StoredRow}
use Rattle.q4_table.specs.Oldest.{is_free, oldest_meeting, IsFree, TakesOldest}
use Rattle.q4_table.specs.Rows.{row_in, numbers_of}
use Rattle.q4_table.specs.Valid.{RiseBelow}
use Rattle.q4_table.proofs.Changes.{number}
use Rattle.q4_table.proofs.Lookup.{some_of}
use Rattle.q4_table.proofs.Places.{none_some}
use Rattle.q4_table.proofs.Rising.{least_found}

none_cases : (p : StoredRow → Bool) (r : StoredRow) (rows : List StoredRow) (b : Bool) → p r ≡ b → cond b (Some r) (find p rows) ≡ None → (find p rows ≡ None → All (λ x. p x ≡ true → ⊥) rows)
    → All (λ x. p x ≡ true → ⊥) (r ∷ rows)
none_cases p r rows true test is later = absurd (none_some r (sym is))
none_cases p r rows false test is later = All-cons (λ (x : StoredRow). p x ≡ true → ⊥) r rows (λ passes. let h : false ≡ true = sym test ∙ passes in cc h) (later is)

-- no row passes a test where none is found
none_passes : (p : StoredRow → Bool) (rows : List StoredRow) → find p rows ≡ None → All (λ x. p x ≡ true → ⊥) rows
none_passes p [] is = All-nil (λ (x : StoredRow). p x ≡ true → ⊥)
none_passes p (r ∷ rows) is = none_cases p r rows (p r) refl is (none_passes p rows)

pub all_above : (low next : ℕ) (rows : List StoredRow) → RiseBelow low next (numbers_of rows) → All (λ x. low < x.number) rows
all_above low next [] rise = All-nil (λ (x : StoredRow). low < x.number)
all_above low next (r ∷ rows) rise =
    All-cons (λ (x : StoredRow). low < x.number) r rows rise.0
    (All-weaker (λ (x : StoredRow). r.number < x.number) (λ (x : StoredRow). low < x.number) (λ x above. let h : r.number < x.number = above in omega (arith, h, rise.0)) rows (all_above r.number next rows rise.2))

-- the first row that passes a test: it is found by its number, and no row that passes has a lesser one
record IsFirst (p : StoredRow → Bool) (low : ℕ) (rows : List StoredRow) (r : StoredRow) : Type 0 where
  above : low < r.number
  there : row_in rows r.number ≡ Some r
  passes : p r ≡ true
  first : All (λ x. p x ≡ true → r.number ≤ x.number) rows

first_cases : (p : StoredRow → Bool) (low next : ℕ) (x : StoredRow) (rows : List StoredRow) (r : StoredRow) → RiseBelow low next (numbers_of (x ∷ rows)) → (b : Bool) → p x ≡ b → cond b (Some x) (find p rows) ≡ Some r
    → (find p rows ≡ Some r → IsFirst p x.number rows r) → IsFirst p low (x ∷ rows) r
first_cases p low next x rows r rise true test is later =
    let same : x ≡ r = some_of x r is in
    subst (λ (y : StoredRow). IsFirst p low (x ∷ rows) y) same (record {
      above = rise.0;
      there = ap (λ (b : Bool). cond b (Some x) (row_in rows x.number)) (eq-eqb x.number x.number refl);
      passes = test;
      first = All-cons (λ (y : StoredRow). p y ≡ true → x.number ≤ y.number) x rows (λ _. omega arith)
          (All-weaker (λ (y : StoredRow). x.number < y.number) (λ (y : StoredRow). p y ≡ true → x.number ≤ y.number) (λ y above _. let h : x.number < y.number = above in omega (arith, h)) rows (all_above x.number next rows rise.2));
    })
first_cases p low next x rows r rise false test is later =
    let rest = later is in
    let differs : (x.number == r.number) ≡ false = ne_eqb x.number r.number (λ e. omega (arith, e, rest.above)) in
    record {
      above = omega (arith, rest.above, rise.0);
      there = ap (λ (b : Bool). cond b (Some x) (row_in rows r.number)) differs ∙ rest.there;
      passes = rest.passes;
      first = All-cons (λ (y : StoredRow). p y ≡ true → r.number ≤ y.number) x rows (λ passes. let h : false ≡ true = sym test ∙ passes in cc h) rest.first;
    }

first_is : (p : StoredRow → Bool) (low next : ℕ) (rows : List StoredRow) (r : StoredRow) → RiseBelow low next (numbers_of rows) → find p rows ≡ Some r → IsFirst p low rows r
first_is p low next [] r rise is = absurd (none_some r is)
first_is p low next (x ∷ rows) r rise is = first_cases p low next x rows r rise (p x) refl is (first_is p x.number next rows r rise.2)

pub free_passes : (tree : Option Tree) (r : StoredRow) → IsFree tree r → is_free tree r ≡ true
free_passes tree r free = ap (λ o. is_none o && meets r.row tree) free.unowned ∙ free.meets_it

owner_cases : (owner : Option ℕ) (meeting : Bool) → (is_none owner && meeting) ≡ true → (owner ≡ None) × IsTrue meeting
owner_cases None meeting is = (refl, is)
owner_cases (Some session) meeting is = cc is

pub passes_free : (tree : Option Tree) (r : StoredRow) → is_free tree r ≡ true → IsFree tree r
passes_free tree r is =
    let both = owner_cases r.owner (meets r.row tree) is in
    record { unowned = both.0; meets_it = both.1 }

takes_cases : (tree : Option Tree) (next : ℕ) (rows : List StoredRow) (o : Option StoredRow) → RiseBelow 0 next (numbers_of rows) → find (is_free tree) rows ≡ o → TakesOldest rows tree (option_map number o)
takes_cases tree next rows None rise is =
    All-weaker (λ (x : StoredRow). is_free tree x ≡ true → ⊥) (λ (x : StoredRow). IsFree tree x → ⊥) (λ x none free. none (free_passes tree x free)) rows (none_passes (is_free tree) rows is)
takes_cases tree next rows (Some r) rise is =
    let first = first_is (is_free tree) 0 next rows r rise is in
    record {
      free = rw first.there (passes_free tree r first.passes);
      least_number = All-weaker (λ (x : StoredRow). is_free tree x ≡ true → r.number ≤ x.number) (λ (x : StoredRow). IsFree tree x → r.number ≤ x.number) (λ x least free. least (free_passes tree x free)) rows first.first;
    }

-- where numbers rise
pub takes_oldest : (tree : Option Tree) (next : ℕ) (rows : List StoredRow) → RiseBelow 0 next (numbers_of rows) → TakesOldest rows tree (oldest_meeting rows tree)
takes_oldest tree next rows rise = subst (TakesOldest rows tree) (sym (least_found number (is_free tree) 0 next rows rise)) (takes_cases tree next rows (find (is_free tree) rows) rise refl)
