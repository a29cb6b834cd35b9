-- A search of rows that rise asks of each row without an owner, up to the row that it finds, once at most.
use Rattle.std.proofs.Common.{◌≡◌, ◌<◌, ◌≤◌, ◌+◌, ◌∷◌, ◌∙◌, ◌&&◌, [], List, ℕ, Bool, true, false, cond, Option, Some, None, filter, find, length, is_none, le-leb, All, refl, sym, ap, subst, arith}
use Rattle.std.specs.Option.{option_map}
use Rattle.std.specs.Prelude.{nat_le}
use Rattle.q4_cond.specs.Tree.{Tree}
use Rattle.q4_cond.specs.Values.{meets}
use Rattle.q4_table.specs.declared.rows.StoredRow.{StoredRow}
use Rattle.q4_table.specs.Oldest.{is_free, is_looked_at, unowned_to}
use Rattle.std.proofs.lemmas.Bool.{leb-true}
use Rattle.std.proofs.lemmas.List.Elements.{All-nil, All-cons, All-head, All-tail}
use Rattle.q4_table.specs.Rows.{numbers_of, rows_from}
use Rattle.q4_table.specs.Searching.{asked}
use Rattle.q4_table.specs.Valid.{RiseBelow}
use Rattle.q4_table.proofs.Changes.{number}
use Rattle.q4_table.proofs.Lookup.{some_of}
use Rattle.q4_table.proofs.Places.{none_some}

above_step : (p : StoredRow → Bool) (low : ℕ) (r : StoredRow) (rows : List StoredRow) (x : StoredRow) → low < r.number → (b : Bool) → cond b (Some r) (find p rows) ≡ Some x
    → (find p rows ≡ Some x → r.number < x.number) → low < x.number
above_step p low r rows x above true is later = omega (arith, ap number (some_of r x is), above)
above_step p low r rows x above false is later = omega (arith, later is, above)

-- what is found among rows that rise lies above where they begin
pub find_above : (p : StoredRow → Bool) (low next : ℕ) (rows : List StoredRow) (x : StoredRow) → RiseBelow low next (numbers_of rows) → find p rows ≡ Some x → low < x.number
find_above p low next [] x rise is = absurd (none_some x is)
find_above p low next (r ∷ rows) x rise is = above_step p low r rows x rise.0 (p r) is (find_above p r.number next rows x rise.2)

-- that one row more is asked, and is one of those that are looked at
counted : (r : StoredRow) (rest : List StoredRow) (b : Bool) (n : ℕ) → b ≡ true → n ≤ length rest → 1 + n ≤ length (cond (true && b) (r ∷ rest) rest)
counted r rest true n is few = omega (arith, few)
counted r rest false n is few = cc is

both : (from a b : ℕ) → from ≤ a → a ≤ b → (nat_le from a && nat_le a b) ≡ true
both from a b low high = grind (arith, low, high)

asked_step : (tree : Option Tree) (from : ℕ) (r : StoredRow) (rows : List StoredRow) (unowned meeting : Bool) (o : Option StoredRow) → cond (unowned && meeting) (Some r) (find (is_free tree) rows) ≡ o → from ≤ r.number
    → ((x : StoredRow) → find (is_free tree) rows ≡ Some x → r.number < x.number)
    → (find (is_free tree) rows ≡ o → asked tree rows ≤ length (unowned_to rows from (option_map number o)))
    → cond unowned (1 + cond meeting 0 (asked tree rows)) (asked tree rows)
    ≤ length (cond (unowned && is_looked_at from (option_map number o) r.number) (r ∷ unowned_to rows from (option_map number o)) (unowned_to rows from (option_map number o)))
asked_step tree from r rows false meeting o is low behind later = later is
asked_step tree from r rows true true o is low behind later =
    subst (λ found. 1 ≤ length (cond (is_looked_at from (option_map number found) r.number) (r ∷ unowned_to rows from (option_map number found)) (unowned_to rows from (option_map number found)))) is
    (counted r (unowned_to rows from (Some r.number)) (nat_le from r.number && nat_le r.number r.number) 0 (both from r.number r.number low (omega arith)) (omega arith))
asked_step tree from r rows true false None is low behind later = counted r (unowned_to rows from None) (nat_le from r.number) (asked tree rows) (le-leb from r.number low) (later is)
asked_step tree from r rows true false (Some x) is low behind later =
    counted r (unowned_to rows from (Some x.number)) (nat_le from r.number && nat_le r.number x.number) (asked tree rows) (both from r.number x.number low (omega (arith, behind x is))) (later is)

-- where each row has at least the number that a search begins at
pub asked-unowned : (tree : Option Tree) (from low next : ℕ) (rows : List StoredRow) (o : Option StoredRow) → All (λ r. from ≤ r.number) rows → RiseBelow low next (numbers_of rows) → find (is_free tree) rows ≡ o
    → asked tree rows ≤ length (unowned_to rows from (option_map number o))
asked-unowned tree from low next [] o behind rise is = omega arith
asked-unowned tree from low next (r ∷ rows) o behind rise is =
    asked_step tree from r rows (is_none r.owner) (meets r.row tree) o is (All-head (λ (x : StoredRow). from ≤ x.number) r rows behind) (λ x found. find_above (is_free tree) r.number next rows x rise.2 found)
    (asked-unowned tree from r.number next rows o (All-tail (λ (x : StoredRow). from ≤ x.number) r rows behind) rise.2)

below_step : (p : StoredRow → Bool) (next : ℕ) (r : StoredRow) (rows : List StoredRow) (x : StoredRow) → r.number < next → (b : Bool) → cond b (Some r) (find p rows) ≡ Some x → (find p rows ≡ Some x → x.number < next) → x.number < next
below_step p next r rows x below true is later = omega (arith, ap number (some_of r x is), below)
below_step p next r rows x below false is later = later is

-- and below the number that they rise to
pub find_below : (p : StoredRow → Bool) (low next : ℕ) (rows : List StoredRow) (x : StoredRow) → RiseBelow low next (numbers_of rows) → find p rows ≡ Some x → x.number < next
find_below p low next [] x rise is = absurd (none_some x is)
find_below p low next (r ∷ rows) x rise is = below_step p next r rows x rise.1 (p r) is (find_below p r.number next rows x rise.2)

within_step : (p q : StoredRow → Bool) (r : StoredRow) (rows : List StoredRow) → (b : Bool) → q r ≡ b → (q r ≡ false → p r ≡ false) → filter p (filter q rows) ≡ filter p rows
    → filter p (cond b (r ∷ filter q rows) (filter q rows)) ≡ cond (p r) (r ∷ filter p rows) (filter p rows)
within_step p q r rows true test out later = ap (λ rs. cond (p r) (r ∷ rs) rs) later
within_step p q r rows false test out later = later ∙ sym (ap (λ (b : Bool). cond b (r ∷ filter p rows) (filter p rows)) (out test))

-- A test finds as much among the rows that pass a weaker one.
pub filter_within : (p q : StoredRow → Bool) (rows : List StoredRow) → All (λ r. q r ≡ false → p r ≡ false) rows → filter p (filter q rows) ≡ filter p rows
filter_within p q [] out = refl
filter_within p q (r ∷ rows) out =
    within_step p q r rows (q r) refl (All-head (λ (x : StoredRow). q x ≡ false → p x ≡ false) r rows out) (filter_within p q rows (All-tail (λ (x : StoredRow). q x ≡ false → p x ≡ false) r rows out))

looked_below : (from n : ℕ) (unowned : Bool) (o : Option ℕ) → nat_le from n ≡ false → (unowned && is_looked_at from o n) ≡ false
looked_below from n true None low = low
looked_below from n false None low = refl
looked_below from n true (Some last) low = ap (λ (b : Bool). b && nat_le n last) low
looked_below from n false (Some last) low = refl

each : (P : StoredRow → Type 0) → ((r : StoredRow) → P r) → (rows : List StoredRow) → All P rows
each P all [] = All-nil P
each P all (r ∷ rows) = All-cons P r rows (all r) (each P all rows)

-- a look from a number on looks at no row before it
pub unowned-from : (from : ℕ) (o : Option ℕ) (rows : List StoredRow) → unowned_to (rows_from from rows) from o ≡ unowned_to rows from o
unowned-from from o rows =
    filter_within (λ r. is_none r.owner && is_looked_at from o r.number) (λ r. nat_le from r.number) rows
    (each (λ r. nat_le from r.number ≡ false → (is_none r.owner && is_looked_at from o r.number) ≡ false) (λ r low. looked_below from r.number (is_none r.owner) o low) rows)

from_cases : (from : ℕ) (r : StoredRow) (rows : List StoredRow) (b : Bool) → nat_le from r.number ≡ b → All (λ x. from ≤ x.number) rows → All (λ x. from ≤ x.number) (cond b (r ∷ rows) rows)
from_cases from r rows true test later = All-cons (λ (x : StoredRow). from ≤ x.number) r rows (leb-true from r.number test) later
from_cases from r rows false test later = later

pub all_from : (from : ℕ) (rows : List StoredRow) → All (λ r. from ≤ r.number) (rows_from from rows)
all_from from [] = All-nil (λ (x : StoredRow). from ≤ x.number)
all_from from (r ∷ rows) = from_cases from r (rows_from from rows) (nat_le from r.number) refl (all_from from rows)
