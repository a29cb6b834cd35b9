-- What a change of one row does to the rows of a table.
use Rattle.std.proofs.Common.{◌≡◌, ◌≢◌, ◌==◌, ◌∙◌, ◌∷◌, ◌++◌, [], List, ℕ, Bool, true, false, cond, Option, Some, not, append-nil, refl, ap, arith}
use Rattle.std.proofs.lemmas.Bool.{ne_eqb, eq-eqb}
use Rattle.std.proofs.lemmas.List.Elements.{filter-append}
use Rattle.q4_table.specs.declared.rows.StoredRow.{StoredRow}
use Rattle.q4_table.specs.Rows.{row_in, owned_by, with_owner, without_row, numbers_of}
use Rattle.q4_table.specs.Valid.{RiseBelow}
use Rattle.q4_table.proofs.Rising.{map_keeps, none_next, rise-filter}
use Rattle.q4_table.proofs.Lookup.{found_last}

abbrev pub number : StoredRow → ℕ
number r = r.number

pub keeps_number : (k : ℕ) (owner : Option ℕ) (r : StoredRow) → (owned_by k owner r).number ≡ r.number
keeps_number k owner r = elim (r.number == k) as (λ b. number (cond b (record { number = r.number; row = r.row; owner = owner }) r) ≡ r.number) [ true ↦ refl | false ↦ refl ]

pub rise-owned : (low next k : ℕ) (owner : Option ℕ) (rows : List StoredRow) → RiseBelow low next (numbers_of rows) → RiseBelow low next (numbers_of (with_owner k owner rows))
rise-owned low next k owner rows rise = rw (map_keeps number (owned_by k owner) (keeps_number k owner) rows) rise

pub rise-removed : (low next k : ℕ) (rows : List StoredRow) → RiseBelow low next (numbers_of rows) → RiseBelow low next (numbers_of (without_row k rows))
rise-removed low next k rows rise = rise-filter number (λ r. not (r.number == k)) low next rows rise

pub others_keep : (k : ℕ) (owner : Option ℕ) (r : StoredRow) → number r ≢ k → owned_by k owner r ≡ r
others_keep k owner r other = ap (λ (b : Bool). cond b (record { number = r.number; row = r.row; owner = owner }) r) (ne_eqb r.number k other)

without_next : (low next : ℕ) (rows : List StoredRow) → RiseBelow low next (numbers_of rows) → without_row next rows ≡ rows
without_next low next [] rise = refl
without_next low next (r ∷ rows) rise =
    let differs : (r.number == next) ≡ false = ne_eqb r.number next (λ is. omega (arith, is, rise.1)) in
    ap (λ (b : Bool). cond (not b) (r ∷ without_row next rows) (without_row next rows)) differs ∙ ap (λ rs. r ∷ rs) (without_next r.number next rows rise.2)

-- a row behind the others is found by its number
pub pushed-there : (low next : ℕ) (rows : List StoredRow) (r : StoredRow) → RiseBelow low next (numbers_of rows) → r.number ≡ next → row_in (rows ++ r ∷ []) next ≡ Some r
pushed-there low next rows r rise is = found_last number next rows r (none_next number low next rows rise) is

-- without it the others are left
pub pushed-gone : (low next : ℕ) (rows : List StoredRow) (r : StoredRow) → RiseBelow low next (numbers_of rows) → r.number ≡ next → without_row next (rows ++ r ∷ []) ≡ rows
pushed-gone low next rows r rise is =
    filter-append (λ x. not (x.number == next)) rows (r ∷ [])
    ∙ (ap (λ (b : Bool). without_row next rows ++ cond (not b) (r ∷ []) []) (eq-eqb r.number next is) ∙ (append-nil (without_row next rows) ∙ without_next low next rows rise))
