-- A table with its owners left out.
use Rattle.std.proofs.Common.{◌≡◌, ◌==◌, ◌∷◌, ◌++◌, ◌∙◌, [], List, ℕ, Bool, true, false, cond, Option, Some, None, map, filter, refl, sym, ap, arith}
use Rattle.std.specs.Prelude.{nat_le}
use Rattle.std.specs.Option.{option_map}
use Rattle.std.proofs.lemmas.List.{length-map, map-append}
use Rattle.std.proofs.lemmas.List.Elements.{All-map}
use Rattle.std.proofs.lemmas.List.Sums.{sum_by-cons}
use Rattle.q4_value.specs.Row.{Fits}
use Rattle.q4_table.specs.declared.rows.StoredRow.{StoredRow}
use Rattle.q4_table.specs.Owners.{without_owner, without_owners}
use Rattle.q4_table.specs.Rows.{owned_by, with_owner, row_in, values_in, rows_from, numbers_of, least_from, least, bytes_of}
use Rattle.q4_table.specs.TableState.{TableState}
use Rattle.q4_table.specs.Valid.{IsValidTable}
use Rattle.q4_table.proofs.Changes.{number}
use Rattle.q4_table.proofs.Lookup.{found-map}
use Rattle.q4_table.proofs.Rising.{map_keeps}

pub rows-added : (rows : List StoredRow) (r : StoredRow) → map without_owner (rows ++ r ∷ []) ≡ map without_owner rows ++ without_owner r ∷ []
rows-added rows r = map-append without_owner rows (r ∷ [])

pub rows-filtered : (p : StoredRow → Bool) → ((r : StoredRow) → p (without_owner r) ≡ p r) → (rows : List StoredRow) → map without_owner (filter p rows) ≡ filter p (map without_owner rows)
rows-filtered p same [] = refl
rows-filtered p same (r ∷ rows) =
    elim (p r) as (λ b. map without_owner (cond b (r ∷ filter p rows) (filter p rows)) ≡ cond b (without_owner r ∷ filter p (map without_owner rows)) (filter p (map without_owner rows))) [
      | true ↦ ap (λ rs. without_owner r ∷ rs) (rows-filtered p same rows)
      | false ↦ rows-filtered p same rows
    ]
    ∙ ap (λ (b : Bool). cond b (without_owner r ∷ filter p (map without_owner rows)) (filter p (map without_owner rows))) (sym (same r))

owned_without : (k : ℕ) (owner : Option ℕ) (r : StoredRow) → without_owner (owned_by k owner r) ≡ without_owner r
owned_without k owner r = elim (r.number == k) as (λ b. without_owner (cond b (record { number = r.number; row = r.row; owner = owner }) r) ≡ without_owner r) [ true ↦ refl | false ↦ refl ]

pub rows-owned : (k : ℕ) (owner : Option ℕ) (rows : List StoredRow) → map without_owner (with_owner k owner rows) ≡ map without_owner rows
rows-owned k owner [] = refl
rows-owned k owner (r ∷ rows) = ap (λ x. x ∷ map without_owner (with_owner k owner rows)) (owned_without k owner r) ∙ ap (λ rs. without_owner r ∷ rs) (rows-owned k owner rows)

pub numbers-unowned : (rows : List StoredRow) → numbers_of (map without_owner rows) ≡ numbers_of rows
numbers-unowned rows = map_keeps number without_owner (λ r. refl) rows

pub bytes-unowned : (rows : List StoredRow) → bytes_of (map without_owner rows) ≡ bytes_of rows
bytes-unowned [] = refl
bytes-unowned (r ∷ rows) =
    omega (arith, sum_by-cons (λ (x : StoredRow). Rattle.q4_value.specs.Row.row_size x.row) (without_owner r) (map without_owner rows), sum_by-cons (λ (x : StoredRow). Rattle.q4_value.specs.Row.row_size x.row) r rows, bytes-unowned rows)

row_of : (o : Option StoredRow) → option_map (λ (r : StoredRow). r.row) (option_map without_owner o) ≡ option_map (λ (r : StoredRow). r.row) o
row_of None = refl
row_of (Some r) = refl

pub values-unowned : (rows : List StoredRow) (k : ℕ) → values_in (map without_owner rows) k ≡ values_in rows k
values-unowned rows k = ap (option_map (λ (r : StoredRow). r.row)) (found-map number without_owner (λ r. refl) k rows) ∙ row_of (row_in rows k)

pub least-unowned : (rows : List StoredRow) (k : ℕ) → least_from (map without_owner rows) k ≡ least_from rows k
least-unowned rows k = ap least (ap numbers_of (sym (rows-filtered (λ r. nat_le k r.number) (λ r. refl) rows)) ∙ numbers-unowned (rows_from k rows))

pub valid-unowned : (table : TableState) → IsValidTable table → IsValidTable (without_owners table)
valid-unowned table valid = record {
  columns = valid.columns;
  begins = valid.begins;
  limit = valid.limit;
  numbers = rw (numbers-unowned table.rows) valid.numbers;
  fit = All-map (λ (r : StoredRow). Fits table.columns r.row) without_owner table.rows valid.fit;
  marks = valid.marks;
  count = omega (arith, length-map table.rows without_owner, valid.count);
  bytes = omega (arith, bytes-unowned table.rows, valid.bytes);
}
