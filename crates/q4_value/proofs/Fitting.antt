-- The first value that does not fit its column.
use Rattle.std.proofs.Common.{◌≡◌, ℕ, ◌+◌, ◌<◌, List, ◌∷◌, ◌++◌, length, get_or, take, drop, refl, sym, ap, subst, ◌∙◌, inl, inr, arith}
use Rattle.std.specs.List.{All}
use Rattle.std.proofs.lemmas.Bool.{cases_order}
use Rattle.std.proofs.lemmas.List.{length-take-le, length-append, get_or_at}
use Rattle.q4_value.specs.declared.column.Column.{Column}
use Rattle.q4_value.specs.declared.fit.RowFault.{RowFault}
use Rattle.q4_value.specs.declared.fit.RowFault.TheVariants as fault
use Rattle.q4_value.specs.declared.row.Value.{Value}
use Rattle.q4_value.specs.declared.row.Value.TheVariants.{Int, Word, Null}
use Rattle.q4_value.specs.Row.{IsValue, Takes, TakeEach, IsRowOf, Fits}
use Rattle.q4_value.specs.Fit.{ValueMisfits, FirstMisfits, Misfits}
use Rattle.q4_value.proofs.Rows.{parted, append_same, place_within, as_many, taken_apart}

first : (columns : List Column) (row : List Value) (i : ℕ) (c : Column) (v : Value) (why : RowFault) → i < length columns → i < length row → c ≡ get_or columns i c → v ≡ get_or row i v
    → IsRowOf (take i columns) (take i row) → ValueMisfits c v (i + 1) why → FirstMisfits columns row why
first columns row i c v why in_columns in_row c_is v_is fits misfits =
    let at : length (take i columns) ≡ i = length-take-le i columns (omega arith) in
    record {
      before = take i columns;
      column = c;
      after = drop (i + 1) columns;
      front = take i row;
      value = v;
      rest = drop (i + 1) row;
      columns_are = parted columns i c in_columns c_is;
      row_is = parted row i v in_row v_is;
      fits = fits;
      misfits = subst (λ n. ValueMisfits c v (n + 1) why) (sym at) misfits;
    }

pub misfit : (columns : List Column) (row : List Value) (i : ℕ) (c : Column) (v : Value) (why : RowFault) → length row ≡ length columns → i < length columns → i < length row → c ≡ get_or columns i c → v ≡ get_or row i v
    → IsRowOf (take i columns) (take i row) → ValueMisfits c v (i + 1) why → Misfits columns row why
misfit columns row i c v (fault.Count n) same in_columns in_row c_is v_is fits misfits = absurd misfits
misfit columns row i c v (fault.Kind n) same in_columns in_row c_is v_is fits misfits = (same, first columns row i c v (fault.Kind n) in_columns in_row c_is v_is fits misfits)
misfit columns row i c v (fault.Text n) same in_columns in_row c_is v_is fits misfits = (same, first columns row i c v (fault.Text n) in_columns in_row c_is v_is fits misfits)
misfit columns row i c v fault.Long same in_columns in_row c_is v_is fits misfits = absurd misfits

-- ---- a row that fits

-- the value behind a front that fits is one that its column takes where the whole row fits
next_taken : (columns : List Column) (row : List Value) (why : RowFault) → IsRowOf columns row → (f : FirstMisfits columns row why) → Takes f.column f.value × IsValue f.value
next_taken columns row why row_of f =
    let each : TakeEach (f.before ++ f.column ∷ f.after) (f.front ++ f.value ∷ f.rest) = subst (λ cs. TakeEach cs (f.front ++ f.value ∷ f.rest)) f.columns_are (subst (TakeEach columns) f.row_is row_of.taken) in
    let parts = taken_apart f.before (f.column ∷ f.after) f.front (f.value ∷ f.rest) (sym (as_many f.before f.front f.fits.taken)) each in
    (parts.1.0, subst IsValue (get_or_at f.front f.value f.rest f.value (length f.front) refl) (subst (All IsValue) f.row_is row_of.values (length f.front) f.value (omega (arith, length-append f.front (f.value ∷ f.rest)))))

no_misfit : (column : Column) (value : Value) (number : ℕ) (why : RowFault) → Takes column value → IsValue value → ValueMisfits column value number why → ⊥
no_misfit column value number (fault.Count n) takes is bad = bad
no_misfit column value number (fault.Kind n) takes is bad = bad.1 takes
no_misfit column (Int z) number (fault.Text n) takes is bad = bad.2
no_misfit column (Word text) number (fault.Text n) takes is bad = omega (arith, bad.2, is.1)
no_misfit column Null number (fault.Text n) takes is bad = bad.2
no_misfit column value number fault.Long takes is bad = bad

no_first : (columns : List Column) (row : List Value) (why : RowFault) → IsRowOf columns row → FirstMisfits columns row why → ⊥
no_first columns row why row_of f =
    let next = next_taken columns row why row_of f in
    no_misfit f.column f.value (length f.before + 1) why next.0 next.1 f.misfits

pub fits_apart : (columns : List Column) (row : List Value) (why : RowFault) → Fits columns row → Misfits columns row why → ⊥
fits_apart columns row (fault.Count n) fits bad = bad.1 (as_many columns row fits.row_of.taken)
fits_apart columns row (fault.Kind n) fits bad = no_first columns row (fault.Kind n) fits.row_of bad.1
fits_apart columns row (fault.Text n) fits bad = no_first columns row (fault.Text n) fits.row_of bad.1
fits_apart columns row fault.Long fits bad = omega (arith, bad.1, fits.size)

-- ---- one fault at most

same_cause : (column : Column) (value : Value) (number : ℕ) (one other : RowFault) → ValueMisfits column value number one → ValueMisfits column value number other → one ≡ other
same_cause column value number (fault.Kind n) (fault.Kind m) p q = ap fault.Kind (p.0 ∙ sym q.0)
same_cause column value number (fault.Kind n) (fault.Text m) p q = absurd (p.1 q.1)
same_cause column value number (fault.Kind n) (fault.Count m) p q = absurd q
same_cause column value number (fault.Kind n) fault.Long p q = absurd q
same_cause column value number (fault.Text n) (fault.Kind m) p q = absurd (q.1 p.1)
same_cause column value number (fault.Text n) (fault.Text m) p q = ap fault.Text (p.0 ∙ sym q.0)
same_cause column value number (fault.Text n) (fault.Count m) p q = absurd q
same_cause column value number (fault.Text n) fault.Long p q = absurd q
same_cause column value number (fault.Count n) other p q = absurd p
same_cause column value number fault.Long other p q = absurd p

not_earlier : (columns : List Column) (row : List Value) (one other : RowFault) → (f : FirstMisfits columns row one) (g : FirstMisfits columns row other) → length f.before < length g.before → ⊥
not_earlier columns row one other f g lt =
    let in_columns = place_within f.before g.before f.column g.column f.after g.after (sym f.columns_are ∙ g.columns_are) lt in
    let in_row = place_within f.front g.front f.value g.value f.rest g.rest (sym f.row_is ∙ g.row_is) (omega (arith, lt, as_many f.before f.front f.fits.taken, as_many g.before g.front g.fits.taken)) in
    no_first g.before g.front one g.fits (record {
      before = f.before;
      column = f.column;
      after = in_columns.0;
      front = f.front;
      value = f.value;
      rest = in_row.0;
      columns_are = in_columns.1;
      row_is = in_row.1;
      fits = f.fits;
      misfits = f.misfits;
    })

same_place : (columns : List Column) (row : List Value) (one other : RowFault) → (f : FirstMisfits columns row one) (g : FirstMisfits columns row other) → length f.before ≡ length g.before → one ≡ other
same_place columns row one other f g len =
    let in_columns = append_same f.before g.before (f.column ∷ f.after) (g.column ∷ g.after) len (sym f.columns_are ∙ g.columns_are) in
    let in_row = append_same f.front g.front (f.value ∷ f.rest) (g.value ∷ g.rest) (as_many f.before f.front f.fits.taken ∙ len ∙ sym (as_many g.before g.front g.fits.taken)) (sym f.row_is ∙ g.row_is) in
    let columns_end = in_columns.1 in
    let row_end = in_row.1 in
    let column : g.column ≡ f.column = cc in
    let value : g.value ≡ f.value = cc in
    let here : ValueMisfits f.column f.value (length f.before + 1) other =
    subst (λ n. ValueMisfits f.column f.value (n + 1) other) (sym len) (subst (λ v. ValueMisfits f.column v (length g.before + 1) other) value (subst (λ c. ValueMisfits c g.value (length g.before + 1) other) column g.misfits)) in
    same_cause f.column f.value (length f.before + 1) one other f.misfits here

one_first : (columns : List Column) (row : List Value) (one other : RowFault) → FirstMisfits columns row one → FirstMisfits columns row other → one ≡ other
one_first columns row one other f g =
    elim (cases_order (length f.before) (length g.before)) [
      | inl same ↦ same_place columns row one other f g same
      | inr (inl earlier) ↦ absurd (not_earlier columns row one other f g earlier)
      | inr (inr later) ↦ absurd (not_earlier columns row other one g f later)
    ]

pub one_misfit : (columns : List Column) (row : List Value) (one other : RowFault) → Misfits columns row one → Misfits columns row other → one ≡ other
one_misfit columns row (fault.Count n) (fault.Count m) p q = ap fault.Count (p.0 ∙ sym q.0)
one_misfit columns row (fault.Count n) (fault.Kind m) p q = absurd (p.1 q.0)
one_misfit columns row (fault.Count n) (fault.Text m) p q = absurd (p.1 q.0)
one_misfit columns row (fault.Count n) fault.Long p q = absurd (p.1 (as_many columns row q.0.taken))
one_misfit columns row (fault.Kind n) (fault.Count m) p q = absurd (q.1 p.0)
one_misfit columns row (fault.Kind n) (fault.Kind m) p q = one_first columns row (fault.Kind n) (fault.Kind m) p.1 q.1
one_misfit columns row (fault.Kind n) (fault.Text m) p q = one_first columns row (fault.Kind n) (fault.Text m) p.1 q.1
one_misfit columns row (fault.Kind n) fault.Long p q = absurd (no_first columns row (fault.Kind n) q.0 p.1)
one_misfit columns row (fault.Text n) (fault.Count m) p q = absurd (q.1 p.0)
one_misfit columns row (fault.Text n) (fault.Kind m) p q = one_first columns row (fault.Text n) (fault.Kind m) p.1 q.1
one_misfit columns row (fault.Text n) (fault.Text m) p q = one_first columns row (fault.Text n) (fault.Text m) p.1 q.1
one_misfit columns row (fault.Text n) fault.Long p q = absurd (no_first columns row (fault.Text n) q.0 p.1)
one_misfit columns row fault.Long (fault.Count m) p q = absurd (q.1 (as_many columns row p.0.taken))
one_misfit columns row fault.Long (fault.Kind m) p q = absurd (no_first columns row (fault.Kind m) p.0 q.1)
one_misfit columns row fault.Long (fault.Text m) p q = absurd (no_first columns row (fault.Text m) p.0 q.1)
one_misfit columns row fault.Long fault.Long p q = refl
