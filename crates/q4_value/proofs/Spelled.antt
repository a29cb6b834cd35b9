-- A value's spelling shows where it ends and which value it is.
use Rattle.std.proofs.Common.{◌≡◌, ℕ, ℤ, ◌+◌, ◌≤◌, Bool, true, false, IsTrue, if◌then◌else◌, filter, List, [], ◌∷◌, ◌++◌, length, take, FitsSigned, inl, inr, refl, sym, ap, subst, ◌∙◌, arith}
use Rattle.std.specs.Int.{w32, w64, to_be_bytes, from_be_bytes, cast_unsigned, cast_signed}
use Rattle.std.specs.List.{flat_map}
use Rattle.std.specs.Str.{IsUtf8}
use Rattle.std.proofs.lemmas.List.{take_at, length-append}
use Rattle.std.proofs.lemmas.List.Concat.{flat_map-cons}
use Rattle.std.proofs.lemmas.List.Sums.{sum_by-cons}
use Rattle.std.proofs.lemmas.Nat.{from_be_bytes-to_be_bytes_4, from_be_bytes-to_be_bytes_8}
use Rattle.std.proofs.lemmas.Int.{to_z-of_z}
use Rattle.std.proofs.Math.Facts.{Fits-of_z}
use Rattle.q4_value.specs.declared.column.Column.{Column}
use Rattle.q4_value.specs.declared.column.Kind.{Kind}
use Rattle.q4_value.specs.declared.column.Kind.TheVariants as kind
use Rattle.q4_value.specs.declared.reading.RowBytes.{RowBytes}
use Rattle.q4_value.specs.declared.reading.RowBytes.TheVariants as fault
use Rattle.q4_value.specs.declared.row.Value.{Value}
use Rattle.q4_value.specs.declared.row.Value.TheVariants.{Int, Word, Null}
use Rattle.q4_value.specs.Row.{IsOf, IsValue, Takes, value_size, row_size}
use Rattle.q4_value.specs.Spelling.{value_bytes, flag_of, flag_bytes, cell_bytes, row_bytes, optional_count}
use Rattle.q4_value.specs.Reading.{told_length, IsUnreadable, IsUnflagged, IsUnreadableBy, IsUnreadableCell}
use Rattle.q4_value.proofs.Rows.{append_same}

same_number : (z y : ℤ) → FitsSigned w64 z → FitsSigned w64 y → to_be_bytes w64 (cast_unsigned w64 z) ≡ to_be_bytes w64 (cast_unsigned w64 y) → z ≡ y
same_number z y z_fits y_fits e =
    let bits : cast_unsigned w64 z ≡ cast_unsigned w64 y = sym (from_be_bytes-to_be_bytes_8 (cast_unsigned w64 z) (Fits-of_z z_fits).fits) ∙ ap (from_be_bytes w64) e ∙ from_be_bytes-to_be_bytes_8 (cast_unsigned w64 y) (Fits-of_z y_fits).fits in
    sym (to_z-of_z w64 z z_fits) ∙ ap (cast_signed w64) bits ∙ to_z-of_z w64 y y_fits

same_length : (m n : ℕ) → m ≤ 65535 → n ≤ 65535 → to_be_bytes w32 m ≡ to_be_bytes w32 n → m ≡ n
same_length m n m_fits n_fits e = sym (from_be_bytes-to_be_bytes_4 m (omega arith)) ∙ ap (from_be_bytes w32) e ∙ from_be_bytes-to_be_bytes_4 n (omega arith)

value_same : (wanted : Kind) (v w : Value) (x y : List ℕ) → IsValue v → IsValue w → IsOf wanted v → IsOf wanted w → value_bytes v ++ x ≡ value_bytes w ++ y → (v ≡ w) × (x ≡ y)
value_same wanted (Int z) (Int u) x y v_is w_is v_of w_of e =
    let both = append_same (value_bytes (Int z)) (value_bytes (Int u)) x y refl e in
    (ap Int (same_number z u v_is w_is both.0), both.1)
value_same wanted (Int z) (Word t) x y v_is w_is v_of w_of e = let same : kind.Int ≡ kind.Words = sym v_of ∙ w_of in absurd cc
value_same wanted (Word s) (Int u) x y v_is w_is v_of w_of e = let same : kind.Int ≡ kind.Words = sym w_of ∙ v_of in absurd cc
value_same wanted (Word s) (Word t) x y v_is w_is v_of w_of e =
    let apart = append_same (to_be_bytes w32 (length s)) (to_be_bytes w32 (length t)) (s ++ x) (t ++ y) refl e in
    let both = append_same s t x y (same_length (length s) (length t) v_is.1 w_is.1 apart.0) apart.1 in
    (ap Word both.0, both.1)
value_same wanted Null w x y v_is w_is v_of w_of e = absurd v_of
value_same wanted (Int z) Null x y v_is w_is v_of w_of e = absurd w_of
value_same wanted (Word s) Null x y v_is w_is v_of w_of e = absurd w_of

-- behind the flags of two values that are no nulls
behind_flags : (flagged : Bool) (v w : Value) (x y : List ℕ) → flag_of v ≡ flag_of w → (flag_bytes flagged v ++ value_bytes v) ++ x ≡ (flag_bytes flagged w ++ value_bytes w) ++ y → value_bytes v ++ x ≡ value_bytes w ++ y
behind_flags false v w x y flags e = e
behind_flags true v w x y flags e = (append_same (flag_of v ∷ []) (flag_of w ∷ []) (value_bytes v ++ x) (value_bytes w ++ y) refl e).1

-- a flag of 1 and a flag of 0
flags_differ : (flagged : Bool) (v : Value) (x y : List ℕ) → IsTrue flagged → flag_of v ≡ 1 → (flag_bytes flagged v ++ value_bytes v) ++ x ≡ flag_bytes flagged Null ++ y → ⊥
flags_differ false v x y is_true flag e = absurd cc
flags_differ true v x y is_true flag e = let first = (append_same (flag_of v ∷ []) (0 ∷ []) (value_bytes v ++ x) y refl e).0 in
    let zero : flag_of v ≡ 0 = cc in omega (arith, flag, zero)

behind_nulls : (flagged : Bool) (x y : List ℕ) → flag_bytes flagged Null ++ x ≡ flag_bytes flagged Null ++ y → x ≡ y
behind_nulls false x y e = e
behind_nulls true x y e = (append_same (0 ∷ []) (0 ∷ []) x y refl e).1

null_cell : (flagged : Bool) (x : List ℕ) → (flag_bytes flagged Null ++ value_bytes Null) ++ x ≡ flag_bytes flagged Null ++ x
null_cell false x = refl
null_cell true x = refl

pub cell_same : (c : Column) (v w : Value) (x y : List ℕ) → IsValue v → IsValue w → Takes c v → Takes c w → cell_bytes c v ++ x ≡ cell_bytes c w ++ y → (v ≡ w) × (x ≡ y)
cell_same c (Int z) (Int u) x y v_is w_is v_of w_of e = value_same c.kind (Int z) (Int u) x y v_is w_is v_of w_of (behind_flags c.optional (Int z) (Int u) x y refl e)
cell_same c (Int z) (Word t) x y v_is w_is v_of w_of e = value_same c.kind (Int z) (Word t) x y v_is w_is v_of w_of (behind_flags c.optional (Int z) (Word t) x y refl e)
cell_same c (Word s) (Int u) x y v_is w_is v_of w_of e = value_same c.kind (Word s) (Int u) x y v_is w_is v_of w_of (behind_flags c.optional (Word s) (Int u) x y refl e)
cell_same c (Word s) (Word t) x y v_is w_is v_of w_of e = value_same c.kind (Word s) (Word t) x y v_is w_is v_of w_of (behind_flags c.optional (Word s) (Word t) x y refl e)
cell_same c (Int z) Null x y v_is w_is v_of w_of e = absurd (flags_differ c.optional (Int z) x y w_of refl (e ∙ null_cell c.optional y))
cell_same c (Word s) Null x y v_is w_is v_of w_of e = absurd (flags_differ c.optional (Word s) x y w_of refl (e ∙ null_cell c.optional y))
cell_same c Null (Int u) x y v_is w_is v_of w_of e = absurd (flags_differ c.optional (Int u) y x v_of refl (sym e ∙ null_cell c.optional x))
cell_same c Null (Word t) x y v_is w_is v_of w_of e = absurd (flags_differ c.optional (Word t) y x v_of refl (sym e ∙ null_cell c.optional x))
cell_same c Null Null x y v_is w_is v_of w_of e = (refl, behind_nulls c.optional x y (sym (null_cell c.optional x) ∙ e ∙ null_cell c.optional y))

told : (text x : List ℕ) → length text ≤ 65535 → told_length (value_bytes (Word text) ++ x) ≡ length text
told text x short = from_be_bytes-to_be_bytes_4 (length text) (omega arith)

-- a spelled value can be read, whatever follows
value_readable : (wanted : Kind) (v : Value) (x : List ℕ) (offset column : ℕ) (why : RowBytes) → IsValue v → IsOf wanted v → IsUnreadable wanted (value_bytes v ++ x) offset column why → ⊥
value_readable kind.Int (Int z) x offset column (fault.Short at) is is_of (_, short) = omega (arith, short, length-append (value_bytes (Int z)) x)
value_readable kind.Int (Int z) x offset column (fault.NotText n) is is_of h = h
value_readable kind.Int (Int z) x offset column (fault.Large n) is is_of h = h
value_readable kind.Int (Int z) x offset column (fault.Flag n) is is_of h = h
value_readable kind.Int (Int z) x offset column fault.Memory is is_of h = h
value_readable kind.Int (Word text) x offset column why is is_of h = absurd cc
value_readable kind.Words (Int z) x offset column why is is_of h = absurd cc
value_readable kind.Words (Word text) x offset column (fault.Short at) is is_of (_, small, ends) =
    let len = length-append text x in
    let t = told text x is.1 in
    elim ends [
      | inl short ↦ omega (arith, short)
      | inr short ↦ omega (arith, short, t, len)
    ]
value_readable kind.Words (Word text) x offset column (fault.Large n) is is_of (_, large) = omega (arith, large.1, told text x is.1, is.1)
value_readable kind.Words (Word text) x offset column (fault.NotText n) is is_of (_, small, ill) =
    let t = told text x is.1 in
    ill.1 (subst IsUtf8 (sym (ap (λ n. take n (text ++ x)) t ∙ take_at text x (length text) refl)) is.0)
value_readable kind.Words (Word text) x offset column (fault.Flag n) is is_of h = h
value_readable kind.Words (Word text) x offset column fault.Memory is is_of h = h
value_readable wanted Null x offset column why is is_of h = is_of

-- behind a flag of 1 the value is what cannot be read
behind_one : (wanted : Kind) (x : List ℕ) (offset column : ℕ) (why : RowBytes) → IsUnflagged wanted (1 ∷ x) offset column why → IsUnreadable wanted x offset column why
behind_one wanted x offset column (fault.Short at) bad = bad.1
behind_one wanted x offset column (fault.NotText n) bad = bad.1
behind_one wanted x offset column (fault.Large n) bad = bad.1
behind_one wanted x offset column (fault.Flag n) bad = absurd (bad.2 refl)
behind_one wanted x offset column fault.Memory bad = bad.1

-- a flag of 0 stands for a value
zero_stands : (wanted : Kind) (x : List ℕ) (offset column : ℕ) (why : RowBytes) → IsUnflagged wanted (0 ∷ x) offset column why → ⊥
zero_stands wanted x offset column (fault.Short at) bad = omega (arith, bad.0)
zero_stands wanted x offset column (fault.NotText n) bad = omega (arith, bad.0)
zero_stands wanted x offset column (fault.Large n) bad = omega (arith, bad.0)
zero_stands wanted x offset column (fault.Flag n) bad = bad.1 refl
zero_stands wanted x offset column fault.Memory bad = omega (arith, bad.0)

flagged_readable : (flagged : Bool) (wanted : Kind) (v : Value) (x : List ℕ) (offset column : ℕ) (why : RowBytes) → IsValue v → IsOf wanted v → flag_of v ≡ 1
    → IsUnreadableBy flagged wanted ((flag_bytes flagged v ++ value_bytes v) ++ x) offset column why → ⊥
flagged_readable false wanted v x offset column why is is_of flag bad = value_readable wanted v x offset column why is is_of bad
flagged_readable true wanted v x offset column why is is_of flag bad =
    value_readable wanted v x offset column why is is_of (behind_one wanted (value_bytes v ++ x) offset column why (subst (λ f. IsUnflagged wanted (f ∷ (value_bytes v ++ x)) offset column why) flag bad))

null_readable : (flagged : Bool) (wanted : Kind) (x : List ℕ) (offset column : ℕ) (why : RowBytes) → IsTrue flagged → IsUnreadableBy flagged wanted ((flag_bytes flagged Null ++ value_bytes Null) ++ x) offset column why → ⊥
null_readable false wanted x offset column why is_true bad = absurd cc
null_readable true wanted x offset column why is_true bad = zero_stands wanted x offset column why bad

-- so can what stands for the value of a column
pub cell_readable : (c : Column) (v : Value) (x : List ℕ) (offset column : ℕ) (why : RowBytes) → IsValue v → Takes c v → IsUnreadableCell c (cell_bytes c v ++ x) offset column why → ⊥
cell_readable c (Int z) x offset column why is takes bad = flagged_readable c.optional c.kind (Int z) x offset column why is takes refl bad
cell_readable c (Word text) x offset column why is takes bad = flagged_readable c.optional c.kind (Word text) x offset column why is takes refl bad
cell_readable c Null x offset column why is takes bad = null_readable c.optional c.kind x offset column why takes bad

-- how long a spelling is
value_length : (v : Value) → length (value_bytes v) ≡ value_size v
value_length (Int z) = refl
value_length (Word text) = omega arith
value_length Null = refl

-- the flag of a column is counted with the optional columns
counted : (c : Column) (cs : List Column) (v : Value) → optional_count (c ∷ cs) ≡ length (flag_bytes c.optional v) + optional_count cs
counted c cs v = by_flag c.optional
  where
    by_flag : (flagged : Bool) → length (if flagged then c ∷ filter (λ c. c.optional) cs else filter (λ c. c.optional) cs) ≡ length (flag_bytes flagged v) + optional_count cs
    by_flag true = omega arith
    by_flag false = omega arith

values_length : (row : List Value) → length (flat_map value_bytes row) ≡ row_size row
values_length [] = refl
values_length (v ∷ vs) = omega (arith, ap length (flat_map-cons value_bytes v vs), length-append (value_bytes v) (flat_map value_bytes vs), value_length v, values_length vs, sum_by-cons value_size v vs)

pub length-row_bytes : (columns : List Column) (row : List Value) → length (row_bytes columns row) ≡ row_size row + optional_count columns
length-row_bytes [] row = omega (arith, values_length row)
length-row_bytes (c ∷ cs) [] = omega (arith, length-append (flag_bytes c.optional Null) (row_bytes cs []), length-row_bytes cs [], counted c cs Null)
length-row_bytes (c ∷ cs) (v ∷ vs) = omega (
  arith,
  length-append (cell_bytes c v) (row_bytes cs vs),
  length-append (flag_bytes c.optional v) (value_bytes v),
  value_length v,
  length-row_bytes cs vs,
  sum_by-cons value_size v vs,
  counted c cs v,
)
