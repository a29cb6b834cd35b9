-- What is spelled at the front of bytes by values whose texts may be of any length.
use Rattle.std.proofs.Common.{◌≡◌, ℕ, ℤ, ◌+◌, ◌^◌, ◌<◌, ◌≤◌, Bool, true, false, IsTrue, List, [], ◌∷◌, ◌++◌, length, take, FitsSigned, inl, inr, refl, sym, ap, subst, ◌∙◌, append_assoc, arith}
use Rattle.std.specs.Int.{w32, w64, to_be_bytes, from_be_bytes, cast_unsigned, cast_signed}
use Rattle.std.specs.Str.{IsUtf8}
use Rattle.std.proofs.lemmas.Bool.{cases_order}
use Rattle.std.proofs.lemmas.List.{take_at, append-nil, length-append}
use Rattle.std.proofs.lemmas.List.Elements.{All-head, All-tail, All-push}
use Rattle.std.proofs.lemmas.Nat.{from_be_bytes-to_be_bytes_4, from_be_bytes-to_be_bytes_8}
use Rattle.std.proofs.lemmas.Int.{to_z-of_z}
use Rattle.std.proofs.Math.Facts.{Fits-of_z}
use Rattle.q4_value.specs.declared.column.Column.{Column}
use Rattle.q4_value.specs.declared.column.Kind.{Kind}
use Rattle.q4_value.specs.declared.column.Kind.TheVariants as kind
use Rattle.q4_value.specs.declared.row.Value.{Value}
use Rattle.q4_value.specs.declared.row.Value.TheVariants.{Int, Word, Null}
use Rattle.q4_value.specs.Row.{IsOf, Takes, TakeEach}
use Rattle.q4_value.specs.Reading.{told_length, EndsInText}
use Rattle.q4_value.specs.Spelling.{value_bytes, flag_of, flag_bytes, cell_bytes, row_bytes}
use Rattle.q4_value.proofs.Rows.{append_same, place_within}
use Rattle.q4_record.specs.Wide.{IsWideValue, IsWideRow, EndsInValue, EndsInBy, EndsInCell, ReachesColumn}
use Rattle.q4_record.specs.Extents.{IsIllValue, IsIllBy, IsIllCell}

same_number : (z y : ℤ) → FitsSigned w64 z → FitsSigned w64 y → to_be_bytes w64 (cast_unsigned w64 z) ≡ to_be_bytes w64 (cast_unsigned w64 y) → z ≡ y
same_number z y z_fits y_fits e =
    let bits : cast_unsigned w64 z ≡ cast_unsigned w64 y = sym (from_be_bytes-to_be_bytes_8 (cast_unsigned w64 z) (Fits-of_z z_fits).fits) ∙ ap (from_be_bytes w64) e ∙ from_be_bytes-to_be_bytes_8 (cast_unsigned w64 y) (Fits-of_z y_fits).fits in
    sym (to_z-of_z w64 z z_fits) ∙ ap (cast_signed w64) bits ∙ to_z-of_z w64 y y_fits

pub same_length : (m n : ℕ) → m < 2 ^ 32 → n < 2 ^ 32 → to_be_bytes w32 m ≡ to_be_bytes w32 n → m ≡ n
same_length m n m_fits n_fits e = sym (from_be_bytes-to_be_bytes_4 m m_fits) ∙ ap (from_be_bytes w32) e ∙ from_be_bytes-to_be_bytes_4 n n_fits

pub same_told : (m n : ℕ) → m < 2 ^ 64 → n < 2 ^ 64 → to_be_bytes w64 m ≡ to_be_bytes w64 n → m ≡ n
same_told m n m_fits n_fits e = sym (from_be_bytes-to_be_bytes_8 m m_fits) ∙ ap (from_be_bytes w64) e ∙ from_be_bytes-to_be_bytes_8 n n_fits

value_same : (wanted : Kind) (v w : Value) (x y : List ℕ) → IsWideValue v → IsWideValue w → IsOf wanted v → IsOf wanted w → value_bytes v ++ x ≡ value_bytes w ++ y → (v ≡ w) × (x ≡ y)
value_same wanted (Int z) (Int u) x y v_is w_is v_of w_of e =
    let both = append_same (value_bytes (Int z)) (value_bytes (Int u)) x y refl e in
    (ap Int (same_number z u v_is w_is both.0), both.1)
value_same wanted (Int z) (Word t) x y v_is w_is v_of w_of e = let same : kind.Int ≡ kind.Words = sym v_of ∙ w_of in absurd cc
value_same wanted (Word s) (Int u) x y v_is w_is v_of w_of e = let same : kind.Int ≡ kind.Words = sym w_of ∙ v_of in absurd cc
value_same wanted (Word s) (Word t) x y v_is w_is v_of w_of e =
    let apart = append_same (to_be_bytes w32 (length s)) (to_be_bytes w32 (length t)) (s ++ x) (t ++ y) refl e in
    let both = append_same s t x y (same_length (length s) (length t) v_is.1 w_is.1 apart.0) apart.1 in
    (ap Word both.0, both.1)
value_same wanted Null w x y v_is w_is v_of w_of e = absurd v_of
value_same wanted (Int z) Null x y v_is w_is v_of w_of e = absurd w_of
value_same wanted (Word s) Null x y v_is w_is v_of w_of e = absurd w_of

-- behind the flags of two values that are no nulls
behind_flags : (flagged : Bool) (v w : Value) (x y : List ℕ) → flag_of v ≡ flag_of w → (flag_bytes flagged v ++ value_bytes v) ++ x ≡ (flag_bytes flagged w ++ value_bytes w) ++ y → value_bytes v ++ x ≡ value_bytes w ++ y
behind_flags false v w x y flags e = e
behind_flags true v w x y flags e = (append_same (flag_of v ∷ []) (flag_of w ∷ []) (value_bytes v ++ x) (value_bytes w ++ y) refl e).1

-- a flag of 1 and a flag of 0
flags_differ : (flagged : Bool) (v : Value) (x y : List ℕ) → IsTrue flagged → flag_of v ≡ 1 → (flag_bytes flagged v ++ value_bytes v) ++ x ≡ flag_bytes flagged Null ++ y → ⊥
flags_differ false v x y is_true flag e = absurd cc
flags_differ true v x y is_true flag e =
    let first = (append_same (flag_of v ∷ []) (0 ∷ []) (value_bytes v ++ x) y refl e).0 in
    let zero : flag_of v ≡ 0 = cc in
    omega (arith, flag, zero)

behind_nulls : (flagged : Bool) (x y : List ℕ) → flag_bytes flagged Null ++ x ≡ flag_bytes flagged Null ++ y → x ≡ y
behind_nulls false x y e = e
behind_nulls true x y e = (append_same (0 ∷ []) (0 ∷ []) x y refl e).1

null_cell : (flagged : Bool) (x : List ℕ) → (flag_bytes flagged Null ++ value_bytes Null) ++ x ≡ flag_bytes flagged Null ++ x
null_cell false x = refl
null_cell true x = refl

-- what stands for the value of a column shows where it ends and which value it is
cell_same : (c : Column) (v w : Value) (x y : List ℕ) → IsWideValue v → IsWideValue w → Takes c v → Takes c w → cell_bytes c v ++ x ≡ cell_bytes c w ++ y → (v ≡ w) × (x ≡ y)
cell_same c (Int z) (Int u) x y v_is w_is v_of w_of e = value_same c.kind (Int z) (Int u) x y v_is w_is v_of w_of (behind_flags c.optional (Int z) (Int u) x y refl e)
cell_same c (Int z) (Word t) x y v_is w_is v_of w_of e = value_same c.kind (Int z) (Word t) x y v_is w_is v_of w_of (behind_flags c.optional (Int z) (Word t) x y refl e)
cell_same c (Word s) (Int u) x y v_is w_is v_of w_of e = value_same c.kind (Word s) (Int u) x y v_is w_is v_of w_of (behind_flags c.optional (Word s) (Int u) x y refl e)
cell_same c (Word s) (Word t) x y v_is w_is v_of w_of e = value_same c.kind (Word s) (Word t) x y v_is w_is v_of w_of (behind_flags c.optional (Word s) (Word t) x y refl e)
cell_same c (Int z) Null x y v_is w_is v_of w_of e = absurd (flags_differ c.optional (Int z) x y w_of refl (e ∙ null_cell c.optional y))
cell_same c (Word s) Null x y v_is w_is v_of w_of e = absurd (flags_differ c.optional (Word s) x y w_of refl (e ∙ null_cell c.optional y))
cell_same c Null (Int u) x y v_is w_is v_of w_of e = absurd (flags_differ c.optional (Int u) y x v_of refl (sym e ∙ null_cell c.optional x))
cell_same c Null (Word t) x y v_is w_is v_of w_of e = absurd (flags_differ c.optional (Word t) y x v_of refl (sym e ∙ null_cell c.optional x))
cell_same c Null Null x y v_is w_is v_of w_of e = (refl, behind_nulls c.optional x y (sym (null_cell c.optional x) ∙ e ∙ null_cell c.optional y))

-- whether bytes end within a number or text of a kind, or else its text is not UTF-8
abbrev IsValueStop : Bool → Kind → List ℕ → Type 0
IsValueStop true kind bytes = EndsInValue kind bytes
IsValueStop false kind bytes = IsIllValue kind bytes

-- the same by whether a flag comes first
abbrev pub IsStopBy : Bool → Bool → Kind → List ℕ → Type 0
IsStopBy true flagged kind bytes = EndsInBy flagged kind bytes
IsStopBy false flagged kind bytes = IsIllBy flagged kind bytes

-- the same for the value of a column
abbrev pub IsStop : Bool → Column → List ℕ → Type 0
IsStop ends column bytes = IsStopBy ends column.optional column.kind bytes

told : (text x : List ℕ) → length text < 2 ^ 32 → told_length (value_bytes (Word text) ++ x) ≡ length text
told text x short = from_be_bytes-to_be_bytes_4 (length text) short

-- a spelled value is no stop, whatever follows
value_stands : (wanted : Kind) (v : Value) (x : List ℕ) (ends : Bool) → IsWideValue v → IsOf wanted v → IsValueStop ends wanted (value_bytes v ++ x) → ⊥
value_stands kind.Int (Int z) x true is is_of short = omega (arith, short, length-append (value_bytes (Int z)) x)
value_stands kind.Int (Int z) x false is is_of h = h
value_stands kind.Int (Word text) x ends is is_of h = absurd cc
value_stands kind.Words (Int z) x ends is is_of h = absurd cc
value_stands kind.Words (Word text) x true is is_of ends =
    let len = length-append text x in
    let t = told text x is.1 in
    elim ends [
      | inl short ↦ omega (arith, short)
      | inr short ↦ omega (arith, short, t, len)
    ]
value_stands kind.Words (Word text) x false is is_of ill =
    let t = told text x is.1 in
    ill.1 (subst IsUtf8 (sym (ap (λ n. take n (text ++ x)) t ∙ take_at text x (length text) refl)) is.0)
value_stands wanted Null x ends is is_of h = is_of

-- neither is one behind its flag
flagged_stands : (flagged : Bool) (wanted : Kind) (v : Value) (x : List ℕ) (ends : Bool) → IsWideValue v → IsOf wanted v → flag_of v ≡ 1
    → IsStopBy ends flagged wanted ((flag_bytes flagged v ++ value_bytes v) ++ x) → ⊥
flagged_stands false wanted v x true is is_of flag stop = value_stands wanted v x true is is_of stop
flagged_stands false wanted v x false is is_of flag stop = value_stands wanted v x false is is_of stop
flagged_stands true wanted v x true is is_of flag stop = value_stands wanted v x true is is_of stop.1
flagged_stands true wanted v x false is is_of flag (inl differs) = differs.1 flag
flagged_stands true wanted v x false is is_of flag (inr ill) = value_stands wanted v x false is is_of ill.1

null_stands : (flagged : Bool) (wanted : Kind) (x : List ℕ) (ends : Bool) → IsTrue flagged → IsStopBy ends flagged wanted ((flag_bytes flagged Null ++ value_bytes Null) ++ x) → ⊥
null_stands false wanted x ends is_true stop = absurd cc
null_stands true wanted x true is_true stop = omega (arith, stop.0)
null_stands true wanted x false is_true (inl differs) = differs.0 refl
null_stands true wanted x false is_true (inr ill) = omega (arith, ill.0)

-- neither is what stands for the value of a column
cell_stands : (c : Column) (v : Value) (x : List ℕ) (ends : Bool) → IsWideValue v → Takes c v → IsStop ends c (cell_bytes c v ++ x) → ⊥
cell_stands c (Int z) x ends is takes stop = flagged_stands c.optional c.kind (Int z) x ends is takes refl stop
cell_stands c (Word text) x ends is takes stop = flagged_stands c.optional c.kind (Word text) x ends is takes refl stop
cell_stands c Null x ends is takes stop = null_stands c.optional c.kind x ends takes stop

-- a row of at least one column
record Begins (c : Column) (cs : List Column) (row : List Value) : Type 0 where
  value : Value
  others : List Value
  row_is : row ≡ value ∷ others
  takes : Takes c value
  is : IsWideValue value
  others_of : IsWideRow cs others

split : (c : Column) (cs : List Column) (v : Value) (vs : List Value) → IsWideRow (c ∷ cs) (v ∷ vs) → Takes c v × IsWideValue v × IsWideRow cs vs
split c cs v vs row_of =
    (row_of.taken.0, All-head IsWideValue v vs row_of.values, record { taken = row_of.taken.1; values = All-tail IsWideValue v vs row_of.values })

begins : (c : Column) (cs : List Column) (row : List Value) → IsWideRow (c ∷ cs) row → Begins c cs row
begins c cs [] row_of = absurd row_of.taken
begins c cs (v ∷ vs) row_of =
    let parts = split c cs v vs row_of in
    record { value = v; others = vs; row_is = refl; takes = parts.0; is = parts.1; others_of = parts.2 }

pub no_columns : (row : List Value) → IsWideRow [] row → row ≡ []
no_columns [] row_of = refl
no_columns (v ∷ vs) row_of = absurd row_of.taken

-- what a row has behind a front that stands
record Continues (after : List Column) (front row : List Value) (rest more : List ℕ) : Type 0 where
  others : List Value
  row_is : row ≡ front ++ others
  others_of : IsWideRow after others
  rest_is : rest ≡ row_bytes after others ++ more

continues : (before after : List Column) (front row : List Value) (rest more : List ℕ) → IsWideRow before front → IsWideRow (before ++ after) row → row_bytes before front ++ rest ≡ row_bytes (before ++ after) row ++ more → Continues after front row rest more
continues [] after [] row rest more front_of row_of e = record { others = row; row_is = refl; others_of = row_of; rest_is = e }
continues [] after (v ∷ vs) row rest more front_of row_of e = absurd front_of.taken
continues (c ∷ cs) after [] row rest more front_of row_of e = absurd front_of.taken
continues (c ∷ cs) after (v ∷ vs) row rest more front_of row_of e =
    let f = split c cs v vs front_of in
    let r = begins c (cs ++ after) row row_of in
    let first : cell_bytes c v ++ (row_bytes cs vs ++ rest) ≡ cell_bytes c r.value ++ (row_bytes (cs ++ after) r.others ++ more) =
    sym (append_assoc (cell_bytes c v) (row_bytes cs vs) rest) ∙ e ∙ ap (λ ws. row_bytes (c ∷ (cs ++ after)) ws ++ more) r.row_is
    ∙ append_assoc (cell_bytes c r.value) (row_bytes (cs ++ after) r.others) more in
    let one = cell_same c v r.value (row_bytes cs vs ++ rest) (row_bytes (cs ++ after) r.others ++ more) f.1 r.is f.0 r.takes first in
    let deeper = continues cs after vs r.others rest more f.2 r.others_of one.1 in
    let row_is : row ≡ (v ∷ vs) ++ deeper.others = r.row_is ∙ ap (λ w. w ∷ r.others) (sym one.0) ∙ ap (λ ws. v ∷ ws) deeper.row_is in
    record { others = deeper.others; row_is = row_is; others_of = deeper.others_of; rest_is = deeper.rest_is }

-- no two rows of the same columns stand at the front of the same bytes
pub rows_once : (columns : List Column) (one other : List Value) (more rest : List ℕ) → IsWideRow columns one → IsWideRow columns other → row_bytes columns one ++ more ≡ row_bytes columns other ++ rest → (one ≡ other) × (more ≡ rest)
rows_once columns one other more rest one_of other_of e =
    let all : columns ≡ columns ++ [] = sym (append-nil columns) in
    let c = continues columns [] one other more rest one_of (subst (λ cs. IsWideRow cs other) all other_of) (e ∙ ap (λ cs. row_bytes cs other ++ rest) all) in
    let none = no_columns c.others c.others_of in
    (sym (append-nil one) ∙ ap (λ vs. one ++ vs) (sym none) ∙ sym c.row_is, c.rest_is ∙ ap (λ vs. row_bytes [] vs ++ rest) none)

-- where a row stands at the front, no value of it is a stop
pub stands_not : (columns : List Column) (bytes : List ℕ) (row : List Value) (more : List ℕ) (column : Column) (front : List Value) (rest : List ℕ) (ends : Bool)
    → ReachesColumn columns bytes column front rest → IsStop ends column rest → IsWideRow columns row → bytes ≡ row_bytes columns row ++ more → ⊥
stands_not columns bytes row more column front rest ends f stop row_of e =
    let c = continues f.before (column ∷ f.after) front row rest more f.row_of (subst (λ cs. IsWideRow cs row) f.columns_are row_of) (sym f.bytes_are ∙ e ∙ ap (λ cs. row_bytes cs row ++ more) f.columns_are) in
    let next = begins column f.after c.others c.others_of in
    let here : rest ≡ cell_bytes column next.value ++ (row_bytes f.after next.others ++ more) =
    c.rest_is ∙ ap (λ vs. row_bytes (column ∷ f.after) vs ++ more) next.row_is ∙ append_assoc (cell_bytes column next.value) (row_bytes f.after next.others) more in
    cell_stands column next.value (row_bytes f.after next.others ++ more) ends next.is next.takes (subst (IsStop ends column) here stop)

not_earlier : (columns : List Column) (bytes : List ℕ) (c d : Column) (front other : List Value) (rest more : List ℕ) (ends : Bool)
    → (f : ReachesColumn columns bytes c front rest) → IsStop ends c rest → (g : ReachesColumn columns bytes d other more) → length f.before < length g.before → ⊥
not_earlier columns bytes c d front other rest more ends f stop g lt =
    let in_columns = place_within f.before g.before c d f.after g.after (sym f.columns_are ∙ g.columns_are) lt in
    stands_not g.before bytes other more c front rest ends (record {
      before = f.before;
      after = in_columns.0;
      columns_are = in_columns.1;
      row_of = f.row_of;
      bytes_are = f.bytes_are;
    }) stop g.row_of g.bytes_are

-- one place in a row, and what stands before it
pub record SamePlace (c d : Column) (front other : List Value) (rest more : List ℕ) : Type 0 where
  pub column : d ≡ c
  pub fronts : front ≡ other
  pub rests : rest ≡ more

same_place : (columns : List Column) (bytes : List ℕ) (c d : Column) (front other : List Value) (rest more : List ℕ)
    → (f : ReachesColumn columns bytes c front rest) → (g : ReachesColumn columns bytes d other more) → length f.before ≡ length g.before → SamePlace c d front other rest more
same_place columns bytes c d front other rest more f g len =
    let in_columns = append_same f.before g.before (c ∷ f.after) (d ∷ g.after) len (sym f.columns_are ∙ g.columns_are) in
    let columns_end = in_columns.1 in
    let column : d ≡ c = cc in
    let fronts = rows_once f.before front other rest more f.row_of (subst (λ cs. IsWideRow cs other) (sym in_columns.0) g.row_of) (sym f.bytes_are ∙ g.bytes_are ∙ ap (λ cs. row_bytes cs other ++ more) (sym in_columns.0)) in
    record { column = column; fronts = fronts.0; rests = fronts.1 }

-- the first stop is at one place
pub one_stop : (columns : List Column) (bytes : List ℕ) (c d : Column) (front other : List Value) (rest more : List ℕ) (ends until : Bool)
    → ReachesColumn columns bytes c front rest → IsStop ends c rest → ReachesColumn columns bytes d other more → IsStop until d more → SamePlace c d front other rest more
one_stop columns bytes c d front other rest more ends until f stop g halt =
    elim (cases_order (length f.before) (length g.before)) [
      | inl same ↦ same_place columns bytes c d front other rest more f g same
      | inr (inl earlier) ↦ absurd (not_earlier columns bytes c d front other rest more ends f stop g earlier)
      | inr (inr later) ↦ absurd (not_earlier columns bytes d c other front more rest until g halt f later)
    ]

ends_not : (bytes : List ℕ) → EndsInText bytes → 4 + told_length bytes ≤ length bytes → ⊥
ends_not bytes (inl short) all = omega (arith, short, all)
ends_not bytes (inr short) all = omega (arith, short, all)

value_ends_apart : (kind : Kind) (bytes : List ℕ) → EndsInValue kind bytes → IsIllValue kind bytes → ⊥
value_ends_apart kind.Int bytes ends ill = ill
value_ends_apart kind.Words bytes ends ill = ends_not bytes ends ill.0

ends_apart_by : (flagged : Bool) (kind : Kind) (bytes : List ℕ) → EndsInBy flagged kind bytes → IsIllBy flagged kind bytes → ⊥
ends_apart_by false kind bytes ends ill = value_ends_apart kind bytes ends ill
ends_apart_by true kind [] ends ill = ill
ends_apart_by true kind (flag ∷ rest) ends (inl differs) = differs.1 ends.0
ends_apart_by true kind (flag ∷ rest) ends (inr ill) = value_ends_apart kind rest ends.1 ill.1

-- where the bytes end no text is all there
pub ends_apart : (c : Column) (bytes : List ℕ) → EndsInCell c bytes → IsIllCell c bytes → ⊥
ends_apart c bytes ends ill = ends_apart_by c.optional c.kind bytes ends ill

take_push : (columns : List Column) (row : List Value) (c : Column) (v : Value) → TakeEach columns row → Takes c v → TakeEach (columns ++ c ∷ []) (row ++ v ∷ [])
take_push [] [] c v each takes = (takes, tt)
take_push [] (w ∷ ws) c v each takes = absurd each
take_push (d ∷ ds) [] c v each takes = absurd each
take_push (d ∷ ds) (w ∷ ws) c v each takes = (each.0, take_push ds ws c v each.1 takes)

pub row_push : (columns : List Column) (row : List Value) (c : Column) (v : Value) → IsWideRow columns row → Takes c v → IsWideValue v → IsWideRow (columns ++ c ∷ []) (row ++ v ∷ [])
row_push columns row c v so_far takes value = record {
  taken = take_push columns row c v so_far.taken takes;
  values = All-push IsWideValue row v so_far.values value;
}
