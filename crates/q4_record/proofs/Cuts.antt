-- Where a row ends too early or is ill-formed, and what that says of the rows that could stand there.
use Rattle.std.proofs.Common.{◌≡◌, ℕ, ◌||◌, ◌&&◌, ◌==◌, Bool, true, false, List, [], ◌∷◌, ◌++◌, length, inl, inr, refl, sym, ap, subst, ◌∙◌, arith}
use Rattle.std.specs.List.{All, list_any}
use Rattle.std.proofs.lemmas.Bool.{cases_lt, false≢true}
use Rattle.std.proofs.lemmas.List.Elements.{All-weaker, All-cons, All-nil, All-head, All-tail}
use Rattle.std.proofs.lemmas.List.Folds.{list_any_none}
use Rattle.q4_value.specs.declared.column.Column.{Column}
use Rattle.q4_value.specs.declared.column.Kind.{Kind}
use Rattle.q4_value.specs.declared.column.Kind.TheVariants as kind
use Rattle.q4_value.specs.declared.reading.RowBytes.TheVariants as fault
use Rattle.q4_value.specs.declared.row.Value.{Value}
use Rattle.q4_value.specs.declared.row.Value.TheVariants.{Int, Word, Null}
use Rattle.q4_value.specs.Row.{text_limit, IsValue, IsRowOf}
use Rattle.q4_value.specs.Reading.{told_length, TellsTooMuch, IsUnreadable, IsUnreadableBy, FirstUnreadable}
use Rattle.q4_value.specs.Spelling.{row_bytes}
use Rattle.q4_record.specs.Wide.{IsWideValue, IsWideRow, is_long, EndsInValue, EndsInBy, EndsInCell, tells_long, tells_long_by, cell_tells_long, CutLong}
use Rattle.q4_record.specs.Extents.{IsIllValue, IsIllBy, IsIllCell, CutRow, IllRow}
use Rattle.q4_record.proofs.WideRows.{SamePlace, one_stop, stands_not, ends_apart}

-- a value of a row may be a wide one
wide_value : (v : Value) → IsValue v → IsWideValue v
wide_value (Int z) is = is
wide_value (Word text) is = let small = is.1 in (is.0, omega arith)
wide_value Null is = tt

not_long : (v : Value) → IsValue v → is_long v ≡ false
not_long (Int z) is = refl
not_long (Word text) is = let small = is.1 in grind arith
not_long Null is = refl

short_value : (v : Value) → IsWideValue v → is_long v ≡ false → IsValue v
short_value (Int z) is short = is
short_value (Word text) is short = (is.0, grind arith)
short_value Null is short = tt

pub wide_row : (columns : List Column) (row : List Value) → IsRowOf columns row → IsWideRow columns row
wide_row columns row is = record { taken = is.taken; values = All-weaker IsValue IsWideValue wide_value row is.values }

pub none_long : (row : List Value) → All IsValue row → list_any is_long row ≡ false
none_long row values = list_any_none is_long row (All-weaker IsValue (λ v. is_long v ≡ false) not_long row values)

short_values : (row : List Value) → All IsWideValue row → list_any is_long row ≡ false → All IsValue row
short_values [] values none = All-nil IsValue
short_values (v ∷ vs) values none =
    let head : is_long v ≡ false = grind arith in
    let tail : list_any is_long vs ≡ false = grind arith in
    All-cons IsValue v vs (short_value v (All-head IsWideValue v vs values) head) (short_values vs (All-tail IsWideValue v vs values) tail)

-- a wide row without too long a text is a row
pub short_row : (columns : List Column) (row : List Value) → IsWideRow columns row → list_any is_long row ≡ false → IsRowOf columns row
short_row columns row is none = record { taken = is.taken; values = short_values row is.values none }

tells_not : (bytes : List ℕ) → (TellsTooMuch bytes → ⊥) → tells_long kind.Words bytes ≡ false
tells_not bytes none =
    elim (cases_lt (length bytes) 4) [
      | inl short ↦ grind arith
      | inr enough ↦ elim (cases_lt text_limit (told_length bytes)) [
        | inl much ↦ absurd (none (enough, much))
        | inr few ↦ grind arith
      ]
    ]

short_cut : (k : Kind) (bytes : List ℕ) (offset column at : ℕ) → IsUnreadable k bytes offset column (fault.Short at) → EndsInValue k bytes × (tells_long k bytes ≡ false)
short_cut kind.Int bytes offset column at un = (un.1, refl)
short_cut kind.Words bytes offset column at un = (un.2, tells_not bytes un.1)

and_false : (a b : Bool) → b ≡ false → (a && b) ≡ false
and_false true b off = off
and_false false b off = refl

short_by : (flagged : Bool) (k : Kind) (bytes : List ℕ) (offset column at : ℕ) → IsUnreadableBy flagged k bytes offset column (fault.Short at) → EndsInBy flagged k bytes × (tells_long_by flagged k bytes ≡ false)
short_by false k bytes offset column at un = short_cut k bytes offset column at un
short_by true k [] offset column at un = (tt, refl)
short_by true k (flag ∷ rest) offset column at un =
    let behind = short_cut k rest offset column at un.1 in
    ((un.0, behind.0), and_false (flag == 1) (tells_long k rest) behind.1)

ill_text : (k : Kind) (bytes : List ℕ) (offset column n : ℕ) → IsUnreadable k bytes offset column (fault.NotText n) → IsIllValue k bytes
ill_text kind.Int bytes offset column n un = un
ill_text kind.Words bytes offset column n un = un.2

ill_by : (flagged : Bool) (k : Kind) (bytes : List ℕ) (offset column n : ℕ) → IsUnreadableBy flagged k bytes offset column (fault.NotText n) → IsIllBy flagged k bytes
ill_by false k bytes offset column n un = ill_text k bytes offset column n un
ill_by true k [] offset column n un = un
ill_by true k (flag ∷ rest) offset column n un = inr (un.0, ill_text k rest offset column n un.1)

no_flag : (k : Kind) (bytes : List ℕ) (offset column n : ℕ) → IsUnreadable k bytes offset column (fault.Flag n) → ⊥
no_flag kind.Int bytes offset column n un = un
no_flag kind.Words bytes offset column n un = un

bad_flag_by : (flagged : Bool) (k : Kind) (bytes : List ℕ) (offset column n : ℕ) → IsUnreadableBy flagged k bytes offset column (fault.Flag n) → IsIllBy flagged k bytes
bad_flag_by false k bytes offset column n un = absurd (no_flag k bytes offset column n un)
bad_flag_by true k [] offset column n un = un
bad_flag_by true k (flag ∷ rest) offset column n un = inl (un.1, un.2)

pub cut_of_short : (columns : List Column) (bytes : List ℕ) (at : ℕ) → FirstUnreadable columns bytes (fault.Short at) → CutRow columns bytes false
cut_of_short columns bytes at f =
    let s = short_by f.column.optional f.column.kind f.rest (length (row_bytes f.before f.front)) _ at f.unreadable in
    record {
      column = f.column;
      front = f.front;
      rest = f.rest;
      reaches = record { before = f.before; after = f.after; columns_are = f.columns_are; row_of = wide_row f.before f.front f.row_of; bytes_are = f.bytes_are };
      ends = s.0;
      long_is = sym (ap (λ b. b || cell_tells_long f.column f.rest) (none_long f.front f.row_of.values) ∙ s.1);
    }

pub ill_of_not_text : (columns : List Column) (bytes : List ℕ) (n : ℕ) → FirstUnreadable columns bytes (fault.NotText n) → IllRow columns bytes
ill_of_not_text columns bytes n f = record {
  column = f.column;
  front = f.front;
  rest = f.rest;
  reaches = record { before = f.before; after = f.after; columns_are = f.columns_are; row_of = wide_row f.before f.front f.row_of; bytes_are = f.bytes_are };
  ill = ill_by f.column.optional f.column.kind f.rest (length (row_bytes f.before f.front)) _ n f.unreadable;
}

pub ill_of_flag : (columns : List Column) (bytes : List ℕ) (n : ℕ) → FirstUnreadable columns bytes (fault.Flag n) → IllRow columns bytes
ill_of_flag columns bytes n f = record {
  column = f.column;
  front = f.front;
  rest = f.rest;
  reaches = record { before = f.before; after = f.after; columns_are = f.columns_are; row_of = wide_row f.before f.front f.row_of; bytes_are = f.bytes_are };
  ill = bad_flag_by f.column.optional f.column.kind f.rest (length (row_bytes f.before f.front)) _ n f.unreadable;
}

same_cut : (c d : Column) (front other : List Value) (rest more : List ℕ) → SamePlace c d front other rest more → (list_any is_long front || cell_tells_long c rest) ≡ (list_any is_long other || cell_tells_long d more)
same_cut c d front other rest more s =
    ap (λ vs. list_any is_long vs || cell_tells_long c rest) s.fronts ∙ ap (λ bs. list_any is_long other || cell_tells_long c bs) s.rests ∙ ap (λ (e : Column). list_any is_long other || cell_tells_long e more) (sym s.column)

pub none_of_cut : (columns : List Column) (bytes : List ℕ) → CutRow columns bytes false → ((row : List Value) (rest : List ℕ) → IsWideRow columns row → bytes ≡ row_bytes columns row ++ rest → ⊥) × (CutLong columns bytes → ⊥)
none_of_cut columns bytes f = (
  λ row rest is e. stands_not columns bytes row rest f.column f.front f.rest true f.reaches f.ends is e,
  λ g. false≢true (f.long_is ∙ same_cut f.column g.column f.front g.front f.rest g.rest (one_stop columns bytes f.column g.column f.front g.front f.rest g.rest true true f.reaches f.ends g.reaches g.ends) ∙ g.long),
)

ill_place : (c d : Column) (front other : List Value) (rest more : List ℕ) → SamePlace c d front other rest more → IsIllCell c rest → EndsInCell d more → ⊥
ill_place c d front other rest more s ill ends =
    ends_apart d more ends (subst (λ (e : Column). IsIllCell e more) (sym s.column) (subst (IsIllCell c) s.rests ill))

pub none_of_ill : (columns : List Column) (bytes : List ℕ) → IllRow columns bytes → ((row : List Value) (rest : List ℕ) → IsWideRow columns row → bytes ≡ row_bytes columns row ++ rest → ⊥) × (CutLong columns bytes → ⊥)
none_of_ill columns bytes f = (
  λ row rest is e. stands_not columns bytes row rest f.column f.front f.rest false f.reaches f.ill is e,
  λ g. ill_place f.column g.column f.front g.front f.rest g.rest (one_stop columns bytes f.column g.column f.front g.front f.rest g.rest false true f.reaches f.ill g.reaches g.ends) f.ill g.ends,
)

-- a row that is cut off behind too long a text is none that stands
pub cut_not_whole : (columns : List Column) (bytes : List ℕ) (row : List Value) (rest : List ℕ) → CutLong columns bytes → IsWideRow columns row → bytes ≡ row_bytes columns row ++ rest → ⊥
cut_not_whole columns bytes row rest g is e = stands_not columns bytes row rest g.column g.front g.rest true g.reaches g.ends is e

pub cut_long : (columns : List Column) (bytes : List ℕ) → CutRow columns bytes true → CutLong columns bytes
cut_long columns bytes f = record { column = f.column; front = f.front; rest = f.rest; reaches = f.reaches; ends = f.ends; long = sym f.long_is }
