-- What is spelled at the front of bytes is read, and nothing else is.
use Rattle.std.proofs.Common.{◌≡◌, ℕ, ◌+◌, ◌-◌, ◌<◌, ◌≤◌, ◌⊎◌, Bool, true, false, List, [], ◌∷◌, ◌++◌, length, get_or, take, drop, Result, Ok, Err, inl, inr, refl, sym, ap, subst, ◌∙◌, append_assoc, arith}
use Rattle.std.specs.Prelude.{IfOk, IfErr}
use Rattle.std.proofs.lemmas.Bool.{cases_order}
use Rattle.std.proofs.lemmas.List.{append-nil, length-append, length-take-le}
use Rattle.std.proofs.lemmas.List.Elements.{All-head, All-tail}
use Rattle.q4_value.specs.declared.column.Column.{Column}
use Rattle.q4_value.specs.declared.column.Kind.{Kind}
use Rattle.q4_value.specs.declared.column.Kind.TheVariants as kind
use Rattle.q4_value.specs.declared.reading.RowBytes.{RowBytes}
use Rattle.q4_value.specs.declared.reading.RowBytes.TheVariants as fault
use Rattle.q4_value.specs.declared.row.Value.{Value}
use Rattle.q4_value.specs.Row.{IsValue, Takes, IsRowOf}
use Rattle.q4_value.specs.Spelling.{cell_bytes, row_bytes}
use Rattle.q4_value.specs.Reading.{told_length, EndsInText, IsUnreadable, IsUnflagged, IsUnreadableBy, IsUnreadableCell, FirstUnreadable, Reads, CellFails, ReadFails}
use Rattle.q4_value.proofs.Rows.{parted, append_same, place_within, as_many, bytes_push}
use Rattle.q4_value.proofs.Spelled.{cell_same, cell_readable}

-- a row of at least one column
record Begins (c : Column) (cs : List Column) (row : List Value) : Type 0 where
  pub value : Value
  pub others : List Value
  pub row_is : row ≡ value ∷ others
  pub takes : Takes c value
  pub is : IsValue value
  pub others_of : IsRowOf cs others

split : (c : Column) (cs : List Column) (v : Value) (vs : List Value) → IsRowOf (c ∷ cs) (v ∷ vs) → Takes c v × IsValue v × IsRowOf cs vs
split c cs v vs row_of =
    (row_of.taken.0, All-head IsValue v vs row_of.values, record { taken = row_of.taken.1; values = All-tail IsValue v vs row_of.values })

begins : (c : Column) (cs : List Column) (row : List Value) → IsRowOf (c ∷ cs) row → Begins c cs row
begins c cs [] row_of = absurd row_of.taken
begins c cs (v ∷ vs) row_of =
    let parts = split c cs v vs row_of in
    record { value = v; others = vs; row_is = refl; takes = parts.0; is = parts.1; others_of = parts.2 }

no_columns : (row : List Value) → IsRowOf [] row → row ≡ []
no_columns [] row_of = refl
no_columns (v ∷ vs) row_of = absurd row_of.taken

-- what a row has behind a front that was read
pub record Continues (after : List Column) (front row : List Value) (rest more : List ℕ) : Type 0 where
  pub others : List Value
  pub row_is : row ≡ front ++ others
  pub others_of : IsRowOf after others
  pub rest_is : rest ≡ row_bytes after others ++ more

continues : (before after : List Column) (front row : List Value) (rest more : List ℕ) → IsRowOf before front → IsRowOf (before ++ after) row → row_bytes before front ++ rest ≡ row_bytes (before ++ after) row ++ more → Continues after front row rest more
continues [] after [] row rest more front_of row_of e = record { others = row; row_is = refl; others_of = row_of; rest_is = e }
continues [] after (v ∷ vs) row rest more front_of row_of e = absurd front_of.taken
continues (c ∷ cs) after [] row rest more front_of row_of e = absurd front_of.taken
continues (c ∷ cs) after (v ∷ vs) row rest more front_of row_of e =
    let f = split c cs v vs front_of in
    let r = begins c (cs ++ after) row row_of in
    let first : cell_bytes c v ++ (row_bytes cs vs ++ rest) ≡ cell_bytes c r.value ++ (row_bytes (cs ++ after) r.others ++ more) =
    sym (append_assoc (cell_bytes c v) (row_bytes cs vs) rest) ∙ e ∙ ap (λ ws. row_bytes (c ∷ (cs ++ after)) ws ++ more) r.row_is
    ∙ append_assoc (cell_bytes c r.value) (row_bytes (cs ++ after) r.others) more in
    let one = cell_same c v r.value (row_bytes cs vs ++ rest) (row_bytes (cs ++ after) r.others ++ more) f.1 r.is f.0 r.takes first in
    let deeper = continues cs after vs r.others rest more f.2 r.others_of one.1 in
    let row_is : row ≡ (v ∷ vs) ++ deeper.others = r.row_is ∙ ap (λ w. w ∷ r.others) (sym one.0) ∙ ap (λ ws. v ∷ ws) deeper.row_is in
    record { others = deeper.others; row_is = row_is; others_of = deeper.others_of; rest_is = deeper.rest_is }

pub rows_once : (columns : List Column) (one other : List Value) (more rest : List ℕ) → IsRowOf columns one → IsRowOf columns other → row_bytes columns one ++ more ≡ row_bytes columns other ++ rest → (one ≡ other) × (more ≡ rest)
rows_once columns one other more rest one_of other_of e =
    let all : columns ≡ columns ++ [] = sym (append-nil columns) in
    let c = continues columns [] one other more rest one_of (subst (λ cs. IsRowOf cs other) all other_of) (e ∙ ap (λ cs. row_bytes cs other ++ rest) all) in
    let none = no_columns c.others c.others_of in
    (sym (append-nil one) ∙ ap (λ vs. one ++ vs) (sym none) ∙ sym c.row_is, c.rest_is ∙ ap (λ vs. row_bytes [] vs ++ rest) none)

pub read_once : (columns : List Column) (bytes : List ℕ) (row other : List Value) (len : ℕ) (more : List ℕ) → Reads columns bytes other len → IsRowOf columns row → bytes ≡ row_bytes columns row ++ more → (other ≡ row) × (len ≡ length (row_bytes columns row))
read_once columns bytes row other len more read row_of e =
    let same = (rows_once columns other row read.rest more read.row_of row_of (sym read.bytes_are ∙ e)).0 in
    (same, read.len_is ∙ ap (λ vs. length (row_bytes columns vs)) same)

pub readable : (columns : List Column) (bytes : List ℕ) (row : List Value) (more : List ℕ) (why : RowBytes) → FirstUnreadable columns bytes why → IsRowOf columns row → bytes ≡ row_bytes columns row ++ more → ⊥
readable columns bytes row more why f row_of e =
    let c = continues f.before (f.column ∷ f.after) f.front row f.rest more f.row_of (subst (λ cs. IsRowOf cs row) f.columns_are row_of) (sym f.bytes_are ∙ e ∙ ap (λ cs. row_bytes cs row ++ more) f.columns_are) in
    let next = begins f.column f.after c.others c.others_of in
    let here : f.rest ≡ cell_bytes f.column next.value ++ (row_bytes f.after next.others ++ more) =
    c.rest_is ∙ ap (λ vs. row_bytes (f.column ∷ f.after) vs ++ more) next.row_is ∙ append_assoc (cell_bytes f.column next.value) (row_bytes f.after next.others) more in
    cell_readable f.column next.value (row_bytes f.after next.others ++ more) (length (row_bytes f.before f.front)) (length f.before + 1) why next.is next.takes
    (subst (λ bs. IsUnreadableCell f.column bs (length (row_bytes f.before f.front)) (length f.before + 1) why) here f.unreadable)

pub read_again : (columns : List Column) (bytes : List ℕ) (r : Result (List Value × ℕ) RowBytes) → IfOk r (λ found. Reads columns bytes found.0 found.1) → IfErr r (ReadFails columns bytes)
    → (row : List Value) (more : List ℕ) → IsRowOf columns row → bytes ≡ row_bytes columns row ++ more → (r ≡ Ok (row, length (row_bytes columns row))) ⊎ (r ≡ Err fault.Memory)
read_again columns bytes (Ok found) read fails row more row_of e =
    let one = read_once columns bytes row found.0 found.1 more read row_of e in
    let same : found ≡ (row, length (row_bytes columns row)) = λ i. (one.0 i, one.1 i) in inl (ap Ok same)
read_again columns bytes (Err fault.Memory) read fails row more row_of e = inr refl
read_again columns bytes (Err (fault.Short at)) read fails row more row_of e = absurd (readable columns bytes row more (fault.Short at) fails row_of e)
read_again columns bytes (Err (fault.NotText n)) read fails row more row_of e = absurd (readable columns bytes row more (fault.NotText n) fails row_of e)
read_again columns bytes (Err (fault.Large n)) read fails row more row_of e = absurd (readable columns bytes row more (fault.Large n) fails row_of e)
read_again columns bytes (Err (fault.Flag n)) read fails row more row_of e = absurd (readable columns bytes row more (fault.Flag n) fails row_of e)

first : (columns : List Column) (row : List Value) (bytes rest : List ℕ) (i : ℕ) (c : Column) (why : RowBytes) → i < length columns → c ≡ get_or columns i c → IsRowOf (take i columns) row → bytes ≡ row_bytes (take i columns) row ++ rest
    → IsUnreadableCell c rest (length bytes - length rest) (i + 1) why → FirstUnreadable columns bytes why
first columns row bytes rest i c why lt c_is row_of e unreadable =
    let at : length (take i columns) ≡ i = length-take-le i columns (omega arith) in
    let offset : length bytes - length rest ≡ length (row_bytes (take i columns) row) = omega (arith, ap length e, length-append (row_bytes (take i columns) row) rest) in
    record {
      before = take i columns;
      column = c;
      after = drop (i + 1) columns;
      front = row;
      rest = rest;
      columns_are = parted columns i c lt c_is;
      row_of = row_of;
      bytes_are = e;
      unreadable = subst (λ n. IsUnreadableCell c rest (length (row_bytes (take i columns) row)) (n + 1) why) (sym at) (subst (λ n. IsUnreadableCell c rest n (i + 1) why) offset unreadable);
    }

pub read_fails : (columns : List Column) (row : List Value) (bytes rest : List ℕ) (i : ℕ) (c : Column) (why : RowBytes) → i < length columns → c ≡ get_or columns i c → IsRowOf (take i columns) row → bytes ≡ row_bytes (take i columns) row ++ rest
    → CellFails c rest (length bytes - length rest) (i + 1) why → ReadFails columns bytes why
read_fails columns row bytes rest i c fault.Memory lt c_is row_of e fails = tt
read_fails columns row bytes rest i c (fault.Short at) lt c_is row_of e fails = first columns row bytes rest i c (fault.Short at) lt c_is row_of e fails
read_fails columns row bytes rest i c (fault.NotText n) lt c_is row_of e fails = first columns row bytes rest i c (fault.NotText n) lt c_is row_of e fails
read_fails columns row bytes rest i c (fault.Large n) lt c_is row_of e fails = first columns row bytes rest i c (fault.Large n) lt c_is row_of e fails
read_fails columns row bytes rest i c (fault.Flag n) lt c_is row_of e fails = first columns row bytes rest i c (fault.Flag n) lt c_is row_of e fails

-- one more value was read
pub read_more : (columns : List Column) (bytes rest after : List ℕ) (row : List Value) (c : Column) (v : Value) → IsRowOf columns row → bytes ≡ row_bytes columns row ++ rest → rest ≡ cell_bytes c v ++ after
    → bytes ≡ row_bytes (columns ++ c ∷ []) (row ++ v ∷ []) ++ after
read_more columns bytes rest after row c v row_of e more =
    e ∙ ap (λ bs. row_bytes columns row ++ bs) more ∙ sym (append_assoc (row_bytes columns row) (cell_bytes c v) after)
    ∙ ap (λ bs. bs ++ after) (sym (bytes_push columns row c v (as_many columns row row_of.taken)))

-- ---- one fault at most

ends_not : (bytes : List ℕ) → EndsInText bytes → 4 + told_length bytes ≤ length bytes → ⊥
ends_not bytes (inl short) all = omega (arith, short, all)
ends_not bytes (inr short) all = omega (arith, short, all)

same_cause : (kind : Kind) (bytes : List ℕ) (offset column : ℕ) (one other : RowBytes) → IsUnreadable kind bytes offset column one → IsUnreadable kind bytes offset column other → one ≡ other
same_cause kind.Int bytes offset column (fault.Short a) (fault.Short b) p q = ap fault.Short (p.0 ∙ sym q.0)
same_cause kind.Int bytes offset column (fault.Short a) (fault.NotText b) p q = absurd q
same_cause kind.Int bytes offset column (fault.Short a) (fault.Large b) p q = absurd q
same_cause kind.Int bytes offset column (fault.Short a) (fault.Flag b) p q = absurd q
same_cause kind.Int bytes offset column (fault.Short a) fault.Memory p q = absurd q
same_cause kind.Int bytes offset column (fault.NotText a) other p q = absurd p
same_cause kind.Int bytes offset column (fault.Large a) other p q = absurd p
same_cause kind.Int bytes offset column (fault.Flag a) other p q = absurd p
same_cause kind.Int bytes offset column fault.Memory other p q = absurd p
same_cause kind.Words bytes offset column (fault.Short a) (fault.Short b) p q = ap fault.Short (p.0 ∙ sym q.0)
same_cause kind.Words bytes offset column (fault.Short a) (fault.NotText b) p q = absurd (ends_not bytes p.2 q.2.0)
same_cause kind.Words bytes offset column (fault.Short a) (fault.Large b) p q = absurd (p.1 q.1)
same_cause kind.Words bytes offset column (fault.Short a) (fault.Flag b) p q = absurd q
same_cause kind.Words bytes offset column (fault.Short a) fault.Memory p q = absurd q
same_cause kind.Words bytes offset column (fault.NotText a) (fault.Short b) p q = absurd (ends_not bytes q.2 p.2.0)
same_cause kind.Words bytes offset column (fault.NotText a) (fault.NotText b) p q = ap fault.NotText (p.0 ∙ sym q.0)
same_cause kind.Words bytes offset column (fault.NotText a) (fault.Large b) p q = absurd (p.1 q.1)
same_cause kind.Words bytes offset column (fault.NotText a) (fault.Flag b) p q = absurd q
same_cause kind.Words bytes offset column (fault.NotText a) fault.Memory p q = absurd q
same_cause kind.Words bytes offset column (fault.Large a) (fault.Short b) p q = absurd (q.1 p.1)
same_cause kind.Words bytes offset column (fault.Large a) (fault.NotText b) p q = absurd (q.1 p.1)
same_cause kind.Words bytes offset column (fault.Large a) (fault.Large b) p q = ap fault.Large (p.0 ∙ sym q.0)
same_cause kind.Words bytes offset column (fault.Large a) (fault.Flag b) p q = absurd q
same_cause kind.Words bytes offset column (fault.Large a) fault.Memory p q = absurd q
same_cause kind.Words bytes offset column (fault.Flag a) other p q = absurd p
same_cause kind.Words bytes offset column fault.Memory other p q = absurd p

-- what stands behind a flag of 1 cannot be read for one cause
behind : (wanted : Kind) (flag : ℕ) (rest : List ℕ) (offset column : ℕ) (one other : RowBytes) → flag ≡ 1 → IsUnreadable wanted rest offset column one → IsUnflagged wanted (flag ∷ rest) offset column other → one ≡ other
behind wanted flag rest offset column one (fault.Short b) is p q = same_cause wanted rest offset column one (fault.Short b) p q.1
behind wanted flag rest offset column one (fault.NotText b) is p q = same_cause wanted rest offset column one (fault.NotText b) p q.1
behind wanted flag rest offset column one (fault.Large b) is p q = same_cause wanted rest offset column one (fault.Large b) p q.1
behind wanted flag rest offset column one (fault.Flag b) is p q = absurd (q.2 is)
behind wanted flag rest offset column one fault.Memory is p q = same_cause wanted rest offset column one fault.Memory p q.1

-- a flag that is none, or what stands behind a flag of 1
same_unflagged : (wanted : Kind) (bytes : List ℕ) (offset column : ℕ) (one other : RowBytes) → IsUnflagged wanted bytes offset column one → IsUnflagged wanted bytes offset column other → one ≡ other
same_unflagged wanted [] offset column (fault.Short a) (fault.Short b) p q = ap fault.Short (p ∙ sym q)
same_unflagged wanted [] offset column (fault.Short a) (fault.NotText b) p q = absurd q
same_unflagged wanted [] offset column (fault.Short a) (fault.Large b) p q = absurd q
same_unflagged wanted [] offset column (fault.Short a) (fault.Flag b) p q = absurd q
same_unflagged wanted [] offset column (fault.Short a) fault.Memory p q = absurd q
same_unflagged wanted [] offset column (fault.NotText a) other p q = absurd p
same_unflagged wanted [] offset column (fault.Large a) other p q = absurd p
same_unflagged wanted [] offset column (fault.Flag a) other p q = absurd p
same_unflagged wanted [] offset column fault.Memory other p q = absurd p
same_unflagged wanted (flag ∷ rest) offset column (fault.Flag a) (fault.Flag b) p q = ap fault.Flag (p.0 ∙ sym q.0)
same_unflagged wanted (flag ∷ rest) offset column (fault.Flag a) (fault.Short b) p q = absurd (p.2 q.0)
same_unflagged wanted (flag ∷ rest) offset column (fault.Flag a) (fault.NotText b) p q = absurd (p.2 q.0)
same_unflagged wanted (flag ∷ rest) offset column (fault.Flag a) (fault.Large b) p q = absurd (p.2 q.0)
same_unflagged wanted (flag ∷ rest) offset column (fault.Flag a) fault.Memory p q = absurd (p.2 q.0)
same_unflagged wanted (flag ∷ rest) offset column (fault.Short a) other p q = behind wanted flag rest offset column (fault.Short a) other p.0 p.1 q
same_unflagged wanted (flag ∷ rest) offset column (fault.NotText a) other p q = behind wanted flag rest offset column (fault.NotText a) other p.0 p.1 q
same_unflagged wanted (flag ∷ rest) offset column (fault.Large a) other p q = behind wanted flag rest offset column (fault.Large a) other p.0 p.1 q
same_unflagged wanted (flag ∷ rest) offset column fault.Memory other p q = behind wanted flag rest offset column fault.Memory other p.0 p.1 q

same_cell_by : (flagged : Bool) (wanted : Kind) (bytes : List ℕ) (offset column : ℕ) (one other : RowBytes) → IsUnreadableBy flagged wanted bytes offset column one → IsUnreadableBy flagged wanted bytes offset column other → one ≡ other
same_cell_by false wanted bytes offset column one other p q = same_cause wanted bytes offset column one other p q
same_cell_by true wanted bytes offset column one other p q = same_unflagged wanted bytes offset column one other p q

not_earlier : (columns : List Column) (bytes : List ℕ) (one other : RowBytes) → (f : FirstUnreadable columns bytes one) (g : FirstUnreadable columns bytes other) → length f.before < length g.before → ⊥
not_earlier columns bytes one other f g lt =
    let in_columns = place_within f.before g.before f.column g.column f.after g.after (sym f.columns_are ∙ g.columns_are) lt in
    readable g.before bytes g.front g.rest one (record {
      before = f.before;
      column = f.column;
      after = in_columns.0;
      front = f.front;
      rest = f.rest;
      columns_are = in_columns.1;
      row_of = f.row_of;
      bytes_are = f.bytes_are;
      unreadable = f.unreadable;
    }) g.row_of g.bytes_are

same_place : (columns : List Column) (bytes : List ℕ) (one other : RowBytes) → (f : FirstUnreadable columns bytes one) (g : FirstUnreadable columns bytes other) → length f.before ≡ length g.before → one ≡ other
same_place columns bytes one other f g len =
    let in_columns = append_same f.before g.before (f.column ∷ f.after) (g.column ∷ g.after) len (sym f.columns_are ∙ g.columns_are) in
    let columns_end = in_columns.1 in
    let column : g.column ≡ f.column = cc in
    let before : g.before ≡ f.before = sym in_columns.0 in
    let fronts = rows_once f.before f.front g.front f.rest g.rest f.row_of (subst (λ cs. IsRowOf cs g.front) before g.row_of) (sym f.bytes_are ∙ g.bytes_are ∙ ap (λ cs. row_bytes cs g.front ++ g.rest) before) in
    let here : IsUnreadableCell f.column f.rest (length (row_bytes f.before f.front)) (length f.before + 1) other =
    subst (λ cs. IsUnreadableCell f.column f.rest (length (row_bytes cs f.front)) (length cs + 1) other) before
    (subst (λ vs. IsUnreadableCell f.column f.rest (length (row_bytes g.before vs)) (length g.before + 1) other) (sym fronts.0)
    (subst (λ bs. IsUnreadableCell f.column bs (length (row_bytes g.before g.front)) (length g.before + 1) other) (sym fronts.1)
    (subst (λ c. IsUnreadableCell c g.rest (length (row_bytes g.before g.front)) (length g.before + 1) other) column g.unreadable))) in
    same_cell_by f.column.optional f.column.kind f.rest (length (row_bytes f.before f.front)) (length f.before + 1) one other f.unreadable here

pub one_unreadable : (columns : List Column) (bytes : List ℕ) (one other : RowBytes) → FirstUnreadable columns bytes one → FirstUnreadable columns bytes other → one ≡ other
one_unreadable columns bytes one other f g =
    elim (cases_order (length f.before) (length g.before)) [
      | inl same ↦ same_place columns bytes one other f g same
      | inr (inl earlier) ↦ absurd (not_earlier columns bytes one other f g earlier)
      | inr (inr later) ↦ absurd (not_earlier columns bytes other one g f later)
    ]
