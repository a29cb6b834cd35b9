-- How far a row goes, value by value.
use Rattle.std.proofs.Common.{◌≡◌, ◌≢◌, ℕ, ◌+◌, ◌-◌, ◌^◌, ◌<◌, ◌≤◌, ◌||◌, Bool, true, false, List, [], ◌∷◌, ◌++◌, length, get_or, take, drop, ltb, inl, inr, refl, sym, ap, subst, ◌∙◌, append_assoc, arith}
use Rattle.std.specs.List.{list_any}
use Rattle.std.specs.Int.{w32, to_be_bytes}
use Rattle.std.specs.Str.{IsUtf8}
use Rattle.std.proofs.lemmas.List.{length-take-le, take-append-drop, drop_at, take_all, length-append}
use Rattle.std.proofs.lemmas.List.Elements.{All-nil}
use Rattle.std.proofs.lemmas.List.Folds.{list_any-append}
use Rattle.q4_value.specs.declared.column.Column.{Column}
use Rattle.q4_value.specs.declared.column.Kind.{Kind}
use Rattle.q4_value.specs.declared.column.Kind.TheVariants as kind
use Rattle.q4_value.specs.declared.row.Value.{Value}
use Rattle.q4_value.specs.declared.row.Value.TheVariants.{Int, Word, Null}
use Rattle.q4_value.specs.Row.{text_limit, IsOf, Takes}
use Rattle.q4_value.specs.Spelling.{value_bytes, flag_of, flag_bytes, cell_bytes, row_bytes}
use Rattle.q4_value.proofs.Rows.{take_next, parted, as_many, bytes_push}
use Rattle.q4_record.specs.declared.extent.Extent.{Extent}
use Rattle.q4_record.specs.declared.extent.Extent.TheVariants.{Whole, Cut, Unreadable}
use Rattle.q4_record.specs.Wide.{IsWideValue, IsWideRow, is_long, EndsInValue, EndsInBy, EndsInCell, tells_long, tells_long_by, cell_tells_long, ReachesColumn}
use Rattle.q4_record.specs.Extents.{WholeValue, IsIllValue, IsValueExtent, WholeCell, IsIllBy, IsIllCell, IsCellExtent, WholeRow, CutRow, IllRow}
use Rattle.q4_record.proofs.WideRows.{row_push}

-- a text that is all there
pub whole_text : (bytes rest : List ℕ) (len : ℕ) → bytes ≡ to_be_bytes w32 len ++ rest → len < 2 ^ 32 → len ≤ length rest → IsUtf8 (take len rest) → WholeValue kind.Words bytes (4 + len) (ltb text_limit len)
whole_text bytes rest len e fits within utf8 =
    let n : length (take len rest) ≡ len = length-take-le len rest within in
    record {
      value = Word (take len rest);
      rest = drop len rest;
      is_of = refl;
      is = (utf8, subst (λ k. k < 2 ^ 32) (sym n) fits);
      bytes_are = e ∙ ap (λ k. to_be_bytes w32 k ++ rest) (sym n) ∙ ap (λ bs. to_be_bytes w32 (length (take len rest)) ++ bs) (sym (take-append-drop len rest));
      len_is = omega (arith, n);
      long_is = ap (ltb text_limit) (sym n);
    }

-- a number that is all there
pub whole_number : (bytes : List ℕ) (v : Value) (rest : List ℕ) → IsOf kind.Int v → IsWideValue v → bytes ≡ value_bytes v ++ rest → WholeValue kind.Int bytes 8 false
whole_number bytes (Int z) rest k is e = record { value = Int z; rest = rest; is_of = refl; is = is; bytes_are = e; len_is = refl; long_is = refl }
whole_number bytes (Word text) rest k is e = absurd cc
whole_number bytes Null rest k is e = absurd k

-- ---- what stands for the value of a column

takes_of : (c : Column) (v : Value) → IsOf c.kind v → Takes c v
takes_of c (Int z) is_of = is_of
takes_of c (Word text) is_of = is_of
takes_of c Null is_of = absurd is_of

one_flag : (wanted : Kind) (v : Value) → IsOf wanted v → flag_of v ≡ 1
one_flag wanted (Int z) is_of = refl
one_flag wanted (Word text) is_of = refl
one_flag wanted Null is_of = absurd is_of

-- without a flag
pub plain_cell : (c : Column) (bytes : List ℕ) (extent : Extent) (long : Bool) → c.optional ≡ false → IsValueExtent c.kind bytes extent long → IsCellExtent c bytes extent long
plain_cell c bytes (Whole len) long off w =
    let same : cell_bytes c w.value ≡ value_bytes w.value = ap (λ b. flag_bytes b w.value ++ value_bytes w.value) off in
    record {
      value = w.value;
      rest = w.rest;
      takes = takes_of c w.value w.is_of;
      is = w.is;
      bytes_are = w.bytes_are ∙ ap (λ bs. bs ++ w.rest) (sym same);
      len_is = w.len_is ∙ ap length (sym same);
      long_is = w.long_is;
    }
plain_cell c bytes Cut long off v = (subst (λ b. EndsInBy b c.kind bytes) (sym off) v.0, v.1 ∙ ap (λ b. tells_long_by b c.kind bytes) (sym off))
plain_cell c bytes Unreadable long off v = subst (λ b. IsIllBy b c.kind bytes) (sym off) v

-- behind the flag 1
pub whole_behind : (c : Column) (rest : List ℕ) (len : ℕ) (long : Bool) → c.optional ≡ true → WholeValue c.kind rest len long → WholeCell c (1 ∷ rest) (1 + len) long
whole_behind c rest len long on w =
    let same : cell_bytes c w.value ≡ 1 ∷ value_bytes w.value =
    ap (λ b. flag_bytes b w.value ++ value_bytes w.value) on ∙ ap (λ f. f ∷ value_bytes w.value) (one_flag c.kind w.value w.is_of) in
    record {
      value = w.value;
      rest = w.rest;
      takes = takes_of c w.value w.is_of;
      is = w.is;
      bytes_are = ap (λ bs. 1 ∷ bs) w.bytes_are ∙ ap (λ bs. bs ++ w.rest) (sym same);
      len_is = omega (arith, w.len_is, ap length same);
      long_is = w.long_is;
    }

pub cut_behind : (c : Column) (rest : List ℕ) (long : Bool) → c.optional ≡ true → EndsInValue c.kind rest → long ≡ tells_long c.kind rest → EndsInCell c (1 ∷ rest) × (long ≡ cell_tells_long c (1 ∷ rest))
cut_behind c rest long on ends tells =
    (subst (λ b. EndsInBy b c.kind (1 ∷ rest)) (sym on) (refl, ends), tells ∙ ap (λ b. tells_long_by b c.kind (1 ∷ rest)) (sym on))

pub ill_behind : (c : Column) (rest : List ℕ) → c.optional ≡ true → IsIllValue c.kind rest → IsIllCell c (1 ∷ rest)
ill_behind c rest on ill = subst (λ b. IsIllBy b c.kind (1 ∷ rest)) (sym on) (inr (refl, ill))

-- the flag 0 alone
pub null_there : (c : Column) (rest : List ℕ) → c.optional ≡ true → WholeCell c (0 ∷ rest) 1 false
null_there c rest on =
    let same : cell_bytes c Null ≡ 0 ∷ [] = ap (λ b. flag_bytes b Null ++ value_bytes Null) on in
    record { value = Null; rest = rest; takes = on; is = tt; bytes_are = ap (λ bs. bs ++ rest) (sym same); len_is = ap length (sym same); long_is = refl }

pub zero_there : (c : Column) (bytes : List ℕ) → c.optional ≡ true → 1 ≤ length bytes → get_or bytes 0 0 ≡ 0 → WholeCell c bytes 1 false
zero_there c [] on lt zero = absurd (omega arith)
zero_there c (b ∷ rest) on lt zero = subst (λ n. WholeCell c (n ∷ rest) 1 false) (sym zero) (null_there c rest on)

-- no flag
pub no_flag_there : (c : Column) → c.optional ≡ true → EndsInCell c [] × (false ≡ cell_tells_long c [])
no_flag_there c on = (subst (λ b. EndsInBy b c.kind []) (sym on) tt, ap (λ b. tells_long_by b c.kind []) (sym on))

-- another flag
pub bad_flag_there : (c : Column) (flag : ℕ) (rest : List ℕ) → c.optional ≡ true → flag ≢ 0 → flag ≢ 1 → IsIllCell c (flag ∷ rest)
bad_flag_there c flag rest on not_0 not_1 = subst (λ b. IsIllBy b c.kind (flag ∷ rest)) (sym on) (inl (not_0, not_1))

-- ---- the row

-- the values of the columns so far are there
pub record RowSoFar (columns : List Column) (bytes : List ℕ) (i : ℕ) (rest : List ℕ) (long : Bool) : Type 0 where
  pub front : List Value
  pub is : IsWideRow (take i columns) front
  pub bytes_are : bytes ≡ row_bytes (take i columns) front ++ rest
  pub long_is : long ≡ list_any is_long front

pub whole_within : (c : Column) (bytes : List ℕ) (len : ℕ) (long : Bool) → WholeCell c bytes len long → len ≤ length bytes
whole_within c bytes len long w = omega (arith, w.len_is, ap length w.bytes_are, length-append (cell_bytes c w.value) w.rest)

pub value_within : (k : Kind) (bytes : List ℕ) (len : ℕ) (long : Bool) → WholeValue k bytes len long → len ≤ length bytes
value_within k bytes len long w = omega (arith, w.len_is, ap length w.bytes_are, length-append (value_bytes w.value) w.rest)

one_any : (v : Value) → list_any is_long (v ∷ []) ≡ is_long v
one_any v = grind arith

-- one more value is there
pub more_there : (columns : List Column) (bytes : List ℕ) (i : ℕ) (rest : List ℕ) (long : Bool) (c : Column) (len : ℕ) (value_long : Bool) → i < length columns → c ≡ get_or columns i c → RowSoFar columns bytes i rest long
    → WholeCell c rest len value_long → RowSoFar columns bytes (i + 1) (drop len rest) (long || value_long)
more_there columns bytes i rest long c len value_long lt c_is so w =
    let behind : drop len rest ≡ w.rest = ap (λ n. drop n rest) w.len_is ∙ ap (drop (length (cell_bytes c w.value))) w.bytes_are ∙ drop_at (cell_bytes c w.value) w.rest (length (cell_bytes c w.value)) refl in
    let next = take_next columns i c lt c_is in
    let before = row_bytes (take i columns) so.front in
    let more : row_bytes (take (i + 1) columns) (so.front ++ w.value ∷ []) ≡ before ++ cell_bytes c w.value =
    ap (λ cs. row_bytes cs (so.front ++ w.value ∷ [])) next ∙ bytes_push (take i columns) so.front c w.value (as_many (take i columns) so.front so.is.taken) in
    record {
      front = so.front ++ w.value ∷ [];
      is = subst (λ cs. IsWideRow cs (so.front ++ w.value ∷ [])) (sym next) (row_push (take i columns) so.front c w.value so.is w.takes w.is);
      bytes_are = so.bytes_are ∙ ap (λ bs. before ++ bs) w.bytes_are ∙ sym (append_assoc before (cell_bytes c w.value) w.rest)
          ∙ ap (λ bs. bs ++ w.rest) (sym more) ∙ ap (λ bs. row_bytes (take (i + 1) columns) (so.front ++ w.value ∷ []) ++ bs) (sym behind);
      long_is = ap (λ b. b || value_long) so.long_is ∙ ap (λ b. list_any is_long so.front || b) (w.long_is ∙ sym (one_any w.value)) ∙ sym (list_any-append is_long so.front (w.value ∷ []));
    }

pub none_there : (columns : List Column) (bytes : List ℕ) → RowSoFar columns bytes 0 bytes false
none_there columns bytes = record { front = []; is = record { taken = tt; values = All-nil IsWideValue }; bytes_are = refl; long_is = refl }

reached : (columns : List Column) (bytes : List ℕ) (i : ℕ) (rest : List ℕ) (long : Bool) (c : Column) → i < length columns → c ≡ get_or columns i c → (so : RowSoFar columns bytes i rest long) → ReachesColumn columns bytes c so.front rest
reached columns bytes i rest long c lt c_is so = record { before = take i columns; after = drop (i + 1) columns; columns_are = parted columns i c lt c_is; row_of = so.is; bytes_are = so.bytes_are }

pub cut_there : (columns : List Column) (bytes : List ℕ) (i : ℕ) (rest : List ℕ) (long : Bool) (c : Column) (value_long : Bool) → i < length columns → c ≡ get_or columns i c → RowSoFar columns bytes i rest long
    → EndsInCell c rest → value_long ≡ cell_tells_long c rest → CutRow columns bytes (long || value_long)
cut_there columns bytes i rest long c value_long lt c_is so ends tells =
    record { column = c; front = so.front; rest = rest; reaches = reached columns bytes i rest long c lt c_is so; ends = ends; long_is = ap (λ b. b || value_long) so.long_is ∙ ap (λ b. list_any is_long so.front || b) tells }

pub ill_there : (columns : List Column) (bytes : List ℕ) (i : ℕ) (rest : List ℕ) (long : Bool) (c : Column) → i < length columns → c ≡ get_or columns i c → RowSoFar columns bytes i rest long → IsIllCell c rest → IllRow columns bytes
ill_there columns bytes i rest long c lt c_is so ill = record { column = c; front = so.front; rest = rest; reaches = reached columns bytes i rest long c lt c_is so; ill = ill }

pub all_there : (columns : List Column) (bytes : List ℕ) (i : ℕ) (rest : List ℕ) (long : Bool) → length columns ≤ i → RowSoFar columns bytes i rest long → WholeRow columns bytes (length bytes - length rest) long
all_there columns bytes i rest long past so =
    let all = take_all i columns past in
    let e : bytes ≡ row_bytes columns so.front ++ rest = so.bytes_are ∙ ap (λ cs. row_bytes cs so.front ++ rest) all in
    record {
      row = so.front;
      rest = rest;
      is = subst (λ cs. IsWideRow cs so.front) all so.is;
      bytes_are = e;
      len_is = omega (arith, ap length e, length-append (row_bytes columns so.front) rest);
      long_is = so.long_is;
    }
