-- How each column that is told stands to the one given, and what is known behind it.
use Rattle.std.proofs.Common.{◌≡◌, ◌≢◌, ℕ, ◌+◌, true, false, List, [], ◌∷◌, ◌++◌, Option, None, Some, length, refl, sym, ap, subst, ◌∙◌, append_assoc, arith}
use Rattle.std.specs.Prelude.{IsTrue, is_some, unwrap_or}
use Rattle.std.specs.List.{slice_get, slice_set}
use Rattle.std.proofs.lemmas.List.{append-nil, length-append, get_or_at, set_at}
use Rattle.std.proofs.lemmas.Option.{slice_get-get_or, slice_get_past}
use Rattle.q4_value.specs.declared.column.Column.{Column}
use Rattle.q4_value.specs.Row.{IsWider, AreWider}
use Rattle.q4_value.proofs.Rows.{append_same}
use Rattle.q4_value.proofs.Wider.{is_wider-refl, length-wider, wider-push}
use Rattle.q4_record.specs.declared.schema.ToldColumns.{ToldColumns}
use Rattle.q4_record.specs.Schema.{DifferFirst}
use Rattle.q4_record.specs.SideParts.{GivenWider, WiderSoFar, Differed, DiffersSoFar, ToldSoFar}

-- no column was told yet
pub none_yet : (columns : List Column) → WiderSoFar columns [] columns None
none_yet columns = record { front = []; behind = columns; columns_are = refl; own_is = refl; agree = tt; given = refl }

at_next : (told behind : List Column) (c : Column) → slice_get (told ++ c ∷ behind) (length told) ≡ Some c
at_next told behind c =
    slice_get-get_or (told ++ c ∷ behind) (length told) c (omega (arith, length-append told (c ∷ behind))) ∙ ap Some (get_or_at told c behind c (length told) refl)

past : (told : List Column) (c : Column) → slice_get (told ++ []) (length told) ≡ Some c → ⊥
past told c e =
    let none : slice_get (told ++ []) (length told) ≡ None = slice_get_past (told ++ []) (length told) (omega (arith, ap length (append-nil told))) in
    absurd cc

-- the next of the side's own columns is the one given for its place
here_is : (told own behind : List Column) (c d : Column) → own ≡ told ++ d ∷ behind → slice_get own (length told) ≡ Some c → d ≡ c
here_is told own behind c d own_is here =
    let is = sym (at_next told behind d) ∙ ap (λ cs. slice_get cs (length told)) (sym own_is) ∙ here in
    cc

-- a list with its next element told apart
one_on : (xs ys : List Column) (c : Column) (all : List Column) → all ≡ xs ++ c ∷ ys → all ≡ (xs ++ c ∷ []) ++ ys
one_on xs ys c all e = e ∙ sym (append_assoc xs (c ∷ []) ys)

-- ---- the same column

same_at : (columns told own : List Column) (wider : Option (List Column)) (c : Column) (front behind : List Column) → columns ≡ front ++ behind → own ≡ told ++ behind → AreWider front told → GivenWider columns own wider → slice_get own (length told) ≡ Some c
    → WiderSoFar columns (told ++ c ∷ []) own wider
same_at columns told own wider c front [] columns_are own_is agree given here = absurd (past told c (ap (λ cs. slice_get cs (length told)) (sym own_is) ∙ here))
same_at columns told own wider c front (d ∷ ds) columns_are own_is agree given here =
    let same = here_is told own ds c d own_is here in
    record {
      front = front ++ d ∷ [];
      behind = ds;
      columns_are = one_on front ds d columns columns_are;
      own_is = one_on told ds c own (own_is ∙ ap (λ x. told ++ x ∷ ds) same);
      agree = wider-push front told d c agree (subst (IsWider d) same (is_wider-refl d));
      given = given;
    }

-- ---- a column that takes null, and took none

kept_given : (columns own : List Column) (wider : Option (List Column)) → GivenWider columns own wider → unwrap_or wider own ≡ columns
kept_given columns own None given = given
kept_given columns own (Some w) given = given.0

required_not : (c d : Column) → IsTrue d.optional → c ≡ record d { optional = false } → c ≢ d
required_not c d is c_is same =
    let on : d.optional ≡ true = is in
    let off : d.optional ≡ false = ap (λ (x : Column). x.optional) (sym same ∙ c_is) in
    absurd cc

-- the side's own columns are no more those given
now_other : (front told ds : List Column) (c d : Column) → AreWider front told → c ≢ d → told ++ c ∷ ds ≢ front ++ d ∷ ds
now_other front told ds c d agree other same =
    let rests = (append_same told front (c ∷ ds) (d ∷ ds) (sym (length-wider front told agree)) same).1 in
    other cc

wider_at : (columns told own : List Column) (wider : Option (List Column)) (c d : Column) (front behind : List Column) → columns ≡ front ++ behind → own ≡ told ++ behind → AreWider front told → GivenWider columns own wider
    → slice_get own (length told) ≡ Some d → IsTrue d.optional → c ≡ record d { optional = false } → WiderSoFar columns (told ++ c ∷ []) (slice_set own (length told) c) (Some (unwrap_or wider own))
wider_at columns told own wider c d front [] columns_are own_is agree given here is c_is = absurd (past told d (ap (λ cs. slice_get cs (length told)) (sym own_is) ∙ here))
wider_at columns told own wider c d front (e ∷ es) columns_are own_is agree given here is c_is =
    let same = here_is told own es d e own_is here in
    let set : slice_set own (length told) c ≡ told ++ c ∷ es = ap (λ cs. slice_set cs (length told) c) own_is ∙ set_at told e es c (length told) refl in
    let were : columns ≡ front ++ d ∷ es = columns_are ∙ ap (λ x. front ++ x ∷ es) same in
    let takes : IsWider d c = record { name = ap (λ (x : Column). x.name) (sym c_is); kind = ap (λ (x : Column). x.kind) (sym c_is); optional = λ on. is } in
    record {
      front = front ++ d ∷ [];
      behind = es;
      columns_are = one_on front es d columns were;
      own_is = one_on told es c (slice_set own (length told) c) set;
      agree = wider-push front told d c agree takes;
      given = (kept_given columns own wider given, λ equal. now_other front told es c d agree (required_not c d is c_is) (sym set ∙ equal ∙ were));
    }

-- ---- another column

other_at : (columns told own : List Column) (c : Column) (front behind : List Column) → columns ≡ front ++ behind → own ≡ told ++ behind → AreWider front told → ((d : Column) → slice_get own (length told) ≡ Some d → IsWider d c → ⊥) → Differed columns (told ++ c ∷ []) (length told + 1)
other_at columns told own c front behind columns_are own_is agree other = record {
  front = front;
  told_front = told;
  rest = behind;
  column = c;
  told_rest = [];
  columns_are = columns_are;
  told_are = refl;
  agree = agree;
  differ = first behind own_is;
  number_is = ap (λ n. n + 1) (sym (length-wider front told agree));
}
  where
    first : (behind : List Column) → own ≡ told ++ behind → DifferFirst behind (c ∷ [])
    first [] is = tt
    first (d ∷ ds) is = other d (ap (λ cs. slice_get cs (length told)) is ∙ at_next told ds d)

first_more : (rest : List Column) (d : Column) (ds es : List Column) → DifferFirst rest (d ∷ ds) → DifferFirst rest (d ∷ es)
first_more [] d ds es f = tt
first_more (c ∷ cs) d ds es f = f

differed_more : (columns told : List Column) (number : ℕ) (c : Column) → Differed columns told number → Differed columns (told ++ c ∷ []) number
differed_more columns told number c d = record {
  front = d.front;
  told_front = d.told_front;
  rest = d.rest;
  column = d.column;
  told_rest = d.told_rest ++ c ∷ [];
  columns_are = d.columns_are;
  told_are = ap (λ cs. cs ++ c ∷ []) d.told_are ∙ append_assoc d.told_front (d.column ∷ d.told_rest) (c ∷ []);
  agree = d.agree;
  differ = first_more d.rest d.column d.told_rest (d.told_rest ++ c ∷ []) d.differ;
  number_is = d.number_is;
}

-- ---- one more column is told

pub none_of : (differs : Option ℕ) → is_some differs ≡ false → differs ≡ None
none_of None off = refl
none_of (Some number) off = absurd cc

fit_now : (columns told : List Column) (now : ToldColumns) → now.differs ≡ None → ToldSoFar columns told now → WiderSoFar columns told now.own now.wider
fit_now columns told now none so = subst (DiffersSoFar columns told now.own now.wider) none so

pub still_differs : (columns told : List Column) (now : ToldColumns) (c : Column) → is_some now.differs ≡ true → ToldSoFar columns told now → ToldSoFar columns (told ++ c ∷ []) now
still_differs columns told now c some so = go now.differs some so
  where
    go : (differs : Option ℕ) → is_some differs ≡ true → DiffersSoFar columns told now.own now.wider differs → DiffersSoFar columns (told ++ c ∷ []) now.own now.wider differs
    go None some so = absurd cc
    go (Some number) some so = differed_more columns told number c so

pub same_told : (columns told : List Column) (now : ToldColumns) (c : Column) → now.differs ≡ None → slice_get now.own (length told) ≡ Some c → ToldSoFar columns told now → ToldSoFar columns (told ++ c ∷ []) now
same_told columns told now c none here so =
    let f = fit_now columns told now none so in
    subst (DiffersSoFar columns (told ++ c ∷ []) now.own now.wider) (sym none) (same_at columns told now.own now.wider c f.front f.behind f.columns_are f.own_is f.agree f.given here)

pub wider_told : (columns told : List Column) (now : ToldColumns) (c d : Column) (next : ToldColumns) → now.differs ≡ None → slice_get now.own (length told) ≡ Some d → IsTrue d.optional → c ≡ record d { optional = false }
    → next.own ≡ slice_set now.own (length told) (record d { optional = false }) → next.wider ≡ Some (unwrap_or now.wider now.own) → next.differs ≡ now.differs → ToldSoFar columns told now → ToldSoFar columns (told ++ c ∷ []) next
wider_told columns told now c d next none here is c_is own_is wider_is differs_is so =
    let f = fit_now columns told now none so in
    let on = wider_at columns told now.own now.wider c d f.front f.behind f.columns_are f.own_is f.agree f.given here is c_is in
    let own : next.own ≡ slice_set now.own (length told) c = own_is ∙ ap (slice_set now.own (length told)) (sym c_is) in
    subst (DiffersSoFar columns (told ++ c ∷ []) next.own next.wider) (sym (differs_is ∙ none))
    (subst (λ cs. WiderSoFar columns (told ++ c ∷ []) cs next.wider) (sym own) (subst (WiderSoFar columns (told ++ c ∷ []) (slice_set now.own (length told) c)) (sym wider_is) on))

pub other_told : (columns told : List Column) (now : ToldColumns) (c : Column) → now.differs ≡ None → ((d : Column) → slice_get now.own (length told) ≡ Some d → IsWider d c → ⊥) → ToldSoFar columns told now → Differed columns (told ++ c ∷ []) (length told + 1)
other_told columns told now c none other so =
    let f = fit_now columns told now none so in
    other_at columns told now.own c f.front f.behind f.columns_are f.own_is f.agree other
