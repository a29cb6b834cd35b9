-- A column's string spells one column, and strings that spell columns have no fault.
use Rattle.std.proofs.Common.{◌≡◌, ◌≢◌, ◌==◌, Bool, true, false, if◌then◌else◌, ℕ, ◌+◌, ◌<◌, List, [], ◌∷◌, ◌++◌, length, get_or, take, map, Contains, refl, sym, ap, subst, ◌∙◌, arith, ⊎_elim, length-append}
use Rattle.std.specs.List.{All, AllPairs, position_or_len}
use Rattle.std.proofs.lemmas.Bool.{ne_eqb, cases_order}
use Rattle.std.proofs.lemmas.List.{append_cancel_left, get_or_append_left, get_or-map, length-map, take_at, get_or_at}
use Rattle.std.proofs.lemmas.List.Elements.{All-head, All-tail}
use Rattle.std.proofs.lemmas.List.Sums.{position_or_len_is}
use Rattle.q4_value.specs.declared.column.Column.{Column}
use Rattle.q4_value.specs.declared.column.Kind.{Kind}
use Rattle.q4_value.specs.declared.column.Kind.TheVariants as kind
use Rattle.q4_value.specs.Names.{IsNameByte, IsColumnName, AreNamed}
use Rattle.q4_value.proofs.Rows.{append_same, place_within}
use Rattle.q4_def.specs.declared.fault.DefFault.{DefFault}
use Rattle.q4_def.specs.declared.fault.DefFault.TheVariants as fault
use Rattle.q4_def.specs.Document.{kind_words, column_text}
use Rattle.q4_def.specs.Faults.{name_part, IsRepeated, ColumnFails, FirstColumnFails}

-- ---- lists in parts

-- a mapped list in parts is the list in parts
pub record Parts {X Y : Type 0} (f : X → Y) (xs : List X) (front : List Y) (y : Y) : Type 0 where
  pub before : List X
  pub x : X
  pub after : List X
  pub whole : xs ≡ before ++ x ∷ after
  pub front_is : map f before ≡ front
  pub is : f x ≡ y

pub parts_of : {X Y : Type 0} (f : X → Y) (xs : List X) (front rest : List Y) (y : Y) → map f xs ≡ front ++ y ∷ rest → Parts f xs front y
parts_of f [] [] rest y e = absurd cc
parts_of f [] (z ∷ front) rest y e = absurd cc
parts_of f (x ∷ xs) [] rest y e = record { before = []; x = x; after = xs; whole = refl; front_is = refl; is = cc }
parts_of f (x ∷ xs) (z ∷ front) rest y e =
    let tail : map f xs ≡ front ++ y ∷ rest = cc in
    let head : f x ≡ z = cc in
    let p = parts_of f xs front rest y tail in
    record {
      before = x ∷ p.before;
      x = p.x;
      after = p.after;
      whole = ap (λ ys. x ∷ ys) p.whole;
      front_is = ap (λ ys. f x ∷ ys) p.front_is ∙ ap (λ w. w ∷ front) head;
      is = p.is;
    }

-- where no two have one name, none of those before has the name of one
pub fresh_in : {X : Type 0} (name : X → List ℕ) (before after : List X) (x : X) → AllPairs (λ one other. name one ≢ name other) (before ++ x ∷ after) → Contains (map name before) (name x) → ⊥
fresh_in name before after x once has =
    let within : has.0 < length before = omega (arith, has.1, length-map before name) in
    let whole : length (before ++ x ∷ after) ≡ length before + length (x ∷ after) = length-append before (x ∷ after) in
    let at : get_or (before ++ x ∷ after) has.0 x ≡ get_or before has.0 x = get_or_append_left before (x ∷ after) x has.0 within in
    let here : get_or (before ++ x ∷ after) (length before) x ≡ x = get_or_at before x after x (length before) refl in
    let name_at : name (get_or before has.0 x) ≡ name x = sym (get_or-map name before has.0 x (name x) within) ∙ has.2 in
    once has.0 (length before) x within (omega (arith, whole)) (ap name at ∙ name_at ∙ ap name (sym here))

pub all_before : {X : Type 0} (P : X → Type 0) (before after : List X) (x : X) → All P (before ++ x ∷ after) → All P before
all_before P before after x all k d within =
    let whole : length (before ++ x ∷ after) ≡ length before + length (x ∷ after) = length-append before (x ∷ after) in
    subst P (get_or_append_left before (x ∷ after) d k within) (all k d (omega (arith, whole, within)))

pub all_at : {X : Type 0} (P : X → Type 0) (before after : List X) (x : X) → All P (before ++ x ∷ after) → P x
all_at P before after x all =
    let whole : length (before ++ x ∷ after) ≡ length before + length (x ∷ after) = length-append before (x ∷ after) in
    subst P (get_or_at before x after x (length before) refl) (all (length before) x (omega (arith, whole)))

-- ---- one column

no_space : (b : ℕ) → IsNameByte b → b ≡ 32 → ⊥
no_space b is e = ⊎_elim (λ letter. omega (arith, letter.0)) (λ more. ⊎_elim (λ digit. omega (arith, digit.0)) (λ line. omega arith) more) is

pub name_part-column : (column : Column) → IsColumnName column.name → name_part (column_text column) ≡ column.name
name_part-column column named =
    let name = column.name in
    let text = column_text column in
    let whole : length text ≡ length name + length (32 ∷ kind_words column.kind column.optional) = length-append name (32 ∷ kind_words column.kind column.optional) in
    let place : position_or_len (λ b. b == 32) text ≡ length name =
    position_or_len_is (λ b. b == 32) text (length name) 0 (omega (arith, whole))
    (λ k below. ap (λ b. b == 32) (get_or_append_left name (32 ∷ kind_words column.kind column.optional) 0 k below) ∙ ne_eqb (get_or name k 0) 32 (no_space (get_or name k 0) (named.is_name.bytes k 0 below)))
    (λ within. ap (λ b. b == 32) (get_or_at name 32 (kind_words column.kind column.optional) 0 (length name) refl)) in
    ap (λ n. take n text) place ∙ take_at name (32 ∷ kind_words column.kind column.optional) (length name) refl

-- which kind has so many letters, and whether its column is optional
abbrev kind_of_length : ℕ → Kind × Bool
kind_of_length count = if count == 3 then (kind.Int, false) else (if count == 4 then (kind.Words, false) else (if count == 8 then (kind.Int, true) else (kind.Words, true)))

kind_told : (k : Kind) (optional : Bool) → ◌≡◌ {A = Kind × Bool} (kind_of_length (length (kind_words k optional))) (k, optional)
kind_told kind.Int false = refl
kind_told kind.Words false = refl
kind_told kind.Int true = refl
kind_told kind.Words true = refl

kind_same : (one other : Kind) (a b : Bool) → kind_words one a ≡ kind_words other b → ◌≡◌ {A = Kind × Bool} (one, a) (other, b)
kind_same one other a b same = sym (kind_told one a) ∙ ap (λ words. kind_of_length (length words)) same ∙ kind_told other b

named_so : List ℕ → Kind × Bool → Column
named_so name kind = record { name = name; kind = kind.0; optional = kind.1 }

pub column_same : (one other : Column) → IsColumnName one.name → IsColumnName other.name → column_text one ≡ column_text other → one ≡ other
unfolding named_so
column_same one other named named' same =
    let words = kind_words one.kind one.optional in
    let words' = kind_words other.kind other.optional in
    let names : one.name ≡ other.name = sym (name_part-column one named) ∙ ap name_part same ∙ name_part-column other named' in
    let tails : 32 ∷ words ≡ 32 ∷ words' = append_cancel_left other.name (32 ∷ words) (32 ∷ words') (ap (λ n. n ++ 32 ∷ words) (sym names) ∙ same) in
    let kinds = kind_same one.kind other.kind one.optional other.optional cc in
    ap (λ n. named_so n (one.kind, one.optional)) names ∙ ap (named_so other.name) kinds

pub columns_same : (ones others : List Column) → All (λ c. IsColumnName c.name) ones → All (λ c. IsColumnName c.name) others → map column_text ones ≡ map column_text others → ones ≡ others
columns_same [] [] named named' same = refl
columns_same [] (d ∷ ds) named named' same = absurd cc
columns_same (c ∷ cs) [] named named' same = absurd cc
columns_same (c ∷ cs) (d ∷ ds) named named' same =
    let P : Column → Type 0 = λ c. IsColumnName c.name in
    let heads : column_text c ≡ column_text d = cc in
    let tails : map column_text cs ≡ map column_text ds = cc in
    ap (λ x. x ∷ cs) (column_same c d (All-head P c cs named) (All-head P d ds named') heads)
    ∙ ap (λ xs. d ∷ xs) (columns_same cs ds (All-tail P c cs named) (All-tail P d ds named') tails)

-- ---- a column has no fault

pub no_column_fault : (earlier : List Column) (column : Column) (text : List ℕ) (i j : ℕ) (why : DefFault) → text ≡ column_text column → IsColumnName column.name
    → (Contains (map (λ c. c.name) earlier) column.name → ⊥) → ColumnFails earlier text i j why → ⊥
no_column_fault earlier column text i j (fault.BadName a b) is named fresh fails =
    fails.2 (subst IsColumnName (sym (ap name_part is ∙ name_part-column column named)) named)
no_column_fault earlier column text i j (fault.BadKind a b) is named fresh fails =
    let part : name_part text ≡ column.name = ap name_part is ∙ name_part-column column named in
    fails.3 column.kind column.optional (is ∙ ap (λ n. n ++ 32 ∷ kind_words column.kind column.optional) (sym part))
no_column_fault earlier column text i j (fault.Twice a b) is named fresh fails =
    let r = fails.2 in
    let same : r.column ≡ column = column_same r.column column r.named named (sym r.is_column ∙ is) in
    fresh (subst (λ c. Contains (map (λ d. d.name) earlier) c.name) same r.repeated)
no_column_fault earlier column text i j why is named fresh fails = fails

-- ---- a string has one fault

when_bad_name : (earlier : List Column) (text : List ℕ) (i j : ℕ) (why : DefFault) → (IsColumnName (name_part text) → ⊥) → ColumnFails earlier text i j why → why ≡ fault.BadName i j
when_bad_name earlier text i j (fault.BadName a b) bad fails = ap (λ x. fault.BadName x b) fails.0 ∙ ap (λ x. fault.BadName i x) fails.1
when_bad_name earlier text i j (fault.BadKind a b) bad fails = absurd (bad fails.2)
when_bad_name earlier text i j (fault.Twice a b) bad fails =
    let r = fails.2 in
    absurd (bad (subst IsColumnName (sym (ap name_part r.is_column ∙ name_part-column r.column r.named)) r.named))
when_bad_name earlier text i j why bad fails = absurd fails

when_bad_kind : (earlier : List Column) (text : List ℕ) (i j : ℕ) (why : DefFault) → IsColumnName (name_part text) → ((kind : Kind) (optional : Bool) → text ≢ name_part text ++ 32 ∷ kind_words kind optional)
    → ColumnFails earlier text i j why → why ≡ fault.BadKind i j
when_bad_kind earlier text i j (fault.BadName a b) named bad fails = absurd (fails.2 named)
when_bad_kind earlier text i j (fault.BadKind a b) named bad fails = ap (λ x. fault.BadKind x b) fails.0 ∙ ap (λ x. fault.BadKind i x) fails.1
when_bad_kind earlier text i j (fault.Twice a b) named bad fails =
    let r = fails.2 in
    let part : name_part text ≡ r.column.name = ap name_part r.is_column ∙ name_part-column r.column r.named in
    absurd (bad r.column.kind r.column.optional (r.is_column ∙ ap (λ n. n ++ 32 ∷ kind_words r.column.kind r.column.optional) (sym part)))
when_bad_kind earlier text i j why named bad fails = absurd fails

when_repeated : (earlier : List Column) (text : List ℕ) (i j : ℕ) (why : DefFault) → IsRepeated earlier text → ColumnFails earlier text i j why → why ≡ fault.Twice i j
when_repeated earlier text i j (fault.BadName a b) r fails =
    absurd (fails.2 (subst IsColumnName (sym (ap name_part r.is_column ∙ name_part-column r.column r.named)) r.named))
when_repeated earlier text i j (fault.BadKind a b) r fails =
    let part : name_part text ≡ r.column.name = ap name_part r.is_column ∙ name_part-column r.column r.named in
    absurd (fails.3 r.column.kind r.column.optional (r.is_column ∙ ap (λ n. n ++ 32 ∷ kind_words r.column.kind r.column.optional) (sym part)))
when_repeated earlier text i j (fault.Twice a b) r fails = ap (λ x. fault.Twice x b) fails.0 ∙ ap (λ x. fault.Twice i x) fails.1
when_repeated earlier text i j why r fails = absurd fails

one_column_fault : (earlier : List Column) (text : List ℕ) (i j : ℕ) (one other : DefFault) → ColumnFails earlier text i j one → ColumnFails earlier text i j other → one ≡ other
one_column_fault earlier text i j (fault.BadName a b) other first second =
    when_bad_name earlier text i j (fault.BadName a b) first.2 first ∙ sym (when_bad_name earlier text i j other first.2 second)
one_column_fault earlier text i j (fault.BadKind a b) other first second =
    when_bad_kind earlier text i j (fault.BadKind a b) first.2 first.3 first ∙ sym (when_bad_kind earlier text i j other first.2 first.3 second)
one_column_fault earlier text i j (fault.Twice a b) other first second =
    when_repeated earlier text i j (fault.Twice a b) first.2 first ∙ sym (when_repeated earlier text i j other first.2 second)
one_column_fault earlier text i j one other first second = absurd first

-- ---- columns in a row

-- where the strings in front are these columns and the columns are all good, the next string has no fault
no_next_fault : (columns earlier : List Column) (text : List ℕ) (rest : List (List ℕ)) (i : ℕ) (why : DefFault) → AreNamed columns → AreNamed earlier
    → map column_text columns ≡ map column_text earlier ++ text ∷ rest → ColumnFails earlier text i (length earlier + 1) why → ⊥
no_next_fault columns earlier text rest i why named named' texts fails =
    let P : Column → Type 0 = λ c. IsColumnName c.name in
    let p = parts_of column_text columns (map column_text earlier) rest text texts in
    let names = subst (All P) p.whole named.names in
    let once = subst (AllPairs (λ one other. one.name ≢ other.name)) p.whole named.once in
    let same : p.before ≡ earlier = columns_same p.before earlier (all_before P p.before p.after p.x names) named'.names p.front_is in
    no_column_fault earlier p.x text i (length earlier + 1) why (sym p.is) (all_at P p.before p.after p.x names)
    (subst (λ cs. Contains (map (λ c. c.name) cs) p.x.name → ⊥) same (fresh_in (λ c. c.name) p.before p.after p.x once)) fails

pub no_first_column : (columns : List Column) (i : ℕ) (why : DefFault) → AreNamed columns → FirstColumnFails (map column_text columns) i why → ⊥
no_first_column columns i why named f = no_next_fault columns f.earlier f.text f.rest i why named f.named f.texts_are f.fails

first_is_first : (texts : List (List ℕ)) (i : ℕ) (one other : DefFault) → (f : FirstColumnFails texts i one) → (g : FirstColumnFails texts i other) → length f.earlier < length g.earlier → ⊥
first_is_first texts i one other f g less =
    let counts : length (map column_text f.earlier) < length (map column_text g.earlier) = omega (arith, less, length-map f.earlier column_text, length-map g.earlier column_text) in
    let p = place_within (map column_text f.earlier) (map column_text g.earlier) f.text g.text f.rest g.rest (sym f.texts_are ∙ g.texts_are) counts in
    no_next_fault g.earlier f.earlier f.text p.0 i one g.named f.named p.1 f.fails

first_at_once : (texts : List (List ℕ)) (i : ℕ) (one other : DefFault) → (f : FirstColumnFails texts i one) → (g : FirstColumnFails texts i other) → length f.earlier ≡ length g.earlier → one ≡ other
first_at_once texts i one other f g same =
    let counts : length (map column_text f.earlier) ≡ length (map column_text g.earlier) = length-map f.earlier column_text ∙ same ∙ sym (length-map g.earlier column_text) in
    let p = append_same (map column_text f.earlier) (map column_text g.earlier) (f.text ∷ f.rest) (g.text ∷ g.rest) counts (sym f.texts_are ∙ g.texts_are) in
    let columns : f.earlier ≡ g.earlier = columns_same f.earlier g.earlier f.named.names g.named.names p.0 in
    let tails = p.1 in
    let text : f.text ≡ g.text = cc in
    let fails : ColumnFails g.earlier g.text i (length g.earlier + 1) one =
    subst (λ t. ColumnFails g.earlier t i (length g.earlier + 1) one) text (subst (λ cs. ColumnFails cs f.text i (length cs + 1) one) columns f.fails) in
    one_column_fault g.earlier g.text i (length g.earlier + 1) one other fails g.fails

pub one_first_column : (texts : List (List ℕ)) (i : ℕ) (one other : DefFault) → FirstColumnFails texts i one → FirstColumnFails texts i other → one ≡ other
one_first_column texts i one other f g = ⊎_elim (first_at_once texts i one other f g)
    (λ order. ⊎_elim (λ less. absurd (first_is_first texts i one other f g less)) (λ more. absurd (first_is_first texts i other one g f more)) order)
    (cases_order (length f.earlier) (length g.earlier))
