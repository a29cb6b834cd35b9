-- The values of a row, field by field.
use Rattle.std.proofs.Common.{◌≡◌, ◌<◌, ◌+◌, ◌++◌, ◌∷◌, ◌∙◌, [], List, ℕ, All, map, length, take, drop, get_or, refl, sym, ap, subst, arith, append_assoc}
use Rattle.std.specs.List.{zip}
use Rattle.std.proofs.lemmas.List.{length-map, map-append, length-append, length-take-le}
use Rattle.std.proofs.lemmas.List.Elements.{All-nil, All-cons, All-head, All-tail, All-push, All-weaker}
use Rattle.std.proofs.Math.Seq.{get_or-append_seam}
use Rattle.q4_value.specs.declared.column.Column.{Column}
use Rattle.q4_value.specs.declared.row.Value.{Value}
use Rattle.q4_value.specs.Row.{Takes, IsValue, IsRowOf}
use Rattle.q4_value.proofs.Rows.{as_many, parted, take_next, row_push}
use Rattle.q4_proto.specs.Fields.{IsSpelled, IsFirst}
use Rattle.q4_proto.specs.Commands.{spelled_value, text_of_value, insert_texts, IsNoValue, IsMisspelled, FirstMisspelled}

-- one more element in front of the rest
pub moved : {X : Type 0} (whole front rest more : List X) (x : X) → whole ≡ front ++ rest → rest ≡ x ∷ more → whole ≡ (front ++ x ∷ []) ++ more
moved whole front rest more x is next = is ∙ ap (λ r. front ++ r) next ∙ sym (append_assoc front (x ∷ []) more)

-- what holds of all holds of the one behind a front
pub all_at : {X : Type 0} (P : X → Type 0) (whole front more : List X) (x : X) → All P whole → whole ≡ front ++ x ∷ more → P x
all_at P whole front more x all is =
    let there : get_or whole (length front) x ≡ x = ap (λ w. get_or w (length front) x) is ∙ get_or-append_seam front x more x in
    let inside : length front < length whole = omega (arith, ap length is, length-append front (x ∷ more)) in
    subst P there (all (length front) x inside)

zip_split : (cs cs' : List Column) (c : Column) (row : List Value) (f : List ℕ) (fs : List (List ℕ)) → length cs ≡ length row
    → zip (cs ++ c ∷ cs') (map spelled_value row ++ f ∷ fs) ≡ zip cs (map spelled_value row) ++ (c, f) ∷ zip cs' fs
zip_split [] cs' c [] f fs same = refl
zip_split [] cs' c (v ∷ row) f fs same = let none : ⊥ = omega (arith, same) in absurd none
zip_split (k ∷ cs) cs' c [] f fs same = let none : ⊥ = omega (arith, same) in absurd none
zip_split (k ∷ cs) cs' c (v ∷ row) f fs same = ap (λ ps. (k, spelled_value v) ∷ ps) (zip_split cs cs' c row f fs (omega (arith, same)))

zip_length : (cs : List Column) (row : List Value) → length cs ≡ length row → length (zip cs (map spelled_value row)) ≡ length row
zip_length [] [] same = refl
zip_length [] (v ∷ row) same = let none : ⊥ = omega (arith, same) in absurd none
zip_length (c ∷ cs) [] same = let none : ⊥ = omega (arith, same) in absurd none
zip_length (c ∷ cs) (v ∷ row) same = let rest = zip_length cs row (omega (arith, same)) in omega (arith, rest)

-- a row's first value and the others
record Parts (c : Column) (cs : List Column) (v : Value) (row : List Value) : Type 0 where
  takes : Takes c v
  value : IsValue v
  rest : IsRowOf cs row

parts : (c : Column) (cs : List Column) (v : Value) (row : List Value) → IsRowOf (c ∷ cs) (v ∷ row) → Parts c cs v row
parts c cs v row is = record {
  takes = is.taken.0;
  value = All-head IsValue v row is.values;
  rest = record { taken = is.taken.1; values = All-tail IsValue v row is.values };
}

pub none_misspelled : (cs : List Column) (row : List Value) → IsRowOf cs row → All (λ p. IsMisspelled p → ⊥) (zip cs (map spelled_value row))
none_misspelled [] row is = All-nil (λ (p : Column × List ℕ). IsMisspelled p → ⊥)
none_misspelled (c ∷ cs) [] is = All-nil (λ (p : Column × List ℕ). IsMisspelled p → ⊥)
none_misspelled (c ∷ cs) (v ∷ row) is =
    let here = parts c cs v row is in
    All-cons (λ (p : Column × List ℕ). IsMisspelled p → ⊥) (c, spelled_value v) (zip cs (map spelled_value row)) (λ bad. bad v here.takes here.value refl) (none_misspelled cs row here.rest)

pub row_length : (cs : List Column) (row : List Value) → IsRowOf cs row → length row ≡ length cs
row_length cs row is = as_many cs row is.taken

-- the values so far are those of the columns so far, and the next is none of its column
pub first_misspelled : (columns : List Column) (values rest more : List (List ℕ)) (row : List Value) (c : Column) (f : List ℕ) (i : ℕ) → length values ≡ length columns → i < length columns → c ≡ get_or columns i c
    → values ≡ map spelled_value row ++ rest → rest ≡ f ∷ more → IsRowOf (take i columns) row → IsNoValue c f → FirstMisspelled columns values (i + 1)
first_misspelled columns values rest more row c f i same inside is so_far next row_of bad =
    let cut = parted columns i c inside is in
    let len = row_length (take i columns) row row_of in
    let count : length row ≡ i = omega (arith, len, length-append (take i columns) (c ∷ drop (i + 1) columns), ap length cut, length-take-le i columns (omega (arith, inside))) in
    record {
      same = same;
      first = record {
        before = zip (take i columns) (map spelled_value row);
        found = (c, f);
        after = zip (drop (i + 1) columns) more;
        cut = ap (λ vs. zip columns vs) (so_far ∙ ap (λ r. map spelled_value row ++ r) next) ∙ ap (λ cs. zip cs (map spelled_value row ++ f ∷ more)) cut
            ∙ zip_split (take i columns) (drop (i + 1) columns) c row f more (sym len);
        place_is = omega (arith, zip_length (take i columns) row (sym len), count);
        none_before = none_misspelled (take i columns) row row_of;
        holds = bad;
      };
    }

-- one more value
pub row_more : (columns : List Column) (values rest more : List (List ℕ)) (row : List Value) (c : Column) (v : Value) (f : List ℕ) (i : ℕ) → i < length columns → c ≡ get_or columns i c
    → values ≡ map spelled_value row ++ rest → rest ≡ f ∷ more → IsRowOf (take i columns) row → length row ≡ i → Takes c v → IsValue v → f ≡ spelled_value v
    → (values ≡ map spelled_value (row ++ v ∷ []) ++ more) × IsRowOf (take (i + 1) columns) (row ++ v ∷ []) × (length (row ++ v ∷ []) ≡ i + 1)
row_more columns values rest more row c v f i inside is so_far next row_of len takes value spelled = (
  moved values (map spelled_value row) rest more f so_far next ∙ ap (λ x. (map spelled_value row ++ x ∷ []) ++ more) spelled ∙ ap (λ vs. vs ++ more) (sym (map-append spelled_value row (v ∷ []))),
  subst (λ cs. IsRowOf cs (row ++ v ∷ [])) (sym (take_next columns i c inside is)) (row_push (take i columns) row c v row_of takes value),
  omega (arith, length-append row (v ∷ []), len),
)

-- ## Bad escapes of an insert

pub table_bad : (args values : List (List ℕ)) (name : List ℕ) → args ≡ name ∷ values → (IsSpelled name → ⊥) → IsFirst (λ f. IsSpelled f → ⊥) (insert_texts args) 1
table_bad args values name is bad = record {
  before = [];
  found = name;
  after = map text_of_value values;
  cut = ap insert_texts is;
  place_is = omega arith;
  none_before = All-nil (λ (f : List ℕ). (IsSpelled f → ⊥) → ⊥);
  holds = bad;
}

pub value_bad : (args front more : List (List ℕ)) (name field : List ℕ) (place : ℕ) → args ≡ name ∷ (front ++ field ∷ more) → length front + 1 ≡ place → All IsSpelled (name ∷ map text_of_value front)
    → (IsSpelled (text_of_value field) → ⊥) → IsFirst (λ f. IsSpelled f → ⊥) (insert_texts args) (place + 1)
value_bad args front more name field place is at spelled bad = record {
  before = name ∷ map text_of_value front;
  found = text_of_value field;
  after = map text_of_value more;
  cut = ap insert_texts is ∙ ap (λ fs. name ∷ fs) (map-append text_of_value front (field ∷ more));
  place_is = omega (arith, at, length-map front text_of_value);
  none_before = All-weaker IsSpelled (λ f. (IsSpelled f → ⊥) → ⊥) (λ f text none. none text) (name ∷ map text_of_value front) spelled;
  holds = bad;
}

-- one more value without a bad escape
pub texts_push : (name field : List ℕ) (front : List (List ℕ)) → All IsSpelled (name ∷ map text_of_value front) → IsSpelled (text_of_value field) → All IsSpelled (name ∷ map text_of_value (front ++ field ∷ []))
texts_push name field front so_far spelled =
    subst (λ fs. All IsSpelled (name ∷ fs)) (sym (map-append text_of_value front (field ∷ []))) (All-push IsSpelled (name ∷ map text_of_value front) (text_of_value field) so_far spelled)

pub texts_spelled : (args front : List (List ℕ)) (name : List ℕ) → args ≡ name ∷ front → All IsSpelled (name ∷ map text_of_value front) → All IsSpelled (insert_texts args)
texts_spelled args front name is spelled = subst (All IsSpelled) (sym (ap insert_texts is)) spelled
