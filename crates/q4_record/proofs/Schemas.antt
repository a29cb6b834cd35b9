-- Which columns a schema tells.
use Rattle.std.proofs.Common.{◌≡◌, ℕ, ◌+◌, ◌<◌, ◌≤◌, Bool, true, false, List, [], ◌∷◌, ◌++◌, None, Some, length, get_or, drop, refl, sym, ap, subst, ◌∙◌, append_assoc, arith}
use Rattle.std.specs.List.{All, flat_map}
use Rattle.std.proofs.lemmas.List.{append-nil, length-append, flat_map_more, drop_at, nil_from_length, length_push}
use Rattle.std.proofs.lemmas.List.Elements.{All-nil, All-head, All-drop, All-push}
use Rattle.q4_value.specs.declared.column.Column.{Column}
use Rattle.q4_value.specs.declared.column.Kind.{Kind}
use Rattle.q4_value.specs.declared.column.Kind.TheVariants as kind
use Rattle.q4_value.specs.Row.{AreWider}
use Rattle.q4_value.proofs.Rows.{append_same}
use Rattle.q4_value.proofs.Wider.{length-wider, wider_join}
use Rattle.q4_record.specs.declared.header.Format.{Format}
use Rattle.q4_record.specs.Schema.{kind_number, column_bytes, schema_bytes, MayHave, IsSchemaOf, DifferFirst, OtherSchema}
use Rattle.q4_record.specs.declared.schema.ToldColumns.{ToldColumns}
use Rattle.q4_record.specs.SideParts.{WiderSoFar, Differed, DiffersSoFar, ToldSoFar, SchemaRead}

kind_once : (p q : Bool) (a b : Kind) → kind_number p a ≡ kind_number q b → (p ≡ q) × (a ≡ b)
kind_once false false kind.Int kind.Int e = (refl, refl)
kind_once false false kind.Int kind.Words e = absurd cc
kind_once false true kind.Int kind.Int e = absurd cc
kind_once false true kind.Int kind.Words e = absurd cc
kind_once false false kind.Words kind.Int e = absurd cc
kind_once false false kind.Words kind.Words e = (refl, refl)
kind_once false true kind.Words kind.Int e = absurd cc
kind_once false true kind.Words kind.Words e = absurd cc
kind_once true false kind.Int kind.Int e = absurd cc
kind_once true false kind.Int kind.Words e = absurd cc
kind_once true true kind.Int kind.Int e = (refl, refl)
kind_once true true kind.Int kind.Words e = absurd cc
kind_once true false kind.Words kind.Int e = absurd cc
kind_once true false kind.Words kind.Words e = absurd cc
kind_once true true kind.Words kind.Int e = absurd cc
kind_once true true kind.Words kind.Words e = (refl, refl)

-- no two columns stand at the front of the same bytes
pub column_once : (c d : Column) (x y : List ℕ) → column_bytes c ++ x ≡ column_bytes d ++ y → (c ≡ d) × (x ≡ y)
column_once c d x y e =
    let sort = kind_once c.optional d.optional c.kind d.kind (ap (λ bs. get_or bs 0 0) e) in
    let len : length c.name ≡ length d.name = ap (λ bs. get_or bs 1 0) e in
    let names = append_same c.name d.name x y len (ap (drop 2) e) in
    ((λ i. record { name = names.0 i; kind = sort.1 i; optional = sort.0 i }), names.1)

-- what columns have behind others that were told
record Told (others all : List Column) (rest more : List ℕ) : Type 0 where
  behind : List Column
  all_are : all ≡ others ++ behind
  rest_is : rest ≡ flat_map column_bytes behind ++ more

told_on : (others all : List Column) (rest more : List ℕ) → length others ≤ length all → flat_map column_bytes others ++ rest ≡ flat_map column_bytes all ++ more → Told others all rest more
told_on [] all rest more le e = record { behind = all; all_are = refl; rest_is = e }
told_on (c ∷ cs) [] rest more le e = absurd (omega arith)
told_on (c ∷ cs) (d ∷ ds) rest more le e =
    let one = column_once c d (flat_map column_bytes cs ++ rest) (flat_map column_bytes ds ++ more) (sym (append_assoc (column_bytes c) (flat_map column_bytes cs) rest) ∙ e ∙ append_assoc (column_bytes d) (flat_map column_bytes ds) more) in
    let deeper = told_on cs ds rest more (omega arith) one.1 in
    record { behind = deeper.behind; all_are = ap (λ x. x ∷ ds) (sym one.0) ∙ ap (λ xs. c ∷ xs) deeper.all_are; rest_is = deeper.rest_is }

pub schema_once : (one other : List Column) (x y : List ℕ) → schema_bytes one ++ x ≡ schema_bytes other ++ y → (one ≡ other) × (x ≡ y)
schema_once one other x y e =
    let len : length one ≡ length other = ap (λ bs. get_or bs 1 0) e in
    let t = told_on one other x y (omega arith) (ap (drop 2) e) in
    let none : t.behind ≡ [] = nil_from_length t.behind (omega (arith, ap length t.all_are, length-append one t.behind)) in
    (sym (t.all_are ∙ ap (λ cs. one ++ cs) none ∙ append-nil one), t.rest_is ∙ ap (λ cs. flat_map column_bytes cs ++ y) none)

-- the columns that were told so far, and what is left
pub record SchemaSoFar (format : Format) (columns : List Column) (told : List ℕ) (count : ℕ) (rest : List ℕ) (now : ToldColumns) : Type 0 where
  pub others : List Column
  pub count_is : length others ≡ count
  pub names : All (λ column. length column.name < 256) others
  pub may : All (MayHave format) others
  pub told_is : told ≡ flat_map column_bytes others ++ rest
  pub so_far : ToldSoFar columns others now

pub none_told : (format : Format) (columns : List Column) (told : List ℕ) (now : ToldColumns) → ToldSoFar columns [] now → SchemaSoFar format columns told 0 told now
none_told format columns told now so = record { others = []; count_is = refl; names = All-nil (λ c. length c.name < 256); may = All-nil (MayHave format); told_is = refl; so_far = so }

pub one_more_told : (format : Format) (columns : List Column) (told : List ℕ) (count : ℕ) (rest : List ℕ) (now : ToldColumns) (c : Column) (after : List ℕ) (next : ToldColumns) → SchemaSoFar format columns told count rest now
    → length c.name < 256 → MayHave format c → rest ≡ column_bytes c ++ after → ((columns told : List Column) → length told ≡ count → ToldSoFar columns told now → ToldSoFar columns (told ++ c ∷ []) next) → SchemaSoFar format columns told (count + 1) after next
one_more_told format columns told count rest now c after next so name may e goes = record {
  others = so.others ++ c ∷ [];
  count_is = length_push so.others c ∙ ap (λ n. n + 1) so.count_is;
  names = All-push (λ c. length c.name < 256) so.others c so.names name;
  may = All-push (MayHave format) so.others c so.may may;
  told_is = so.told_is ∙ ap (λ bs. flat_map column_bytes so.others ++ bs) e ∙ sym (append_assoc (flat_map column_bytes so.others) (column_bytes c) after) ∙ ap (λ bs. bs ++ after) (flat_map_more column_bytes [] so.others c);
  so_far = goes columns so.others so.count_is so.so_far;
}

first_none : (format : Format) (all front behind : List Column) (rest more : List ℕ) → 0 < length behind → all ≡ front ++ behind → rest ≡ flat_map column_bytes behind ++ more → IsSchemaOf format all
    → ((c : Column) (more : List ℕ) → length c.name < 256 → MayHave format c → rest ≡ column_bytes c ++ more → ⊥) → ⊥
first_none format all front [] rest more lt all_are e is none = omega arith
first_none format all front (c ∷ cs) rest more lt all_are e is none =
    let short : Column → Type 0 = λ c. length c.name < 256 in
    let behind : drop (length front) all ≡ c ∷ cs = ap (drop (length front)) all_are ∙ drop_at front (c ∷ cs) (length front) refl in
    let names : All short (c ∷ cs) = subst (All short) behind (All-drop short (length front) all is.is.names) in
    let may : All (MayHave format) (c ∷ cs) = subst (All (MayHave format)) behind (All-drop (MayHave format) (length front) all is.may) in
    none c (flat_map column_bytes cs ++ more) (All-head short c cs names) (All-head (MayHave format) c cs may) (e ∙ append_assoc (column_bytes c) (flat_map column_bytes cs) more)

-- where no column can be read no schema of so many columns is at the front
pub no_schema : (format : Format) (columns : List Column) (told : List ℕ) (count place : ℕ) (rest : List ℕ) (now : ToldColumns) → SchemaSoFar format columns told place rest now → place < count
    → ((c : Column) (more : List ℕ) → length c.name < 256 → MayHave format c → rest ≡ column_bytes c ++ more → ⊥) → (others : List Column) (more : List ℕ) → IsSchemaOf format others → 7 ∷ count ∷ told ≡ schema_bytes others ++ more → ⊥
no_schema format columns told count place rest now so lt none others more is e =
    let len : count ≡ length others = ap (λ bs. get_or bs 1 0) e in
    let t = told_on so.others others rest more (omega (arith, so.count_is)) (sym so.told_is ∙ ap (drop 2) e) in
    first_none format others so.others t.behind rest more (omega (arith, ap length t.all_are, length-append so.others t.behind, so.count_is)) t.all_are t.rest_is is none

told_schema : (format : Format) (columns : List Column) (told : List ℕ) (count : ℕ) (rest : List ℕ) (now : ToldColumns) → (so : SchemaSoFar format columns told count rest now) → 7 ∷ count ∷ told ≡ schema_bytes so.others ++ rest
told_schema format columns told count rest now so = ap (λ n. 7 ∷ n ∷ told) (sym so.count_is) ∙ ap (λ bs. 7 ∷ length so.others ∷ bs) so.told_is

-- all columns were told, and none differs: none is left of those given
all_told : (told own behind : List Column) → own ≡ told ++ behind → length own ≤ length told → own ≡ told
all_told told own behind own_is few =
    let none : behind ≡ [] = nil_from_length behind (omega (arith, ap length own_is, length-append told behind)) in
    own_is ∙ ap (λ cs. told ++ cs) none ∙ append-nil told

all_given : (columns front behind told own : List Column) → columns ≡ front ++ behind → own ≡ told ++ behind → AreWider front told → AreWider columns own
all_given columns front behind told own columns_are own_is agree =
    subst (λ cs. AreWider cs own) (sym columns_are) (subst (AreWider (front ++ behind)) (sym own_is) (wider_join front told behind agree))

pub schema_read : (format : Format) (columns : List Column) (told : List ℕ) (count : ℕ) (rest : List ℕ) (now : ToldColumns) → SchemaSoFar format columns told count rest now → now.differs ≡ None → length now.own ≤ count
    → SchemaRead format columns (7 ∷ count ∷ told) now.own now.wider rest
schema_read format columns told count rest now so none few =
    let fit : WiderSoFar columns so.others now.own now.wider = subst (DiffersSoFar columns so.others now.own now.wider) none so.so_far in
    let own = all_told so.others now.own fit.behind fit.own_is (omega (arith, few, so.count_is)) in
    record {
      may = subst (All (MayHave format)) (sym own) so.may;
      base_is = told_schema format columns told count rest now so ∙ ap (λ cs. schema_bytes cs ++ rest) (sym own);
      agree = all_given columns fit.front fit.behind so.others now.own fit.columns_are fit.own_is fit.agree;
      given = fit.given;
    }

-- a column differs that was told
pub other_schema : (format : Format) (columns : List Column) (told : List ℕ) (count : ℕ) (rest : List ℕ) (now : ToldColumns) (number : ℕ) → SchemaSoFar format columns told count rest now → now.differs ≡ Some number → count < 256 → OtherSchema format columns (7 ∷ count ∷ told) number
other_schema format columns told count rest now number so some few =
    let d : Differed columns so.others number = subst (DiffersSoFar columns so.others now.own now.wider) some so.so_far in
    record {
      others = so.others;
      rest = rest;
      is = record { is = record { few = subst (λ n. n < 256) (sym so.count_is) few; names = so.names }; may = so.may };
      base_is = told_schema format columns told count rest now so;
      differ = record { front = d.front; other_front = d.told_front; rest = d.rest; other_rest = d.column ∷ d.told_rest; columns_are = d.columns_are; others_are = d.told_are; agree = d.agree; differ = d.differ; number_is = d.number_is };
    }

some_left : (behind : List Column) → 0 < length behind → DifferFirst behind []
some_left [] lt = omega arith
some_left (c ∷ cs) lt = tt

-- fewer columns were told than there are
pub less_schema : (format : Format) (columns : List Column) (told : List ℕ) (count : ℕ) (rest : List ℕ) (now : ToldColumns) → SchemaSoFar format columns told count rest now → now.differs ≡ None → count < 256 → count < length now.own → OtherSchema format columns (7 ∷ count ∷ told) (count + 1)
less_schema format columns told count rest now so none few lt =
    let fit : WiderSoFar columns so.others now.own now.wider = subst (DiffersSoFar columns so.others now.own now.wider) none so.so_far in
    record {
      others = so.others;
      rest = rest;
      is = record { is = record { few = subst (λ n. n < 256) (sym so.count_is) few; names = so.names }; may = so.may };
      base_is = told_schema format columns told count rest now so;
      differ = record {
        front = fit.front;
        other_front = so.others;
        rest = fit.behind;
        other_rest = [];
        columns_are = fit.columns_are;
        others_are = sym (append-nil so.others);
        agree = fit.agree;
        differ = some_left fit.behind (omega (arith, lt, ap length fit.own_is, length-append so.others fit.behind, so.count_is));
        number_is = ap (λ n. n + 1) (sym so.count_is ∙ sym (length-wider fit.front so.others fit.agree));
      };
    }
