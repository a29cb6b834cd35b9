-- How the fields of an insert are refused: no earlier check stands.
use Rattle.std.proofs.Common.{◌≡◌, ◌≢◌, ◌<◌, ◌≤◌, ◌∷◌, ◌∙◌, [], List, ℕ, Some, Err, All, map, length, take, refl, sym, ap, subst, arith}
use Rattle.std.specs.List.{zip}
use Rattle.std.specs.Prelude.{slice_get}
use Rattle.std.proofs.lemmas.List.Elements.{All-nil, All-cons}
use Rattle.q4_value.specs.declared.row.Value.{Value}
use Rattle.q4_value.specs.Escape.{escaped}
use Rattle.q4_value.specs.Row.{row_limit, IsRowOf, row_size}
use Rattle.q4_def.specs.declared.table_def.TableDef.{TableDef}
use Rattle.q4_def.specs.Tables.{AreDefs, names_of}
use Rattle.q4_machine.specs.Definitions.{columns_at}
use Rattle.q4_machine.proofs.Histories.{cons_head, cons_tail}
use Rattle.q4_proto.specs.declared.command.CommandFault.{CommandFault}
use Rattle.q4_proto.specs.declared.command.CommandFault.TheVariants.{NotText, Unknown, NotBuilt, Fields, Number, Escape, Entries, NoTable, Cond, Count, Value as BadValue, Long, Memory}
use Rattle.q4_proto.specs.declared.keyword.Keyword.TheVariants.{Insert}
use Rattle.q4_proto.specs.Fields.{IsSpelled, IsFirst}
use Rattle.q4_proto.specs.Commands.{spelled_value, insert_texts, SpellsInsert, IsOfNoTable, IsInsertInto, IsMisspelled, FirstMisspelled, Stands, NoneBefore, IsRefused, ReadsFields}
use Rattle.q4_proto.specs.Inner.{ReadsValues}
use Rattle.q4_proto.proofs.Named.{escaped_name, found_name, found_contained, found_inside, one_place}
use Rattle.q4_proto.proofs.Values.{all_at, none_misspelled}

cons_nil : {X : Type 0} (x : X) (xs : List X) → x ∷ xs ≡ [] → ⊥
cons_nil x xs is = cc is

-- ## Before the table is looked for

pub before_table : (defs : List TableDef) (args values : List (List ℕ)) (field : List ℕ) → args ≡ field ∷ values → All IsSpelled (insert_texts args) → NoneBefore defs Insert args 7
before_table defs args values field is spelled NotText lower stands = stands
before_table defs args values field is spelled Unknown lower stands = stands
before_table defs args values field is spelled NotBuilt lower stands = stands
before_table defs args values field is spelled Fields lower stands = cons_nil field values (sym is ∙ stands)
before_table defs args values field is spelled (Number k) lower stands = stands
before_table defs args values field is spelled (Escape k) lower stands = stands.holds (all_at IsSpelled (insert_texts args) stands.before stands.after stands.found spelled stands.cut)
before_table defs args values field is spelled Entries lower stands = stands
before_table defs args values field is spelled (NoTable k) lower stands = let none : ⊥ = omega (arith, lower) in absurd none
before_table defs args values field is spelled (Cond entry why) lower stands = let none : ⊥ = omega (arith, lower) in absurd none
before_table defs args values field is spelled (Count n) lower stands = let none : ⊥ = omega (arith, lower) in absurd none
before_table defs args values field is spelled (BadValue j) lower stands = let none : ⊥ = omega (arith, lower) in absurd none
before_table defs args values field is spelled Long lower stands = let none : ⊥ = omega (arith, lower) in absurd none
before_table defs args values field is spelled Memory lower stands = let none : ⊥ = omega (arith, lower) in absurd none

no_table_first : (defs : List TableDef) (args values : List (List ℕ)) (field : List ℕ) → args ≡ field ∷ values → IsOfNoTable defs Insert field → IsFirst (IsOfNoTable defs Insert) (take 1 args) 1
no_table_first defs args values field is none = record {
  before = [];
  found = field;
  after = [];
  cut = ap (take 1) is;
  place_is = omega arith;
  none_before = All-nil (λ x. IsOfNoTable defs Insert x → ⊥);
  holds = none;
}

pub no_table : (defs : List TableDef) (args values : List (List ℕ)) (field : List ℕ) → args ≡ field ∷ values → All IsSpelled (insert_texts args) → IsOfNoTable defs Insert field → IsRefused defs Insert args (NoTable 1)
no_table defs args values field is spelled none = record { stands = no_table_first defs args values field is none; first = before_table defs args values field is spelled }

-- ## The table is there

-- What is known of an insert whose table was found.
pub record Into (defs : List TableDef) (args values : List (List ℕ)) (field : List ℕ) (place : ℕ) : Type 0 where
  pub are : AreDefs defs
  pub args_are : args ≡ field ∷ values
  pub spelled : All IsSpelled (insert_texts args)
  pub is_table : slice_get (names_of defs) place ≡ Some field

named : (defs : List TableDef) (args values : List (List ℕ)) (field : List ℕ) (place : ℕ) → Into defs args values field place → escaped field ≡ field
named defs args values field place into = escaped_name field (found_name defs place field into.are into.is_table)

args_named : (defs : List TableDef) (args values : List (List ℕ)) (field : List ℕ) (place : ℕ) → Into defs args values field place → args ≡ escaped field ∷ values
args_named defs args values field place into = into.args_are ∙ ap (λ f. f ∷ values) (sym (named defs args values field place into))

into_it : (defs : List TableDef) (args values : List (List ℕ)) (field : List ℕ) (place : ℕ) → Into defs args values field place → IsInsertInto defs args place values
into_it defs args values field place into = record {
  name = field;
  is_table = into.is_table;
  args_are = args_named defs args values field place into;
}

-- any other reading of the fields is the same one
pub into_same : (defs : List TableDef) (args values : List (List ℕ)) (field : List ℕ) (place : ℕ) → Into defs args values field place → (q : ℕ) (others : List (List ℕ)) → IsInsertInto defs args q others → (q ≡ place) × (others ≡ values)
into_same defs args values field place into q others other =
    let lists = sym other.args_are ∙ into.args_are in
    let name_is : other.name ≡ field = sym (escaped_name other.name (found_name defs q other.name into.are other.is_table)) ∙ cons_head lists in
    (one_place defs q place field into.are (other.is_table ∙ ap Some name_is) into.is_table, cons_tail lists)

table_found : (defs : List TableDef) (args values : List (List ℕ)) (field : List ℕ) (place : ℕ) → Into defs args values field place → (k : ℕ) → IsFirst (IsOfNoTable defs Insert) (take 1 args) k → ⊥
table_found defs args values field place into k first =
    let one : All (λ f. f ≡ field) (take 1 args) = subst (All (λ f. f ≡ field)) (sym (ap (take 1) into.args_are)) (All-cons (λ f. f ≡ field) field [] refl (All-nil (λ f. f ≡ field))) in
    let same : first.found ≡ field = all_at (λ f. f ≡ field) (take 1 args) first.before first.after first.found one first.cut in
    first.holds field (same ∙ sym (named defs args values field place into)) (found_contained defs place field into.is_table)

pub before_count : (defs : List TableDef) (args values : List (List ℕ)) (field : List ℕ) (place : ℕ) → Into defs args values field place → NoneBefore defs Insert args 9
before_count defs args values field place into NotText lower stands = before_table defs args values field into.args_are into.spelled NotText (omega arith) stands
before_count defs args values field place into Unknown lower stands = before_table defs args values field into.args_are into.spelled Unknown (omega arith) stands
before_count defs args values field place into NotBuilt lower stands = before_table defs args values field into.args_are into.spelled NotBuilt (omega arith) stands
before_count defs args values field place into Fields lower stands = before_table defs args values field into.args_are into.spelled Fields (omega arith) stands
before_count defs args values field place into (Number k) lower stands = before_table defs args values field into.args_are into.spelled (Number k) (omega arith) stands
before_count defs args values field place into (Escape k) lower stands = before_table defs args values field into.args_are into.spelled (Escape k) (omega arith) stands
before_count defs args values field place into Entries lower stands = before_table defs args values field into.args_are into.spelled Entries (omega arith) stands
before_count defs args values field place into (NoTable k) lower stands = table_found defs args values field place into k stands
before_count defs args values field place into (Cond entry why) lower stands = stands
before_count defs args values field place into (Count n) lower stands = let none : ⊥ = omega (arith, lower) in absurd none
before_count defs args values field place into (BadValue j) lower stands = let none : ⊥ = omega (arith, lower) in absurd none
before_count defs args values field place into Long lower stands = let none : ⊥ = omega (arith, lower) in absurd none
before_count defs args values field place into Memory lower stands = let none : ⊥ = omega (arith, lower) in absurd none

pub wrong_count : (defs : List TableDef) (args values : List (List ℕ)) (field : List ℕ) (place : ℕ) → Into defs args values field place → length values ≢ length (columns_at defs place) → IsRefused defs Insert args (Count (length (columns_at defs place)))
wrong_count defs args values field place into differs = record { stands = (place, values, into_it defs args values field place into, refl, differs); first = before_count defs args values field place into }

-- ## There are as many values as columns

count_found : (defs : List TableDef) (args values : List (List ℕ)) (field : List ℕ) (place : ℕ) → Into defs args values field place → length values ≡ length (columns_at defs place) → (n : ℕ) → Stands defs Insert args (Count n) → ⊥
count_found defs args values field place into same n (q, others, other, count, differs) =
    let is = into_same defs args values field place into q others other in
    differs (ap length is.1 ∙ same ∙ sym (count ∙ ap (λ p. length (columns_at defs p)) is.0))

pub before_values : (defs : List TableDef) (args values : List (List ℕ)) (field : List ℕ) (place : ℕ) → Into defs args values field place → length values ≡ length (columns_at defs place) → NoneBefore defs Insert args 10
before_values defs args values field place into same NotText lower stands = before_count defs args values field place into NotText (omega arith) stands
before_values defs args values field place into same Unknown lower stands = before_count defs args values field place into Unknown (omega arith) stands
before_values defs args values field place into same NotBuilt lower stands = before_count defs args values field place into NotBuilt (omega arith) stands
before_values defs args values field place into same Fields lower stands = before_count defs args values field place into Fields (omega arith) stands
before_values defs args values field place into same (Number k) lower stands = before_count defs args values field place into (Number k) (omega arith) stands
before_values defs args values field place into same (Escape k) lower stands = before_count defs args values field place into (Escape k) (omega arith) stands
before_values defs args values field place into same Entries lower stands = before_count defs args values field place into Entries (omega arith) stands
before_values defs args values field place into same (NoTable k) lower stands = before_count defs args values field place into (NoTable k) (omega arith) stands
before_values defs args values field place into same (Cond entry why) lower stands = before_count defs args values field place into (Cond entry why) (omega arith) stands
before_values defs args values field place into same (Count n) lower stands = count_found defs args values field place into same n stands
before_values defs args values field place into same (BadValue j) lower stands = let none : ⊥ = omega (arith, lower) in absurd none
before_values defs args values field place into same Long lower stands = let none : ⊥ = omega (arith, lower) in absurd none
before_values defs args values field place into same Memory lower stands = let none : ⊥ = omega (arith, lower) in absurd none

pub bad_value : (defs : List TableDef) (args values : List (List ℕ)) (field : List ℕ) (place j : ℕ) → Into defs args values field place → length values ≡ length (columns_at defs place) → FirstMisspelled (columns_at defs place) values j → IsRefused defs Insert args (BadValue j)
bad_value defs args values field place j into same first = record { stands = (place, values, into_it defs args values field place into, first); first = before_values defs args values field place into same }

-- how the fault of the values is that of the command
pub values_fault : (defs : List TableDef) (args values : List (List ℕ)) (field : List ℕ) (place : ℕ) → Into defs args values field place → length values ≡ length (columns_at defs place) → (fault : CommandFault) → ReadsValues (columns_at defs place) values (Err fault)
    → ReadsFields defs Insert args (Err fault)
values_fault defs args values field place into same NotText reads = absurd reads
values_fault defs args values field place into same Unknown reads = absurd reads
values_fault defs args values field place into same NotBuilt reads = absurd reads
values_fault defs args values field place into same Fields reads = absurd reads
values_fault defs args values field place into same (Number k) reads = absurd reads
values_fault defs args values field place into same (Escape k) reads = absurd reads
values_fault defs args values field place into same Entries reads = absurd reads
values_fault defs args values field place into same (NoTable k) reads = absurd reads
values_fault defs args values field place into same (Cond entry why) reads = absurd reads
values_fault defs args values field place into same (Count n) reads = absurd reads
values_fault defs args values field place into same (BadValue j) reads = bad_value defs args values field place j into same reads
values_fault defs args values field place into same Long reads = absurd reads
values_fault defs args values field place into same Memory reads = tt

-- ## Each value is one of its column

values_found : (defs : List TableDef) (args values : List (List ℕ)) (field : List ℕ) (place : ℕ) (row : List Value) → Into defs args values field place → values ≡ map spelled_value row → IsRowOf (columns_at defs place) row → (j : ℕ) → Stands defs Insert args (BadValue j) → ⊥
values_found defs args values field place row into are_row row_of j (q, others, other, first) =
    let is = into_same defs args values field place into q others other in
    let columns = columns_at defs place in
    let here : FirstMisspelled columns (map spelled_value row) j = subst (λ vs. FirstMisspelled columns vs j) (is.1 ∙ are_row) (subst (λ p. FirstMisspelled (columns_at defs p) others j) is.0 first) in
    all_at (λ p. IsMisspelled p → ⊥) (zip columns (map spelled_value row)) here.first.before here.first.after here.first.found (none_misspelled columns row row_of) here.first.cut here.first.holds

pub before_size : (defs : List TableDef) (args values : List (List ℕ)) (field : List ℕ) (place : ℕ) (row : List Value) → Into defs args values field place → length values ≡ length (columns_at defs place) → values ≡ map spelled_value row → IsRowOf (columns_at defs place) row → NoneBefore defs Insert args 11
before_size defs args values field place row into same are_row row_of NotText lower stands = before_values defs args values field place into same NotText (omega arith) stands
before_size defs args values field place row into same are_row row_of Unknown lower stands = before_values defs args values field place into same Unknown (omega arith) stands
before_size defs args values field place row into same are_row row_of NotBuilt lower stands = before_values defs args values field place into same NotBuilt (omega arith) stands
before_size defs args values field place row into same are_row row_of Fields lower stands = before_values defs args values field place into same Fields (omega arith) stands
before_size defs args values field place row into same are_row row_of (Number k) lower stands = before_values defs args values field place into same (Number k) (omega arith) stands
before_size defs args values field place row into same are_row row_of (Escape k) lower stands = before_values defs args values field place into same (Escape k) (omega arith) stands
before_size defs args values field place row into same are_row row_of Entries lower stands = before_values defs args values field place into same Entries (omega arith) stands
before_size defs args values field place row into same are_row row_of (NoTable k) lower stands = before_values defs args values field place into same (NoTable k) (omega arith) stands
before_size defs args values field place row into same are_row row_of (Cond entry why) lower stands = before_values defs args values field place into same (Cond entry why) (omega arith) stands
before_size defs args values field place row into same are_row row_of (Count n) lower stands = before_values defs args values field place into same (Count n) (omega arith) stands
before_size defs args values field place row into same are_row row_of (BadValue j) lower stands = values_found defs args values field place row into are_row row_of j stands
before_size defs args values field place row into same are_row row_of Long lower stands = let none : ⊥ = omega (arith, lower) in absurd none
before_size defs args values field place row into same are_row row_of Memory lower stands = let none : ⊥ = omega (arith, lower) in absurd none

pub long_row : (defs : List TableDef) (args values : List (List ℕ)) (field : List ℕ) (place : ℕ) (row : List Value) → Into defs args values field place → length values ≡ length (columns_at defs place) → values ≡ map spelled_value row → IsRowOf (columns_at defs place) row → row_limit < row_size row
    → IsRefused defs Insert args Long
long_row defs args values field place row into same are_row row_of long = record {
  stands = (place, values, into_it defs args values field place into, record { row = row; row_of = row_of; values_are = are_row; long = long });
  first = before_size defs args values field place row into same are_row row_of;
}

pub spells_insert : (defs : List TableDef) (args values : List (List ℕ)) (field : List ℕ) (place : ℕ) (row : List Value) → Into defs args values field place → values ≡ map spelled_value row → IsRowOf (columns_at defs place) row → row_size row ≤ row_limit → SpellsInsert defs args place row
spells_insert defs args values field place row into are_row row_of size = record {
  name = field;
  is_table = into.is_table;
  args_are = args_named defs args values field place into ∙ ap (λ vs. escaped field ∷ vs) are_row;
  row_is = record { inside = found_inside defs place field into.is_table; fits = record { row_of = row_of; size = size } };
}
