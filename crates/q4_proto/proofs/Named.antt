-- Names of tables, as fields spell them.
use Rattle.std.proofs.Common.{◌≡◌, ◌<◌, ◌∙◌, List, ℕ, Some, None, All, length, get_or, sym, ap, subst, arith, inl, inr}
use Rattle.std.specs.List.{Contains}
use Rattle.std.specs.Option.{option_map}
use Rattle.std.specs.Prelude.{slice_get}
use Rattle.std.proofs.lemmas.Bool.{cases_order}
use Rattle.std.proofs.lemmas.List.{length-map, get_or-map}
use Rattle.std.proofs.lemmas.List.Elements.{All-map, All-weaker}
use Rattle.std.proofs.lemmas.Option.{slice_get_cases, slice_get-map, get_or_from_slice_get}
use Rattle.q4_value.specs.Escape.{escaped, IsFieldByte}
use Rattle.q4_value.specs.Names.{IsNameByte, IsName}
use Rattle.q4_value.proofs.Runs.{IsNoBackslash, plain}
use Rattle.q4_def.specs.declared.table_def.TableDef.{TableDef}
use Rattle.q4_def.specs.Tables.{IsTableDef, AreDefs, names_of}
use Rattle.q4_machine.specs.Definitions.{no_definition, columns_at}
use Rattle.q4_machine.proofs.Validity.{none_some}

name_field : (b : ℕ) → IsNameByte b → IsFieldByte b
name_field b (inl lower) = (λ e. omega (arith, e, lower.0), λ e. omega (arith, e, lower.0), λ e. omega (arith, e, lower.0))
name_field b (inr (inl digit)) = (λ e. omega (arith, e, digit.0), λ e. omega (arith, e, digit.0), λ e. omega (arith, e, digit.0))
name_field b (inr (inr line)) = (λ e. omega (arith, e, line), λ e. omega (arith, e, line), λ e. omega (arith, e, line))

name_plain : (b : ℕ) → IsNameByte b → IsNoBackslash b
name_plain b (inl lower) = λ e. omega (arith, e, lower.0)
name_plain b (inr (inl digit)) = λ e. omega (arith, e, digit.1)
name_plain b (inr (inr line)) = λ e. omega (arith, e, line)

-- a name stands for itself in a field
pub escaped_name : (name : List ℕ) → IsName name → escaped name ≡ name
escaped_name name is = plain name (All-weaker IsNameByte IsFieldByte name_field name is.bytes) (All-weaker IsNameByte IsNoBackslash name_plain name is.bytes)

pub all_named : (defs : List TableDef) → AreDefs defs → All IsName (names_of defs)
all_named defs are = All-map IsName (λ (def : TableDef). def.name) defs (All-weaker IsTableDef (λ (def : TableDef). IsName def.name) (λ def is. is.named) defs are.distinct.each)

pub contained_name : (defs : List TableDef) (name : List ℕ) → AreDefs defs → Contains (names_of defs) name → IsName name
contained_name defs name are (k, inside, is) = subst IsName is (all_named defs are k name inside)

-- the table of a name
pub record Found (defs : List TableDef) (place : ℕ) (name : List ℕ) : Type 0 where
  pub inside : place < length (names_of defs)
  pub is : get_or (names_of defs) place name ≡ name

pub found_at : (defs : List TableDef) (place : ℕ) (name : List ℕ) → slice_get (names_of defs) place ≡ Some name → Found defs place name
found_at defs place name is = elim (slice_get_cases (names_of defs) place).1 [
  | inl there ↦ record { inside = there.1; is = get_or_from_slice_get (names_of defs) place name name is }
  | inr past ↦ absurd (none_some name (sym past.1 ∙ is))
]

pub found_name : (defs : List TableDef) (place : ℕ) (name : List ℕ) → AreDefs defs → slice_get (names_of defs) place ≡ Some name → IsName name
found_name defs place name are is =
    let found = found_at defs place name is in
    subst IsName found.is (all_named defs are place name found.inside)

pub found_contained : (defs : List TableDef) (place : ℕ) (name : List ℕ) → slice_get (names_of defs) place ≡ Some name → Contains (names_of defs) name
found_contained defs place name is =
    let found = found_at defs place name is in
    (place, found.inside, found.is)

pub found_inside : (defs : List TableDef) (place : ℕ) (name : List ℕ) → slice_get (names_of defs) place ≡ Some name → place < length defs
found_inside defs place name is =
    let found = found_at defs place name is in
    let size = length-map defs (λ (def : TableDef). def.name) in
    omega (arith, found.inside, size)

-- no two tables have one name
pub one_place : (defs : List TableDef) (p q : ℕ) (name : List ℕ) → AreDefs defs → slice_get (names_of defs) p ≡ Some name → slice_get (names_of defs) q ≡ Some name → p ≡ q
one_place defs p q name are at_p at_q =
    let name_at = λ (k : ℕ) (is : slice_get (names_of defs) k ≡ Some name).
    let shown : (get_or defs k no_definition).name ≡ name = sym (get_or-map (λ (def : TableDef). def.name) defs k no_definition name (found_inside defs k name is)) ∙ (found_at defs k name is).is in shown in
    elim (cases_order p q) [
      | inl same ↦ same
      | inr (inl below) ↦ absurd (are.distinct.once p q no_definition below (found_inside defs q name at_q) (name_at p at_p ∙ sym (name_at q at_q)))
      | inr (inr above) ↦ absurd (are.distinct.once q p no_definition above (found_inside defs p name at_p) (name_at q at_q ∙ sym (name_at p at_p)))
    ]

-- the columns of the definition that was looked up
pub columns_are : (defs : List TableDef) (place : ℕ) (def : TableDef) → slice_get defs place ≡ Some def → columns_at defs place ≡ def.columns
columns_are defs place def is = ap (λ (d : TableDef). d.columns) (get_or_from_slice_get defs place def no_definition is)

-- a name that was found has a definition
pub has_definition : (defs : List TableDef) (place : ℕ) (name : List ℕ) → slice_get (names_of defs) place ≡ Some name → slice_get defs place ≡ None → ⊥
has_definition defs place name is none =
    let mapped = slice_get-map (λ (def : TableDef). def.name) defs place in
    none_some name (sym (mapped ∙ ap (λ o. option_map (λ (def : TableDef). def.name) o) none) ∙ is)
