-- How the fields of a select are read and refused: no earlier check stands.
use Rattle.std.proofs.Common.{◌≡◌, ◌<◌, ◌≤◌, ◌∷◌, ◌∙◌, [], List, ℕ, Some, All, take, length, decimal, refl, sym, ap, subst, arith}
use Rattle.std.specs.List.{Contains}
use Rattle.std.specs.Prelude.{slice_get}
use Rattle.std.proofs.lemmas.List.Elements.{All-nil, All-cons}
use Rattle.q4_value.specs.Escape.{escaped}
use Rattle.q4_def.specs.declared.table_def.TableDef.{TableDef}
use Rattle.q4_def.specs.Tables.{AreDefs, names_of}
use Rattle.q4_machine.proofs.Histories.{cons_head, cons_tail}
use Rattle.q4_proto.specs.declared.command.CommandFault.{CommandFault}
use Rattle.q4_proto.specs.declared.command.CommandFault.TheVariants.{NotText, Unknown, NotBuilt, Fields, Number, Escape, Entries, NoTable, Cond, Count, Value as BadValue, Long, Memory}
use Rattle.q4_proto.specs.declared.keyword.Keyword.TheVariants.{Select}
use Rattle.q4_proto.specs.Fields.{IsSpelled, IsFirst}
use Rattle.q4_proto.specs.Commands.{SpellsSelect, IsNoNumber, IsOfNoTable, Stands, rank, NoneBefore, IsRefused}
use Rattle.q4_proto.proofs.Named.{escaped_name, found_name, contained_name, found_contained}
use Rattle.q4_proto.proofs.Values.{all_at}

-- What is known of the fields where the most is a number.
pub record Asks (args : List (List ℕ)) (name : List ℕ) (most : ℕ) : Type 0 where
  pub digits : List ℕ
  pub args_are : args ≡ name ∷ digits ∷ []
  pub number : digits ≡ decimal most
  pub few : most ≤ 1000

-- the one field that is a text is the first that P holds of
first_text : (P : List ℕ → Type 0) (args : List (List ℕ)) (name : List ℕ) (most : ℕ) → Asks args name most → P name → IsFirst P (take 1 args) 1
first_text P args name most asks holds = record { before = []; found = name; after = []; cut = ap (take 1) asks.args_are; place_is = omega arith; none_before = All-nil (λ f. P f → ⊥); holds = holds }

no_first : (P : List ℕ → Type 0) (args : List (List ℕ)) (name : List ℕ) (most k : ℕ) → Asks args name most → (P name → ⊥) → IsFirst P (take 1 args) k → ⊥
no_first P args name most k asks none first =
    let one : All (λ f. f ≡ name) (take 1 args) = subst (All (λ f. f ≡ name)) (sym (ap (take 1) asks.args_are)) (All-cons (λ f. f ≡ name) name [] refl (All-nil (λ f. f ≡ name))) in
    none (subst P (all_at (λ f. f ≡ name) (take 1 args) first.before first.after first.found one first.cut) first.holds)

is_number : (args : List (List ℕ)) (name other text : List ℕ) (most : ℕ) → Asks args name most → args ≡ other ∷ text ∷ [] → IsNoNumber 1000 text → ⊥
is_number args name other text most asks is none =
    let same : text ≡ asks.digits = cons_head (cons_tail (sym is ∙ asks.args_are)) in
    none most asks.few (same ∙ asks.number)

pub none_before : (defs : List TableDef) (args : List (List ℕ)) (name : List ℕ) (most order : ℕ) → Asks args name most → (5 < order → IsSpelled name) → (7 < order → IsOfNoTable defs Select name → ⊥) → NoneBefore defs Select args order
none_before defs args name most order asks spelled named NotText lower stands = stands
none_before defs args name most order asks spelled named Unknown lower stands = stands
none_before defs args name most order asks spelled named NotBuilt lower stands = stands
none_before defs args name most order asks spelled named Fields lower stands = stands (ap length asks.args_are)
none_before defs args name most order asks spelled named (Number k) lower stands = is_number args name stands.0 stands.1 most asks stands.2 stands.4
none_before defs args name most order asks spelled named (Escape k) lower stands = no_first (λ f. IsSpelled f → ⊥) args name most k asks (λ bad. bad (spelled lower)) stands
none_before defs args name most order asks spelled named Entries lower stands = stands
none_before defs args name most order asks spelled named (NoTable k) lower stands = no_first (IsOfNoTable defs Select) args name most k asks (named lower) stands
none_before defs args name most order asks spelled named (Cond entry why) lower stands = stands
none_before defs args name most order asks spelled named (Count n) lower stands = stands
none_before defs args name most order asks spelled named (BadValue j) lower stands = stands
none_before defs args name most order asks spelled named Long lower stands = stands
none_before defs args name most order asks spelled named Memory lower stands = stands

pub bad_escape : (defs : List TableDef) (args : List (List ℕ)) (name : List ℕ) (most : ℕ) → Asks args name most → (IsSpelled name → ⊥) → IsRefused defs Select args (Escape 1)
bad_escape defs args name most asks bad = record {
  stands = first_text (λ f. IsSpelled f → ⊥) args name most asks bad;
  first = none_before defs args name most 5 asks (λ lower. absurd (omega (arith, lower))) (λ lower. absurd (omega (arith, lower)));
}

pub no_table : (defs : List TableDef) (args : List (List ℕ)) (name : List ℕ) (most : ℕ) → AreDefs defs → Asks args name most → IsSpelled name → (Contains (names_of defs) name → ⊥) → IsRefused defs Select args (NoTable 1)
no_table defs args name most are asks spelled none = record {
  stands = first_text (IsOfNoTable defs Select) args name most asks (λ other names there. none (subst (Contains (names_of defs)) (sym (names ∙ escaped_name other (contained_name defs other are there))) there));
  first = none_before defs args name most 7 asks (λ lower. spelled) (λ lower. absurd (omega (arith, lower)));
}

pub spells_select : (defs : List TableDef) (args : List (List ℕ)) (name : List ℕ) (place most : ℕ) → AreDefs defs → Asks args name most → slice_get (names_of defs) place ≡ Some name → SpellsSelect defs args place most
spells_select defs args name place most are asks is = record {
  name = name;
  is_table = is;
  args_are = asks.args_are ∙ ap (λ f. f ∷ asks.digits ∷ []) (sym (escaped_name name (found_name defs place name are is))) ∙ ap (λ d. escaped name ∷ d ∷ []) asks.number;
  few = asks.few;
}

-- a select that is spelled is not refused
pub select_apart : (defs : List TableDef) (args : List (List ℕ)) (place most : ℕ) (f : CommandFault) → rank f < 13 → SpellsSelect defs args place most → Stands defs Select args f → ⊥
select_apart defs args place most f lower s stands =
    let asks : Asks args (escaped s.name) most = record { digits = decimal most; args_are = s.args_are; number = refl; few = s.few } in
    none_before defs args (escaped s.name) most 13 asks (λ lower. (s.name, refl)) (λ lower none. none s.name refl (found_contained defs place s.name s.is_table)) f lower stands
