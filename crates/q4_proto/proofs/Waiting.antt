-- How the fields of a wait are cut, and how they are refused: no earlier check stands.
use Rattle.std.proofs.Common.{◌≡◌, ◌≢◌, ◌<◌, ◌≤◌, ◌-◌, ◌++◌, ◌∷◌, ◌∙◌, [], List, ℕ, Bool, true, false, Option, None, Some, Result, Ok, Err, All, length, get_or, take, refl, sym, ap, subst, arith, if◌then◌else◌}
use Rattle.std.specs.List.{Contains, before_first}
use Rattle.std.specs.Bool.{OnTrue, OnFalse}
use Rattle.std.specs.Option.{is_some, IfSome, IfNone}
use Rattle.std.specs.Result.{is_err, OnOk}
use Rattle.std.specs.Prelude.{slice_get}
use Rattle.std.proofs.lemmas.Bool.{ne_eqb, true≢false}
use Rattle.std.proofs.lemmas.List.{length-append, take_at}
use Rattle.std.proofs.Math.Seq.{get_or-append_seam}
use Rattle.q4_value.specs.Escape.{escaped}
use Rattle.q4_value.proofs.EscapeLaws.{escaped_once}
use Rattle.q4_cond.specs.declared.fault.CondFault.{CondFault}
use Rattle.q4_def.specs.declared.table_def.TableDef.{TableDef}
use Rattle.q4_def.specs.Tables.{AreDefs, names_of}
use Rattle.q4_machine.specs.declared.looks.Listed.{Listed}
use Rattle.q4_machine.proofs.Validity.{none_some}
use Rattle.q4_proto.specs.declared.command.CommandFault.{CommandFault}
use Rattle.q4_proto.specs.declared.command.CommandFault.TheVariants.{NotText, Unknown, NotBuilt, Fields, Number, Escape, Entries, NoTable, Cond, Count, Value as BadValue, Long, Memory}
use Rattle.q4_proto.specs.declared.keyword.Keyword.TheVariants.{Wait}
use Rattle.q4_proto.specs.Fields.{IsSpelled}
use Rattle.q4_proto.specs.Commands.{behind_equal, seconds_of, entries_of, IsSeconds, SpellsEntry, SpellEntries, IsBadNumber, IsNoNumber, IsOfNoTable, FirstEntryFails, NoneBefore, ReadsFields}
use Rattle.q4_proto.specs.Inner.{ReadsEntries}
use Rattle.q4_proto.proofs.Colons.{is_colon, before_escaped}
use Rattle.q4_proto.proofs.Named.{escaped_name, contained_name, found_contained}
use Rattle.q4_proto.proofs.Values.{all_at}

-- ## The entries and the seconds

last_is : (args front : List (List ℕ)) (last : List ℕ) → args ≡ front ++ last ∷ [] → get_or args (length args - 1) [] ≡ last
last_is args front last cut =
    let size : length args - 1 ≡ length front = omega (arith, ap length cut, length-append front (last ∷ [])) in
    ap (λ n. get_or args n []) size ∙ ap (λ xs. get_or xs (length front) []) cut ∙ get_or-append_seam front last [] []

front_is : (args front : List (List ℕ)) (last : List ℕ) → args ≡ front ++ last ∷ [] → take (length args - 1) args ≡ front
front_is args front last cut =
    let size : length front ≡ length args - 1 = omega (arith, ap length cut, length-append front (last ∷ [])) in
    ap (take (length args - 1)) cut ∙ take_at front (last ∷ []) (length args - 1) size

pub with_seconds : (args front : List (List ℕ)) (digits : List ℕ) → args ≡ front ++ (61 ∷ digits) ∷ [] → (entries_of args ≡ front) × (seconds_of args ≡ Some digits)
with_seconds args front digits cut =
    let told : seconds_of args ≡ Some digits = ap behind_equal (last_is args front (61 ∷ digits) cut) in
    (ap (λ o. if is_some o then take (length args - 1) args else args) told ∙ front_is args front (61 ∷ digits) cut, told)

no_equal : (field : List ℕ) → ((rest : List ℕ) → field ≢ 61 ∷ rest) → behind_equal field ≡ None
no_equal [] none = refl
no_equal (b ∷ rest) none = rw (ne_eqb b 61 (λ is. none rest (ap (λ x. x ∷ rest) is))) refl

pub without_seconds : (args front : List (List ℕ)) (last : List ℕ) → args ≡ front ++ last ∷ [] → ((rest : List ℕ) → last ≢ 61 ∷ rest) → (entries_of args ≡ args) × (seconds_of args ≡ None)
without_seconds args front last cut none =
    let told : seconds_of args ≡ None = ap behind_equal (last_is args front last cut) ∙ no_equal last none in
    (ap (λ o. if is_some o then take (length args - 1) args else args) told, told)

pub none_weaker : {X : Type 0} (P Q : Type 0) (o : Option X) → (P → Q) → IfNone o P → IfNone o Q
none_weaker P Q None more none = more none
none_weaker P Q (Some x) more none = tt

-- ## The table of an entry

pub table_named : (defs : List TableDef) (field name : List ℕ) → AreDefs defs → IsSpelled field → name ≡ before_first is_colon field → Contains (names_of defs) name → IsOfNoTable defs Wait field → ⊥
table_named defs field name are spelled front there none =
    let own = before_first is_colon spelled.0 in
    let same : name ≡ escaped own = front ∙ ap (before_first is_colon) spelled.1 ∙ before_escaped spelled.0 in
    let is : own ≡ name = escaped_once own name (sym same ∙ sym (escaped_name name (contained_name defs name are there))) in
    none own (spelled.0, spelled.1, refl) (subst (Contains (names_of defs)) (sym is) there)

pub table_unknown : (defs : List TableDef) (field name : List ℕ) → AreDefs defs → name ≡ before_first is_colon field → (Contains (names_of defs) name → ⊥) → IsOfNoTable defs Wait field
table_unknown defs field name are front none other names there =
    let spelled : escaped other ≡ name = ap escaped names.2 ∙ sym (before_escaped names.0) ∙ ap (before_first is_colon) (sym names.1) ∙ sym front in
    none (subst (Contains (names_of defs)) (sym (escaped_name other (contained_name defs other are there)) ∙ spelled) there)

pub find_names : (defs : List TableDef) (field name : List ℕ) (found : Option ℕ) (answer : Bool) → answer ≡ is_some found → AreDefs defs → IsSpelled field → name ≡ before_first is_colon field → IfSome found (λ place. slice_get (names_of defs) place ≡ Some name)
    → IfNone found (Contains (names_of defs) name → ⊥) → OnTrue answer (IsOfNoTable defs Wait field → ⊥) × OnFalse answer (IsOfNoTable defs Wait field)
find_names defs field name (Some place) true is are spelled front there none = (table_named defs field name are spelled front (found_contained defs place name there), tt)
find_names defs field name (Some place) false is are spelled front there none = absurd (true≢false (sym is))
find_names defs field name None true is are spelled front there none = absurd (true≢false is)
find_names defs field name None false is are spelled front there none = (tt, table_unknown defs field name are front none)

-- ## Entries and their list

pub spell_more : (defs : List TableDef) (fields : List (List ℕ)) (list : List Listed) (field : List ℕ) (listed : Listed) → SpellEntries defs fields list → SpellsEntry defs field listed → SpellEntries defs (fields ++ field ∷ []) (list ++ listed ∷ [])
spell_more defs [] [] field listed so_far spells = (spells, tt)
spell_more defs [] (other ∷ list) field listed so_far spells = absurd so_far
spell_more defs (first ∷ fields) [] field listed so_far spells = absurd so_far
spell_more defs (first ∷ fields) (other ∷ list) field listed so_far spells = (so_far.0, spell_more defs fields list field listed so_far.1 spells)

pub if_ok : {T E : Type 0} (r : Result T E) (P : Type 0) → is_err r ≡ false → OnOk r P → P
if_ok (Ok x) P ok holds = holds
if_ok (Err e) P ok holds = absurd (true≢false ok)

-- ## The checks that a wait passed

-- What is known where each check before this one was passed.
pub record Passed (defs : List TableDef) (args : List (List ℕ)) (order : ℕ) : Type 0 where
  pub some : 3 < order → entries_of args ≢ []
  pub number : 4 < order → (k : ℕ) → IsBadNumber Wait args k → ⊥
  pub spelled : 5 < order → All IsSpelled (entries_of args)
  pub few : 6 < order → length (entries_of args) ≤ 16
  pub named : 7 < order → All (λ f. IsOfNoTable defs Wait f → ⊥) (entries_of args)
  pub read : 8 < order → (k : ℕ) (why : CondFault) → FirstEntryFails defs (entries_of args) k why → ⊥

pub none_before : (defs : List TableDef) (args : List (List ℕ)) (order : ℕ) → Passed defs args order → NoneBefore defs Wait args order
none_before defs args order passed NotText lower stands = stands
none_before defs args order passed Unknown lower stands = stands
none_before defs args order passed NotBuilt lower stands = stands
none_before defs args order passed Fields lower stands = passed.some lower stands
none_before defs args order passed (Number k) lower stands = passed.number lower k stands
none_before defs args order passed (Escape k) lower stands = stands.holds (all_at IsSpelled (entries_of args) stands.before stands.after stands.found (passed.spelled lower) stands.cut)
none_before defs args order passed Entries lower stands = let few = passed.few lower in omega (arith, few, stands)
none_before defs args order passed (NoTable k) lower stands = all_at (λ f. IsOfNoTable defs Wait f → ⊥) (entries_of args) stands.before stands.after stands.found (passed.named lower) stands.cut stands.holds
none_before defs args order passed (Cond k why) lower stands = passed.read lower k why stands
none_before defs args order passed (Count n) lower stands = stands
none_before defs args order passed (BadValue j) lower stands = stands
none_before defs args order passed Long lower stands = stands
none_before defs args order passed Memory lower stands = stands

pub passed_some : (defs : List TableDef) (args : List (List ℕ)) → entries_of args ≢ [] → Passed defs args 4
passed_some defs args some = record {
  some = λ lower. some;
  number = λ lower. absurd (omega (arith, lower));
  spelled = λ lower. absurd (omega (arith, lower));
  few = λ lower. absurd (omega (arith, lower));
  named = λ lower. absurd (omega (arith, lower));
  read = λ lower. absurd (omega (arith, lower));
}

some_is : {X : Type 0} (x y : X) → Some x ≡ Some y → x ≡ y
some_is x y is = cc

pub passed_number : (defs : List TableDef) (args : List (List ℕ)) (seconds : ℕ) → Passed defs args 4 → IsSeconds (seconds_of args) seconds → Passed defs args 5
passed_number defs args seconds before is = record {
  some = λ lower. before.some (omega arith);
  number = λ lower k bad. no_bad (seconds_of args) seconds bad.0 is bad.1 bad.3;
  spelled = λ lower. absurd (omega (arith, lower));
  few = λ lower. absurd (omega (arith, lower));
  named = λ lower. absurd (omega (arith, lower));
  read = λ lower. absurd (omega (arith, lower));
} where
  no_bad : (told : Option (List ℕ)) (seconds : ℕ) (digits : List ℕ) → IsSeconds told seconds → told ≡ Some digits → IsNoNumber 3600 digits → ⊥
  no_bad None seconds digits is told none = absurd (none_some digits told)
  no_bad (Some text) seconds digits is told none = none seconds is.1 (sym (some_is text digits told) ∙ is.0)

pub passed_spelled : (defs : List TableDef) (args : List (List ℕ)) → Passed defs args 5 → All IsSpelled (entries_of args) → Passed defs args 6
passed_spelled defs args before spelled = record {
  some = λ lower. before.some (omega arith);
  number = λ lower. before.number (omega arith);
  spelled = λ lower. spelled;
  few = λ lower. absurd (omega (arith, lower));
  named = λ lower. absurd (omega (arith, lower));
  read = λ lower. absurd (omega (arith, lower));
}

-- the checks before the number of entries
pub passed_escapes : (defs : List TableDef) (args entries : List (List ℕ)) (told : Option (List ℕ)) (seconds : ℕ) → entries ≡ entries_of args → told ≡ seconds_of args → (length entries ≡ 0 → ⊥) → IsSeconds told seconds → All IsSpelled entries → Passed defs args 6
passed_escapes defs args entries told seconds are told_are some is spelled =
    passed_spelled defs args (passed_number defs args seconds (passed_some defs args (λ none. some (ap length (are ∙ none)))) (subst (λ o. IsSeconds o seconds) told_are is)) (subst (All IsSpelled) are spelled)

pub passed_few : (defs : List TableDef) (args : List (List ℕ)) → Passed defs args 6 → length (entries_of args) ≤ 16 → Passed defs args 7
passed_few defs args before few = record {
  some = λ lower. before.some (omega arith);
  number = λ lower. before.number (omega arith);
  spelled = λ lower. before.spelled (omega arith);
  few = λ lower. few;
  named = λ lower. absurd (omega (arith, lower));
  read = λ lower. absurd (omega (arith, lower));
}

pub passed_named : (defs : List TableDef) (args : List (List ℕ)) → Passed defs args 7 → All (λ f. IsOfNoTable defs Wait f → ⊥) (entries_of args) → Passed defs args 8
passed_named defs args before named = record {
  some = λ lower. before.some (omega arith);
  number = λ lower. before.number (omega arith);
  spelled = λ lower. before.spelled (omega arith);
  few = λ lower. before.few (omega arith);
  named = λ lower. named;
  read = λ lower. absurd (omega (arith, lower));
}

pub passed_all : (defs : List TableDef) (args : List (List ℕ)) → Passed defs args 8 → ((k : ℕ) (why : CondFault) → FirstEntryFails defs (entries_of args) k why → ⊥) → Passed defs args 13
passed_all defs args before read = record {
  some = λ lower. before.some (omega arith);
  number = λ lower. before.number (omega arith);
  spelled = λ lower. before.spelled (omega arith);
  few = λ lower. before.few (omega arith);
  named = λ lower. before.named (omega arith);
  read = λ lower. read;
}

-- how the fault of the entries is that of the command
pub entries_fault : (defs : List TableDef) (args : List (List ℕ)) → Passed defs args 8 → (fault : CommandFault) → ReadsEntries defs (entries_of args) (Err fault) → ReadsFields defs Wait args (Err fault)
entries_fault defs args before NotText reads = absurd reads
entries_fault defs args before Unknown reads = absurd reads
entries_fault defs args before NotBuilt reads = absurd reads
entries_fault defs args before Fields reads = absurd reads
entries_fault defs args before (Number k) reads = absurd reads
entries_fault defs args before (Escape k) reads = absurd reads
entries_fault defs args before Entries reads = absurd reads
entries_fault defs args before (NoTable k) reads = absurd reads
entries_fault defs args before (Cond k why) reads = record { stands = reads; first = none_before defs args 8 before }
entries_fault defs args before (Count n) reads = absurd reads
entries_fault defs args before (BadValue j) reads = absurd reads
entries_fault defs args before Long reads = absurd reads
entries_fault defs args before Memory reads = tt
