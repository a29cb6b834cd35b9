-- Every line has an answer.
use Rattle.std.proofs.Common.{◌≡◌, ◌≢◌, ◌<◌, ◌≤◌, ◌+◌, ◌++◌, ◌∷◌, ◌∙◌, ◌⊎◌, [], List, ℕ, Option, None, Some, Result, Ok, Err, All, map, length, decimal, refl, sym, ap, subst, arith, inl, inr}
use Rattle.std.specs.List.{Contains, zip, before_first, after_first, position_or_len}
use Rattle.std.specs.Prelude.{slice_get}
use Rattle.std.specs.Str.{IsUtf8}
use Rattle.std.proofs.lemmas.Bool.{cases_lt, eqb-true}
use Rattle.std.proofs.lemmas.List.{take_all}
use Rattle.std.proofs.lemmas.List.Elements.{All-nil, All-cons, All-head, All-tail}
use Rattle.std.proofs.lemmas.List.Sums.{split_at_first, passes_at_first}
use Rattle.q4_value.specs.declared.column.Column.{Column}
use Rattle.q4_value.specs.declared.row.Value.{Value}
use Rattle.q4_value.specs.Escape.{escaped}
use Rattle.q4_value.specs.Row.{row_limit, IsValue, IsRowOf, row_size}
use Rattle.q4_value.proofs.EscapeLaws.{escaped_once}
use Rattle.q4_cond.specs.declared.fault.CondFault.{CondFault}
use Rattle.q4_cond.specs.Condition.{Condition}
use Rattle.q4_cond.specs.Reading.{kinds_of}
use Rattle.q4_def.specs.declared.table_def.TableDef.{TableDef}
use Rattle.q4_def.specs.Tables.{AreDefs, names_of}
use Rattle.q4_machine.specs.declared.looks.Listed.{Listed}
use Rattle.q4_machine.specs.Definitions.{columns_at}
use Rattle.q4_machine.proofs.Histories.{cons_head}
use Rattle.q4_proto.specs.declared.command.Command.{Command}
use Rattle.q4_proto.specs.declared.command.Command.TheVariants as spelled
use Rattle.q4_proto.specs.declared.command.CommandFault.{CommandFault}
use Rattle.q4_proto.specs.declared.command.CommandFault.TheVariants.{NotText, Unknown, NotBuilt, Fields, Number, Escape, Entries, NoTable, Cond, Count, Value as BadValue, Long, Memory}
use Rattle.q4_proto.specs.declared.keyword.Keyword.{Keyword}
use Rattle.q4_proto.specs.declared.keyword.Keyword.TheVariants.{Insert, Source, Wait, RowId, End, Abort, Select, Compact, Quit}
use Rattle.q4_proto.specs.Fields.{fields_of, IsSpelled, IsFirst}
use Rattle.q4_proto.specs.Commands.{spelled_value, insert_texts, entries_of, seconds_of, IsSeconds, SpellsEntry, SpellEntries, IsNotBuilt, IsWrongCount, IsBadNumber, IsOfNoTable, EntryFails, IsMisspelled, NoneBefore, IsRefused, ReadsFields, Begins, Reads}
use Rattle.q4_proto.specs.Inner.{IsCut}
use Rattle.q4_proto.proofs.Colons.{is_colon}
use Rattle.q4_proto.proofs.Named.{escaped_name, contained_name, found_contained}
use Rattle.q4_proto.proofs.Deciding.{Decided, number_told as number_same, list_told, below_told, spelled_told, text_told, name_told, word_told, SpellsValue, value_told}
use Rattle.q4_proto.proofs.Entries.{spells_entry, entry_fails, entry_apart}
use Rattle.q4_proto.proofs.Judging.{cond_answer}
use Rattle.q4_proto.proofs.Refusing.{Into, no_table, wrong_count, bad_value, long_row, spells_insert}
use Rattle.q4_proto.proofs.Selecting as selecting
use Rattle.q4_proto.proofs.Splitting.{some_field}
use Rattle.q4_proto.proofs.Waiting.{Passed, passed_some, passed_number, passed_spelled, passed_few, passed_named, none_before}

-- ## The first of a list

-- Each element is a fault or good, and no fault is good.
first_or_all : {X : Type 0} (R P Q : X → Type 0) → ((x : X) → R x → P x ⊎ (Q x × (P x → ⊥))) → (xs : List X) → All R xs → ((k : ℕ) × IsFirst P xs k) ⊎ All Q xs
first_or_all R P Q told [] each = inr (All-nil Q)
first_or_all R P Q told (x ∷ xs) each = by_first P Q x xs (told x (All-head R x xs each)) (first_or_all R P Q told xs (All-tail R x xs each)) where
  by_first : {X : Type 0} (P Q : X → Type 0) (x : X) (xs : List X) → P x ⊎ (Q x × (P x → ⊥)) → ((k : ℕ) × IsFirst P xs k) ⊎ All Q xs → ((k : ℕ) × IsFirst P (x ∷ xs) k) ⊎ All Q (x ∷ xs)
  by_first P Q x xs (inl fault) rest = inl (1, record { before = []; found = x; after = xs; cut = refl; place_is = omega arith; none_before = All-nil (λ y. P y → ⊥); holds = fault })
  by_first P Q x xs (inr good) (inl first) = inl (
    first.0 + 1,
    record {
      before = x ∷ first.1.before;
      found = first.1.found;
      after = first.1.after;
      cut = ap (λ ys. x ∷ ys) first.1.cut;
      place_is = (let place = first.1.place_is in omega (arith, place));
      none_before = All-cons (λ y. P y → ⊥) x first.1.before good.1 first.1.none_before;
      holds = first.1.holds;
    },
  )
  by_first P Q x xs (inr good) (inr all) = inr (All-cons Q x xs good.0 all)

escape_or_none : (fields : List (List ℕ)) → ((k : ℕ) × IsFirst (λ f. IsSpelled f → ⊥) fields k) ⊎ All IsSpelled fields
escape_or_none fields = first_or_all (λ f. Unit {0}) (λ f. IsSpelled f → ⊥) IsSpelled (λ f known. by_field f (spelled_told f)) fields (λ k d inside. tt) where
  by_field : (f : List ℕ) → Decided (IsSpelled f) → (IsSpelled f → ⊥) ⊎ (IsSpelled f × ((IsSpelled f → ⊥) → ⊥))
  by_field f (inl spells) = inr (spells, λ bad. bad spells)
  by_field f (inr bad) = inl bad

-- ## The checks that need no table

-- No fault of an early check stands.
early : (defs : List TableDef) (keyword : Keyword) (args : List (List ℕ)) (order : ℕ) → order ≤ 5 → (IsNotBuilt keyword → ⊥) → (3 < order → IsWrongCount keyword args → ⊥) → (4 < order → (k : ℕ) → IsBadNumber keyword args k → ⊥) → NoneBefore defs keyword args order
early defs keyword args order most built counted number NotText lower stands = stands
early defs keyword args order most built counted number Unknown lower stands = stands
early defs keyword args order most built counted number NotBuilt lower stands = built stands
early defs keyword args order most built counted number Fields lower stands = counted lower stands
early defs keyword args order most built counted number (Number k) lower stands = number lower k stands
early defs keyword args order most built counted number (Escape k) lower stands = absurd (omega (arith, lower, most))
early defs keyword args order most built counted number Entries lower stands = absurd (omega (arith, lower, most))
early defs keyword args order most built counted number (NoTable k) lower stands = absurd (omega (arith, lower, most))
early defs keyword args order most built counted number (Cond at why) lower stands = absurd (omega (arith, lower, most))
early defs keyword args order most built counted number (Count n) lower stands = absurd (omega (arith, lower, most))
early defs keyword args order most built counted number (BadValue j) lower stands = absurd (omega (arith, lower, most))
early defs keyword args order most built counted number Long lower stands = absurd (omega (arith, lower, most))
early defs keyword args order most built counted number Memory lower stands = absurd (omega (arith, lower, most))

-- What the fields behind a word are read as.
pub Answer : List TableDef → Keyword → List (List ℕ) → Type 0
Answer defs keyword args = (answer : Result Command CommandFault) × (answer ≢ Err Memory) × ReadsFields defs keyword args answer

wrong_fields : (defs : List TableDef) (keyword : Keyword) (args : List (List ℕ)) → (IsNotBuilt keyword → ⊥) → IsWrongCount keyword args → IsRefused defs keyword args Fields
wrong_fields defs keyword args built counted = record {
  stands = counted;
  first = early defs keyword args 3 (omega arith) built (λ lower. absurd (omega (arith, lower))) (λ lower. absurd (omega (arith, lower)));
}

bad_number : (defs : List TableDef) (keyword : Keyword) (args : List (List ℕ)) (k : ℕ) → (IsNotBuilt keyword → ⊥) → (IsWrongCount keyword args → ⊥) → IsBadNumber keyword args k → IsRefused defs keyword args (Number k)
bad_number defs keyword args k built counted bad = record { stands = bad; first = early defs keyword args 4 (omega arith) built (λ lower. counted) (λ lower. absurd (omega (arith, lower))) }

-- ## Commands without fields

row_id_answer : (defs : List TableDef) (args : List (List ℕ)) → Answer defs RowId args
unfolding Answer
row_id_answer defs [] = (Ok spelled.RowId, (λ e. cc), refl)
row_id_answer defs (f ∷ fs) = (Err Fields, (λ e. cc), wrong_fields defs RowId (f ∷ fs) (λ b. b) (λ e. cc))

end_answer : (defs : List TableDef) (args : List (List ℕ)) → Answer defs End args
unfolding Answer
end_answer defs [] = (Ok spelled.End, (λ e. cc), refl)
end_answer defs (f ∷ fs) = (Err Fields, (λ e. cc), wrong_fields defs End (f ∷ fs) (λ b. b) (λ e. cc))

abort_answer : (defs : List TableDef) (args : List (List ℕ)) → Answer defs Abort args
unfolding Answer
abort_answer defs [] = (Ok spelled.Abort, (λ e. cc), refl)
abort_answer defs (f ∷ fs) = (Err Fields, (λ e. cc), wrong_fields defs Abort (f ∷ fs) (λ b. b) (λ e. cc))

quit_answer : (defs : List TableDef) (args : List (List ℕ)) → Answer defs Quit args
unfolding Answer
quit_answer defs [] = (Ok spelled.Quit, (λ e. cc), refl)
quit_answer defs (f ∷ fs) = (Err Fields, (λ e. cc), wrong_fields defs Quit (f ∷ fs) (λ b. b) (λ e. cc))

-- ## Selects

number_told : (most : ℕ) (digits : List ℕ) → Decided ((n : ℕ) × (n ≤ most) × (digits ≡ decimal n))
number_told most digits = below_told (λ n. digits ≡ decimal n) (λ n. list_told digits (decimal n)) most

select_table : (defs : List TableDef) (args : List (List ℕ)) (field : List ℕ) (most : ℕ) → AreDefs defs → selecting.Asks args field most → Decided (IsSpelled field) → Answer defs Select args
unfolding Answer
select_table defs args field most are asks (inr bad) = (Err (Escape 1), (λ e. cc), selecting.bad_escape defs args field most asks bad)
select_table defs args field most are asks (inl text) = elim (name_told (names_of defs) field) [
  | inl found ↦ (Ok (spelled.Select found.0 most), (λ e. cc), selecting.spells_select defs args field found.0 most are asks found.1)
  | inr none ↦ (Err (NoTable 1), (λ e. cc), selecting.no_table defs args field most are asks text none)
]

select_answer : (defs : List TableDef) (args : List (List ℕ)) → AreDefs defs → Answer defs Select args
unfolding Answer
select_answer defs [] are = (Err Fields, (λ e. cc), wrong_fields defs Select [] (λ b. b) (λ e. omega (arith, e)))
select_answer defs (f ∷ []) are = (Err Fields, (λ e. cc), wrong_fields defs Select (f ∷ []) (λ b. b) (λ e. omega (arith, e)))
select_answer defs (name ∷ digits ∷ []) are = elim (number_told 1000 digits) [
  | inl some ↦ select_table defs (name ∷ digits ∷ []) name some.0 are (record { digits = digits; args_are = refl; number = some.2; few = some.1 }) (spelled_told name)
  | inr none ↦ (Err (Number 2), (λ e. cc), bad_number defs Select (name ∷ digits ∷ []) 2 (λ b. b) (λ differs. differs (omega arith)) (name, digits, refl, refl, (λ n most is. none (n, most, is))))
]
select_answer defs (f ∷ g ∷ h ∷ fs) are = (Err Fields, (λ e. cc), wrong_fields defs Select (f ∷ g ∷ h ∷ fs) (λ b. b) (λ e. omega (arith, e)))

-- ## Inserts

early_escape : (defs : List TableDef) (args values : List (List ℕ)) (field : List ℕ) → args ≡ field ∷ values → NoneBefore defs Insert args 5
early_escape defs args values field is = early defs Insert args 5 (omega arith) (λ b. b) (λ lower none. cc (sym is ∙ none)) (λ lower k bad. bad)

-- a value for each column, and the field that spells it
abbrev Good : Column × List ℕ → Type 0
Good pair = SpellsValue pair.0 pair.1

value_or_none : (pair : Column × List ℕ) → Decided (Good pair) → IsMisspelled pair ⊎ (Good pair × (IsMisspelled pair → ⊥))
value_or_none pair (inl good) = inr (good, λ bad. bad good.0 good.1 good.2 good.3)
value_or_none pair (inr bad) = inl (λ value takes is spells. bad (value, takes, is, spells))

row_of : (columns : List Column) (values : List (List ℕ)) → length values ≡ length columns → All Good (zip columns values) → (row : List Value) × (values ≡ map spelled_value row) × IsRowOf columns row
row_of [] [] same good = ([], refl, record { taken = tt; values = All-nil IsValue })
row_of [] (f ∷ values) same good = absurd (omega (arith, same))
row_of (c ∷ columns) [] same good = absurd (omega (arith, same))
row_of (c ∷ columns) (f ∷ values) same good =
    let here = All-head Good (c, f) (zip columns values) good in
    let rest = row_of columns values (omega (arith, same)) (All-tail Good (c, f) (zip columns values) good) in (
      here.0 ∷ rest.0,
      ap (λ x. x ∷ values) here.3 ∙ ap (λ xs. spelled_value here.0 ∷ xs) rest.1,
      record {
        taken = (here.1, rest.2.taken);
        values = All-cons IsValue here.0 rest.0 here.2 rest.2.values;
      },
    )

insert_row : (defs : List TableDef) (args values : List (List ℕ)) (field : List ℕ) (place : ℕ) → Into defs args values field place → length values ≡ length (columns_at defs place) → Answer defs Insert args
unfolding Answer
insert_row defs args values field place into same =
    elim (first_or_all (λ pair. Unit {0}) IsMisspelled Good (λ pair known. value_or_none pair (value_told pair.0 pair.1)) (zip (columns_at defs place) values) (λ k d inside. tt)) [
      | inl first ↦ (Err (BadValue first.0), (λ e. cc), bad_value defs args values field place first.0 into same (record { same = same; first = first.1 }))
      | inr good ↦
          let read = row_of (columns_at defs place) values same good in
          elim (cases_lt row_limit (row_size read.0)) [
            | inl long ↦ (Err Long, (λ e. cc), long_row defs args values field place read.0 into same read.1 read.2 long)
            | inr fits ↦ (Ok (spelled.Insert place read.0), (λ e. cc), spells_insert defs args values field place read.0 into read.1 read.2 fits)
          ]
    ]

insert_values : (defs : List TableDef) (args values : List (List ℕ)) (field : List ℕ) (place : ℕ) → Into defs args values field place → Decided (length values ≡ length (columns_at defs place)) → Answer defs Insert args
unfolding Answer
insert_values defs args values field place into (inl same) = insert_row defs args values field place into same
insert_values defs args values field place into (inr differs) = (Err (Count (length (columns_at defs place))), (λ e. cc), wrong_count defs args values field place into differs)

insert_table : (defs : List TableDef) (field : List ℕ) (values : List (List ℕ)) → AreDefs defs → All IsSpelled (insert_texts (field ∷ values)) → Answer defs Insert (field ∷ values)
unfolding Answer
insert_table defs field values are spelled_all = elim (name_told (names_of defs) field) [
  | inl found ↦ insert_values defs (field ∷ values) values field found.0 (record { are = are; args_are = refl; spelled = spelled_all; is_table = found.1 }) (number_same (length values) (length (columns_at defs found.0)))
  | inr none ↦ (
    Err (NoTable 1),
    (λ e. cc),
    no_table defs (field ∷ values) values field refl spelled_all
        (λ name names there. none (subst (Contains (names_of defs)) (sym (names ∙ escaped_name name (contained_name defs name are there))) there)),
  )
]

insert_answer : (defs : List TableDef) (args : List (List ℕ)) → AreDefs defs → Answer defs Insert args
unfolding Answer
insert_answer defs [] are = (Err Fields, (λ e. cc), wrong_fields defs Insert [] (λ b. b) refl)
insert_answer defs (field ∷ values) are = elim (escape_or_none (insert_texts (field ∷ values))) [
  | inl first ↦ (Err (Escape first.0), (λ e. cc), record { stands = first.1; first = early_escape defs (field ∷ values) values field refl })
  | inr spelled_all ↦ insert_table defs field values are spelled_all
]

-- ## Waits

cut_of : (entry : List ℕ) → (text : List ℕ) × IsCut entry (before_first is_colon entry) text
cut_of entry = elim (cases_lt (position_or_len is_colon entry) (length entry)) [
  | inl there ↦
      let colon = eqb-true _ 58 (passes_at_first is_colon entry 0 there) in
      (after_first is_colon entry, record { front = refl; parts = inr (split_at_first is_colon entry 0 there ∙ ap (λ b. before_first is_colon entry ++ b ∷ after_first is_colon entry) colon) })
  | inr past ↦ ([], record { front = refl; parts = inl (sym (take_all (position_or_len is_colon entry) entry past), refl) })
]

-- the entry names a table
record Placed (defs : List TableDef) (field : List ℕ) : Type 0 where
  entry : List ℕ
  spells : field ≡ escaped entry
  place : ℕ
  is_table : slice_get (names_of defs) place ≡ Some (before_first is_colon entry)

table_or_none : (defs : List TableDef) (field : List ℕ) → IsSpelled field → IsOfNoTable defs Wait field ⊎ (Placed defs field × (IsOfNoTable defs Wait field → ⊥))
table_or_none defs field text = elim (name_told (names_of defs) (before_first is_colon text.0)) [
  | inl found ↦ inr (record { entry = text.0; spells = text.1; place = found.0; is_table = found.1 }, λ none. none (before_first is_colon text.0) (text.0, text.1, refl) (found_contained defs found.0 (before_first is_colon text.0) found.1))
  | inr none ↦ inl (λ name names there. none (subst (Contains (names_of defs)) (names.2 ∙ ap (before_first is_colon) (escaped_once names.0 text.0 (sym names.1 ∙ text.1))) there))
]

abbrev Faulty : List TableDef → List ℕ → Type 0
Faulty defs field = (why : CondFault) × EntryFails defs field why

abbrev Readable : List TableDef → List ℕ → Type 0
Readable defs field = (listed : Listed) × SpellsEntry defs field listed

entry_or_fault : (defs : List TableDef) (field : List ℕ) → AreDefs defs → Placed defs field → Faulty defs field ⊎ (Readable defs field × (Faulty defs field → ⊥))
entry_or_fault defs field are p =
    let name = before_first is_colon p.entry in
    let cut = cut_of p.entry in
    elim (cond_answer (columns_at defs p.place) cut.0) [
      | inl reads ↦
          let cond : Condition = record { tree = reads.0; kinds = kinds_of (columns_at defs p.place) } in
          let spells = spells_entry defs field p.entry name cut.0 p.place cond p.spells cut.1 p.is_table (record { tree = reads.1; kinds = refl }) in
          inr ((record { table = p.place; cond = cond }, spells), λ fails. entry_apart defs field (record { table = p.place; cond = cond }) fails.0 are spells fails.1)
      | inr fails ↦ inl (fails.0, entry_fails defs field p.entry name cut.0 p.place fails.0 p.spells cut.1 p.is_table fails.2 fails.1)
    ]

list_of : (defs : List TableDef) (fields : List (List ℕ)) → All (Readable defs) fields → (list : List Listed) × SpellEntries defs fields list
list_of defs [] read = ([], tt)
list_of defs (field ∷ fields) read =
    let here = All-head (Readable defs) field fields read in
    let rest = list_of defs fields (All-tail (Readable defs) field fields read) in
    (here.0 ∷ rest.0, (here.1, rest.1))

wait_conditions : (defs : List TableDef) (args : List (List ℕ)) (seconds : ℕ) → AreDefs defs → entries_of args ≢ [] → IsSeconds (seconds_of args) seconds → length (entries_of args) ≤ 16 → Passed defs args 8 → All (Placed defs) (entries_of args) → Answer defs Wait args
unfolding Answer
wait_conditions defs args seconds are some is few passed placed = elim (first_or_all (Placed defs) (Faulty defs) (Readable defs) (λ f p. entry_or_fault defs f are p) (entries_of args) placed) [
  | inl first ↦ (Err (Cond first.0 first.1.holds.0), (λ e. cc), record { stands = record { first = first.1; fails = first.1.holds.1 }; first = none_before defs args 8 passed })
  | inr read ↦
      let list = list_of defs (entries_of args) read in
      (Ok (spelled.Wait list.0 seconds), (λ e. cc), record { some = some; few = few; entries = list.1; seconds_are = is })
]

all_named : (defs : List TableDef) (fields : List (List ℕ)) → All (Placed defs) fields → All (λ f. IsOfNoTable defs Wait f → ⊥) fields
all_named defs [] placed = All-nil (λ f. IsOfNoTable defs Wait f → ⊥)
all_named defs (field ∷ fields) placed =
    let p = All-head (Placed defs) field fields placed in
    All-cons (λ f. IsOfNoTable defs Wait f → ⊥) field fields (λ none. none (before_first is_colon p.entry) (p.entry, p.spells, refl) (found_contained defs p.place (before_first is_colon p.entry) p.is_table)) (all_named defs fields (All-tail (Placed defs) field fields placed))

wait_entries : (defs : List TableDef) (args : List (List ℕ)) (seconds : ℕ) → AreDefs defs → entries_of args ≢ [] → IsSeconds (seconds_of args) seconds → Passed defs args 6 → All IsSpelled (entries_of args) → (16 < length (entries_of args)) ⊎ (length (entries_of args) ≤ 16) → Answer defs Wait args
unfolding Answer
wait_entries defs args seconds are some is passed text (inl many) = (Err Entries, (λ e. cc), record { stands = many; first = none_before defs args 6 passed })
wait_entries defs args seconds are some is passed text (inr few) = elim (first_or_all IsSpelled (IsOfNoTable defs Wait) (Placed defs) (λ f t. table_or_none defs f t) (entries_of args) text) [
  | inl first ↦ (Err (NoTable first.0), (λ e. cc), record { stands = first.1; first = none_before defs args 7 (passed_few defs args passed few) })
  | inr placed ↦ wait_conditions defs args seconds are some is few (passed_named defs args (passed_few defs args passed few) (all_named defs (entries_of args) placed)) placed
]

wait_escapes : (defs : List TableDef) (args : List (List ℕ)) (seconds : ℕ) → AreDefs defs → entries_of args ≢ [] → IsSeconds (seconds_of args) seconds → Answer defs Wait args
unfolding Answer
wait_escapes defs args seconds are some is =
    let passed = passed_number defs args seconds (passed_some defs args some) is in
    elim (escape_or_none (entries_of args)) [
      | inl first ↦ (Err (Escape first.0), (λ e. cc), record { stands = first.1; first = none_before defs args 5 passed })
      | inr text ↦ wait_entries defs args seconds are some is (passed_spelled defs args passed text) text (cases_lt 16 (length (entries_of args)))
    ]

wait_seconds : (defs : List TableDef) (args : List (List ℕ)) → AreDefs defs → entries_of args ≢ [] → (told : Option (List ℕ)) → seconds_of args ≡ told → Answer defs Wait args
unfolding Answer
wait_seconds defs args are some None told = wait_escapes defs args 60 are some (subst (λ o. IsSeconds o 60) (sym told) refl)
wait_seconds defs args are some (Some digits) told = elim (number_told 3600 digits) [
  | inl number ↦ wait_escapes defs args number.0 are some (subst (λ o. IsSeconds o number.0) (sym told) (number.2, number.1))
  | inr none ↦ (Err (Number (length args)), (λ e. cc), bad_number defs Wait args (length args) (λ b. b) some (digits, told, refl, (λ n most is. none (n, most, is))))
]

empty_told : (fields : List (List ℕ)) → (fields ≡ []) ⊎ (fields ≢ [])
empty_told [] = inl refl
empty_told (f ∷ fields) = inr (λ e. cc)

wait_answer : (defs : List TableDef) (args : List (List ℕ)) → AreDefs defs → Answer defs Wait args
unfolding Answer
wait_answer defs args are = elim (empty_told (entries_of args)) [
  | inl none ↦ (Err Fields, (λ e. cc), wrong_fields defs Wait args (λ b. b) none)
  | inr some ↦ wait_seconds defs args are some (seconds_of args) refl
]

-- ## Lines

not_built : (defs : List TableDef) (keyword : Keyword) (args : List (List ℕ)) → IsNotBuilt keyword → IsRefused defs keyword args NotBuilt
not_built defs keyword args built = record { stands = built; first = first } where
  first : NoneBefore defs keyword args 2
  first NotText lower stands = stands
  first Unknown lower stands = stands
  first _ lower stands = absurd (omega (arith, lower))

fields_answer : (defs : List TableDef) (keyword : Keyword) (args : List (List ℕ)) → AreDefs defs → Answer defs keyword args
unfolding Answer
fields_answer defs Insert args are = insert_answer defs args are
fields_answer defs Source args are = (Err NotBuilt, (λ e. cc), not_built defs Source args tt)
fields_answer defs Wait args are = wait_answer defs args are
fields_answer defs RowId args are = row_id_answer defs args
fields_answer defs End args are = end_answer defs args
fields_answer defs Abort args are = abort_answer defs args
fields_answer defs Select args are = select_answer defs args are
fields_answer defs Compact args are = (Err NotBuilt, (λ e. cc), not_built defs Compact args tt)
fields_answer defs Quit args are = quit_answer defs args

-- what the fields are read as is what the line is read as
as_line : (defs : List TableDef) (line : List ℕ) (keyword : Keyword) (args : List (List ℕ)) (answer : Result Command CommandFault) → IsUtf8 line → Begins line keyword args → answer ≢ Err Memory → ReadsFields defs keyword args answer → Reads defs line answer
as_line defs line keyword args (Ok command) text begins other reads = record { keyword = keyword; args = args; text = text; begins = begins; fields = reads }
as_line defs line keyword args (Err NotText) text begins other reads = absurd reads.stands
as_line defs line keyword args (Err Unknown) text begins other reads = absurd reads.stands
as_line defs line keyword args (Err Memory) text begins other reads = tt
as_line defs line keyword args (Err _) text begins other reads = record { keyword = keyword; args = args; text = text; begins = begins; fields = reads }

pub line_answer : (defs : List TableDef) (line : List ℕ) → AreDefs defs → (answer : Result Command CommandFault) × (answer ≢ Err Memory) × Reads defs line answer
unfolding Answer
line_answer defs line are = by_text (text_told line) where
  by_word : IsUtf8 line → (word : List ℕ) (args : List (List ℕ)) → fields_of line ≡ word ∷ args → (answer : Result Command CommandFault) × (answer ≢ Err Memory) × Reads defs line answer
  by_word text word args cut = elim (word_told word) [
    | inl known ↦
        let read = fields_answer defs known.0 args are in
        (read.0, read.1, as_line defs line known.0 args read.0 text (cut ∙ ap (λ w. w ∷ args) known.1) read.1 read.2)
    | inr none ↦ (Err Unknown, (λ e. cc), (text, λ keyword others begins. none keyword (cons_head (sym cut ∙ begins))))
  ]

  by_fields : IsUtf8 line → (fields : List (List ℕ)) → fields_of line ≡ fields → (answer : Result Command CommandFault) × (answer ≢ Err Memory) × Reads defs line answer
  by_fields text [] cut = absurd (some_field line cut)
  by_fields text (word ∷ args) cut = by_word text word args cut

  by_text : Decided (IsUtf8 line) → (answer : Result Command CommandFault) × (answer ≢ Err Memory) × Reads defs line answer
  by_text (inr bad) = (Err NotText, (λ e. cc), bad)
  by_text (inl text) = by_fields text (fields_of line) refl
