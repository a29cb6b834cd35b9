-- The entries of a wait: their names and texts, and that each reads as a condition or has a fault.
use Rattle.std.proofs.Common.{◌≡◌, ◌≢◌, ◌++◌, ◌∷◌, ◌∙◌, ◌⊎◌, [], List, ℕ, Some, All, length, drop, refl, sym, ap, subst, arith, inl, inr}
use Rattle.std.specs.List.{before_first}
use Rattle.std.specs.Prelude.{slice_get}
use Rattle.std.proofs.lemmas.List.{length-append, drop_at}
use Rattle.std.proofs.lemmas.List.Elements.{All-nil, All-cons}
use Rattle.q4_value.specs.Escape.{escaped}
use Rattle.q4_value.specs.Names.{IsName}
use Rattle.q4_value.proofs.EscapeLaws.{escaped_once}
use Rattle.q4_cond.specs.declared.fault.CondFault.{CondFault}
use Rattle.q4_cond.specs.declared.fault.CondFault.TheVariants.{Memory}
use Rattle.q4_cond.specs.Condition.{Condition, ReadsAs}
use Rattle.q4_cond.specs.Reading.{IsFault}
use Rattle.q4_cond.proofs.Uniqueness.{read_no_fault}
use Rattle.q4_def.specs.declared.table_def.TableDef.{TableDef}
use Rattle.q4_def.specs.Tables.{AreDefs, names_of}
use Rattle.q4_machine.specs.declared.looks.Listed.{Listed}
use Rattle.q4_machine.specs.Definitions.{columns_at}
use Rattle.q4_machine.proofs.Histories.{cons_tail}
use Rattle.q4_proto.specs.declared.keyword.Keyword.TheVariants.{Wait}
use Rattle.q4_proto.specs.Fields.{IsSpelled}
use Rattle.q4_proto.specs.Commands.{SpellsEntry, SpellEntries, IsEntry, IsOfNoTable, EntryFails, FirstEntryFails}
use Rattle.q4_proto.specs.Inner.{IsCut}
use Rattle.q4_proto.proofs.Colons.{is_colon, name_alone, name_before}
use Rattle.q4_proto.proofs.Named.{found_name, found_contained, one_place}
use Rattle.q4_proto.proofs.Values.{all_at}

-- ## An entry's name and text

entry_is : (field entry name text : List ℕ) → field ≡ escaped entry → ((entry ≡ name) × (text ≡ [])) ⊎ (entry ≡ name ++ 58 ∷ text) → IsEntry field name text
entry_is field entry name text spells (inl bare) = inl (spells ∙ ap escaped bare.0, bare.1)
entry_is field entry name text spells (inr both) = inr (spells ∙ ap escaped both)

pub spells_entry : (defs : List TableDef) (field entry name text : List ℕ) (table : ℕ) (cond : Condition) → field ≡ escaped entry → IsCut entry name text → slice_get (names_of defs) table ≡ Some name → ReadsAs (columns_at defs table) text cond
    → SpellsEntry defs field (record { table = table; cond = cond })
spells_entry defs field entry name text table cond spells cut is reads = record { name = name; is_table = is; text = text; field_is = entry_is field entry name text spells cut.parts; cond_is = reads }

pub entry_fails : (defs : List TableDef) (field entry name text : List ℕ) (table : ℕ) (why : CondFault) → field ≡ escaped entry → IsCut entry name text → slice_get (names_of defs) table ≡ Some name → IsFault (columns_at defs table) text why → why ≢ Memory
    → EntryFails defs field why
entry_fails defs field entry name text table why spells cut is fails told = record { place = table; name = name; is_table = is; text = text; field_is = entry_is field entry name text spells cut.parts; fails = fails; told = told }

-- an entry's whole text
pub record Whole (field name text : List ℕ) : Type 0 where
  pub entry : List ℕ
  pub spells : field ≡ escaped entry
  pub cut : IsCut entry name text

pub whole_of : (field name text : List ℕ) → IsName name → IsEntry field name text → Whole field name text
whole_of field name text named (inl bare) = record { entry = name; spells = bare.0; cut = record { front = sym (name_alone name named); parts = inl (refl, bare.1) } }
whole_of field name text named (inr both) = record { entry = name ++ 58 ∷ text; spells = both; cut = record { front = sym (name_before name text named); parts = inr refl } }

behind : (a b x y : List ℕ) → a ≡ b → a ++ 58 ∷ x ≡ b ++ 58 ∷ y → x ≡ y
behind a b x y same is = cons_tail (sym (drop_at a (58 ∷ x) (length a) refl) ∙ ap (drop (length a)) is ∙ drop_at b (58 ∷ y) (length a) (sym (ap length same)))

longer : (name text : List ℕ) → name ≡ name ++ 58 ∷ text → ⊥
longer name text is = omega (arith, ap length is, length-append name (58 ∷ text))

same_text : (entry name other text others : List ℕ) → name ≡ other → ((entry ≡ name) × (text ≡ [])) ⊎ (entry ≡ name ++ 58 ∷ text) → ((entry ≡ other) × (others ≡ [])) ⊎ (entry ≡ other ++ 58 ∷ others) → text ≡ others
same_text entry name other text others same (inl a) (inl b) = a.1 ∙ sym b.1
same_text entry name other text others same (inl a) (inr b) = absurd (longer name others (sym a.0 ∙ b ∙ ap (λ n. n ++ 58 ∷ others) (sym same)))
same_text entry name other text others same (inr a) (inl b) = absurd (longer other text (sym b.0 ∙ a ∙ ap (λ n. n ++ 58 ∷ text) same))
same_text entry name other text others same (inr a) (inr b) = behind name other text others same (sym a ∙ b)

-- a field is cut in one way
pub record Same (name other text others : List ℕ) (place q : ℕ) : Type 0 where
  pub name_is : name ≡ other
  pub text_is : text ≡ others
  pub place_is : place ≡ q

pub one_cut : (defs : List TableDef) (field name other text others : List ℕ) (place q : ℕ) → AreDefs defs → slice_get (names_of defs) place ≡ Some name → slice_get (names_of defs) q ≡ Some other → IsEntry field name text → IsEntry field other others → Same name other text others place q
one_cut defs field name other text others place q are at_place at_q a b =
    let one = whole_of field name text (found_name defs place name are at_place) a in
    let two = whole_of field other others (found_name defs q other are at_q) b in
    let entry : one.entry ≡ two.entry = escaped_once one.entry two.entry (sym one.spells ∙ two.spells) in
    let same : name ≡ other = one.cut.front ∙ ap (before_first is_colon) entry ∙ sym two.cut.front in
    let parts : ((one.entry ≡ other) × (others ≡ [])) ⊎ (one.entry ≡ other ++ 58 ∷ others) = subst (λ e. ((e ≡ other) × (others ≡ [])) ⊎ (e ≡ other ++ 58 ∷ others)) (sym entry) two.cut.parts in
    record { name_is = same; text_is = same_text one.entry name other text others same one.cut.parts parts; place_is = one_place defs place q name are at_place (at_q ∙ ap Some (sym same)) }

-- an entry reads as a condition or has a fault
pub entry_apart : (defs : List TableDef) (field : List ℕ) (listed : Listed) (why : CondFault) → AreDefs defs → SpellsEntry defs field listed → EntryFails defs field why → ⊥
entry_apart defs field listed why are s fails =
    let same = one_cut defs field s.name fails.name s.text fails.text listed.table fails.place are s.is_table fails.is_table s.field_is fails.field_is in
    let faulty = subst (λ t. IsFault (columns_at defs listed.table) t why) (sym same.text_is) (subst (λ p. IsFault (columns_at defs p) fails.text why) (sym same.place_is) fails.fails) in
    fails.told (read_no_fault (columns_at defs listed.table) s.text listed.cond.tree why s.cond_is.tree faulty)

-- ## Entries that spell a list

spelled_field : (field name text : List ℕ) → IsEntry field name text → IsSpelled field
spelled_field field name text (inl bare) = (name, bare.0)
spelled_field field name text (inr both) = (name ++ 58 ∷ text, both)

named_table : (defs : List TableDef) (field : List ℕ) (listed : Listed) → AreDefs defs → SpellsEntry defs field listed → IsOfNoTable defs Wait field → ⊥
named_table defs field listed are s none =
    let whole = whole_of field s.name s.text (found_name defs listed.table s.name are s.is_table) s.field_is in
    none s.name (whole.entry, whole.spells, whole.cut.front) (found_contained defs listed.table s.name s.is_table)

-- What holds of entries that spell a list.
pub record Stand (defs : List TableDef) (fields : List (List ℕ)) : Type 0 where
  pub spelled : All IsSpelled fields
  pub named : All (λ f. IsOfNoTable defs Wait f → ⊥) fields
  pub read : All (λ f. ((why : CondFault) × EntryFails defs f why) → ⊥) fields

pub entries_stand : (defs : List TableDef) (fields : List (List ℕ)) (list : List Listed) → AreDefs defs → SpellEntries defs fields list → Stand defs fields
entries_stand defs [] [] are spell = record { spelled = All-nil IsSpelled; named = All-nil (λ f. IsOfNoTable defs Wait f → ⊥); read = All-nil (λ f. ((why : CondFault) × EntryFails defs f why) → ⊥) }
entries_stand defs [] (listed ∷ list) are spell = absurd spell
entries_stand defs (field ∷ fields) [] are spell = absurd spell
entries_stand defs (field ∷ fields) (listed ∷ list) are spell =
    let rest = entries_stand defs fields list are spell.1 in
    record {
      spelled = All-cons IsSpelled field fields (spelled_field field spell.0.name spell.0.text spell.0.field_is) rest.spelled;
      named = All-cons (λ f. IsOfNoTable defs Wait f → ⊥) field fields (named_table defs field listed are spell.0) rest.named;
      read = All-cons (λ f. ((why : CondFault) × EntryFails defs f why) → ⊥) field fields (λ fails. entry_apart defs field listed fails.0 are spell.0 fails.1) rest.read;
    }

pub none_fails : (defs : List TableDef) (fields : List (List ℕ)) (k : ℕ) (why : CondFault) → Stand defs fields → FirstEntryFails defs fields k why → ⊥
none_fails defs fields k why stand first =
    all_at (λ f. ((other : CondFault) × EntryFails defs f other) → ⊥) fields first.first.before first.first.after first.first.found stand.read first.first.cut first.first.holds
