-- A line has one fault at most.
use Rattle.std.proofs.Common.{◌≡◌, ◌≢◌, ◌<◌, ◌+◌, ◌∷◌, ◌∙◌, ◌⊎◌, List, ℕ, Some, Err, length, refl, sym, ap, subst, arith, inl, inr}
use Rattle.std.specs.List.{zip}
use Rattle.std.specs.Str.{IsUtf8}
use Rattle.std.proofs.lemmas.Bool.{cases_order}
use Rattle.q4_value.proofs.EscapeLaws.{escaped_once}
use Rattle.q4_value.proofs.Rows.{append_same, place_within}
use Rattle.q4_cond.specs.declared.fault.CondFault.{CondFault}
use Rattle.q4_cond.specs.declared.fault.CondFault.TheVariants.{Memory as CondMemory}
use Rattle.q4_cond.specs.Reading.{IsFault}
use Rattle.q4_cond.proofs.Uniqueness.{one_fault}
use Rattle.q4_def.specs.declared.table_def.TableDef.{TableDef}
use Rattle.q4_def.specs.Tables.{AreDefs}
use Rattle.q4_machine.specs.Definitions.{columns_at}
use Rattle.q4_machine.proofs.Histories.{cons_head, cons_tail}
use Rattle.q4_proto.specs.declared.command.CommandFault.{CommandFault}
use Rattle.q4_proto.specs.declared.command.CommandFault.TheVariants.{NotText, Unknown, NotBuilt, Fields, Number, Escape, Entries, NoTable, Cond, Count, Value as BadValue, Long, Memory}
use Rattle.q4_proto.specs.declared.keyword.Keyword.{Keyword}
use Rattle.q4_proto.specs.declared.keyword.Keyword.TheVariants.{Insert, Wait, Select}
use Rattle.q4_proto.specs.Fields.{IsSpelled, IsFirst}
use Rattle.q4_proto.specs.Commands.{entries_of, text_fields, table_fields, IsOfNoTable, IsBadNumber, EntryFails, FirstEntryFails, IsInsertInto, IsMisspelled, FirstMisspelled, Stands, rank, IsRefused, Begins, Reads}
use Rattle.q4_proto.proofs.Named.{one_place}
use Rattle.q4_proto.proofs.Entries.{one_cut}
use Rattle.q4_proto.proofs.Values.{all_at}
use Rattle.q4_proto.proofs.Apart.{word_once}

-- ## First places

none_earlier : {X : Type 0} (P : X → Type 0) (xs : List X) (a b : ℕ) → (f : IsFirst P xs a) → (g : IsFirst P xs b) → length f.before < length g.before → ⊥
none_earlier P xs a b f g below =
    let within = place_within f.before g.before f.found g.found f.after g.after (sym f.cut ∙ g.cut) below in
    all_at (λ x. P x → ⊥) g.before f.before within.0 f.found g.none_before within.1 f.holds

same_front : {X : Type 0} (P : X → Type 0) (xs : List X) (a b : ℕ) → (f : IsFirst P xs a) → (g : IsFirst P xs b) → length f.before ≡ length g.before
same_front P xs a b f g = elim (cases_order (length f.before) (length g.before)) [
  | inl same ↦ same
  | inr (inl below) ↦ absurd (none_earlier P xs a b f g below)
  | inr (inr above) ↦ absurd (none_earlier P xs b a g f above)
]

place_once : {X : Type 0} (P : X → Type 0) (xs : List X) (a b : ℕ) → IsFirst P xs a → IsFirst P xs b → a ≡ b
place_once P xs a b f g = f.place_is ∙ ap (λ n. n + 1) (same_front P xs a b f g) ∙ sym g.place_is

found_once : {X : Type 0} (P : X → Type 0) (xs : List X) (a b : ℕ) → (f : IsFirst P xs a) → (g : IsFirst P xs b) → f.found ≡ g.found
found_once P xs a b f g = cons_head ((append_same f.before g.before (f.found ∷ f.after) (g.found ∷ g.after) (same_front P xs a b f g) (sym f.cut ∙ g.cut)).1)

-- ## Faults of one check

into_once : (defs : List TableDef) (args : List (List ℕ)) (p q : ℕ) (values others : List (List ℕ)) → AreDefs defs → IsInsertInto defs args p values → IsInsertInto defs args q others → (p ≡ q) × (values ≡ others)
into_once defs args p q values others are one other =
    let lists = sym one.args_are ∙ other.args_are in
    let name : one.name ≡ other.name = escaped_once one.name other.name (cons_head lists) in
    (one_place defs p q one.name are one.is_table (other.is_table ∙ ap Some (sym name)), cons_tail lists)

one_of : (why other : CondFault) → why ≢ CondMemory → other ≢ CondMemory → (why ≡ other) ⊎ ((why ≡ CondMemory) ⊎ (other ≡ CondMemory)) → why ≡ other
one_of why other a b (inl same) = same
one_of why other a b (inr (inl is)) = absurd (a is)
one_of why other a b (inr (inr is)) = absurd (b is)

why_once : (defs : List TableDef) (field : List ℕ) (why other : CondFault) → AreDefs defs → EntryFails defs field why → EntryFails defs field other → why ≡ other
why_once defs field why other are a b =
    let same = one_cut defs field a.name b.name a.text b.text a.place b.place are a.is_table b.is_table a.field_is b.field_is in
    let columns = columns_at defs a.place in
    let fails : IsFault columns a.text other = subst (λ t. IsFault columns t other) (sym same.text_is) (subst (λ p. IsFault (columns_at defs p) b.text other) (sym same.place_is) b.fails) in
    one_of why other a.told b.told (one_fault columns a.text why other a.fails fails)

cond_once : (defs : List TableDef) (fields : List (List ℕ)) (m n : ℕ) (why other : CondFault) → AreDefs defs → FirstEntryFails defs fields m why → FirstEntryFails defs fields n other → Cond m why ≡ Cond n other
cond_once defs fields m n why other are a b =
    let P = λ (f : List ℕ). (w : CondFault) × EntryFails defs f w in
    let found : a.first.found ≡ b.first.found = found_once P fields m n a.first b.first in
    let fails = subst (λ f. EntryFails defs f other) (sym found) b.fails in
    ap (λ k. Cond k why) (place_once P fields m n a.first b.first) ∙ ap (λ w. Cond n w) (why_once defs a.first.found why other are a.fails fails)

waits_once : (defs : List TableDef) (keyword : Keyword) (args : List (List ℕ)) (m n : ℕ) (why other : CondFault) → AreDefs defs → Stands defs keyword args (Cond m why) → Stands defs keyword args (Cond n other) → Cond m why ≡ Cond n other
waits_once defs Wait args m n why other are a b = cond_once defs (entries_of args) m n why other are a b
waits_once defs _ args m n why other are a b = absurd a

number_once : (keyword : Keyword) (args : List (List ℕ)) (m n : ℕ) → IsBadNumber keyword args m → IsBadNumber keyword args n → m ≡ n
number_once Wait args m n a b = a.2 ∙ sym b.2
number_once Select args m n a b = a.3 ∙ sym b.3
number_once _ args m n a b = absurd a

count_once : (defs : List TableDef) (keyword : Keyword) (args : List (List ℕ)) (m n : ℕ) → AreDefs defs → Stands defs keyword args (Count m) → Stands defs keyword args (Count n) → m ≡ n
count_once defs Insert args m n are (p, values, a, count, differs) (q, others, b, other, differ) =
    count ∙ ap (λ k. length (columns_at defs k)) (into_once defs args p q values others are a b).0 ∙ sym other
count_once defs _ args m n are a b = absurd a

value_once : (defs : List TableDef) (keyword : Keyword) (args : List (List ℕ)) (m n : ℕ) → AreDefs defs → Stands defs keyword args (BadValue m) → Stands defs keyword args (BadValue n) → m ≡ n
value_once defs Insert args m n are (p, values, a, one) (q, others, b, other) =
    let same = into_once defs args p q values others are a b in
    let moved : FirstMisspelled (columns_at defs p) values n = subst (λ vs. FirstMisspelled (columns_at defs p) vs n) (sym same.1) (subst (λ k. FirstMisspelled (columns_at defs k) others n) (sym same.0) other) in
    place_once IsMisspelled (zip (columns_at defs p) values) m n one.first moved.first
value_once defs _ args m n are a b = absurd a

same_check : (defs : List TableDef) (keyword : Keyword) (args : List (List ℕ)) (f g : CommandFault) → AreDefs defs → rank f ≡ rank g → Stands defs keyword args f → Stands defs keyword args g → f ≡ g
same_check defs keyword args NotText NotText are same a b = refl
same_check defs keyword args Unknown Unknown are same a b = refl
same_check defs keyword args NotBuilt NotBuilt are same a b = refl
same_check defs keyword args Fields Fields are same a b = refl
same_check defs keyword args (Number m) (Number n) are same a b = ap Number (number_once keyword args m n a b)
same_check defs keyword args (Escape m) (Escape n) are same a b = ap Escape (place_once (λ f. IsSpelled f → ⊥) (text_fields keyword args) m n a b)
same_check defs keyword args Entries Entries are same a b = refl
same_check defs keyword args (NoTable m) (NoTable n) are same a b = ap NoTable (place_once (IsOfNoTable defs keyword) (table_fields keyword args) m n a b)
same_check defs keyword args (Cond m why) (Cond n other) are same a b = waits_once defs keyword args m n why other are a b
same_check defs keyword args (Count m) (Count n) are same a b = ap Count (count_once defs keyword args m n are a b)
same_check defs keyword args (BadValue m) (BadValue n) are same a b = ap BadValue (value_once defs keyword args m n are a b)
same_check defs keyword args Long Long are same a b = refl
same_check defs keyword args Memory Memory are same a b = refl
same_check defs keyword args _ _ are same a b = absurd (omega (arith, same))

refused_once : (defs : List TableDef) (keyword : Keyword) (args : List (List ℕ)) (f g : CommandFault) → AreDefs defs → IsRefused defs keyword args f → IsRefused defs keyword args g → f ≡ g
refused_once defs keyword args f g are a b = elim (cases_order (rank f) (rank g)) [
  | inl same ↦ same_check defs keyword args f g are same a.stands b.stands
  | inr (inl below) ↦ absurd (b.first f below a.stands)
  | inr (inr above) ↦ absurd (a.first g above b.stands)
]

-- ## Faults of a line

-- The line has a command's word, and the fault stands first in its other fields.
record InFields (defs : List TableDef) (line : List ℕ) (fault : CommandFault) : Type 0 where
  keyword : Keyword
  args : List (List ℕ)
  text : IsUtf8 line
  begins : Begins line keyword args
  refused : IsRefused defs keyword args fault

abbrev HasNoWord : List ℕ → Type 0
HasNoWord line = (keyword : Keyword) (args : List (List ℕ)) → Begins line keyword args → ⊥

-- which fault it is
abbrev Verdict : List TableDef → List ℕ → CommandFault → Type 0
Verdict defs line fault = (fault ≡ Memory) ⊎ (((fault ≡ NotText) × (IsUtf8 line → ⊥)) ⊎ (((fault ≡ Unknown) × IsUtf8 line × HasNoWord line) ⊎ InFields defs line fault))

verdict : (defs : List TableDef) (line : List ℕ) (f : CommandFault) → Reads defs line (Err f) → Verdict defs line f
verdict defs line NotText reads = inr (inl (refl, reads))
verdict defs line Unknown reads = inr (inr (inl (refl, reads.0, reads.1)))
verdict defs line Memory reads = inl refl
verdict defs line _ reads = inr (inr (inr (record { keyword = reads.keyword; args = reads.args; text = reads.text; begins = reads.begins; refused = reads.fields })))

fields_once : (defs : List TableDef) (line : List ℕ) (f g : CommandFault) → AreDefs defs → InFields defs line f → InFields defs line g → f ≡ g
fields_once defs line f g are a b =
    let lists = sym a.begins ∙ b.begins in
    let same : a.keyword ≡ b.keyword = word_once a.keyword b.keyword (cons_head lists) in
    let refused = subst (λ fs. IsRefused defs b.keyword fs f) (cons_tail lists) (subst (λ k. IsRefused defs k a.args f) same a.refused) in
    refused_once defs b.keyword b.args f g are refused b.refused

both : (defs : List TableDef) (line : List ℕ) (f g : CommandFault) → AreDefs defs → Verdict defs line f → Verdict defs line g → (f ≡ g) ⊎ ((f ≡ Memory) ⊎ (g ≡ Memory))
both defs line f g are (inl a) b = inr (inl a)
both defs line f g are (inr a) (inl b) = inr (inr b)
both defs line f g are (inr (inl a)) (inr (inl b)) = inl (a.0 ∙ sym b.0)
both defs line f g are (inr (inl a)) (inr (inr (inl b))) = absurd (a.1 b.1)
both defs line f g are (inr (inl a)) (inr (inr (inr b))) = absurd (a.1 b.text)
both defs line f g are (inr (inr (inl a))) (inr (inl b)) = absurd (b.1 a.1)
both defs line f g are (inr (inr (inl a))) (inr (inr (inl b))) = inl (a.0 ∙ sym b.0)
both defs line f g are (inr (inr (inl a))) (inr (inr (inr b))) = absurd (a.2 b.keyword b.args b.begins)
both defs line f g are (inr (inr (inr a))) (inr (inl b)) = absurd (b.1 a.text)
both defs line f g are (inr (inr (inr a))) (inr (inr (inl b))) = absurd (b.2 a.keyword a.args a.begins)
both defs line f g are (inr (inr (inr a))) (inr (inr (inr b))) = inl (fields_once defs line f g are a b)

-- a line with two faults has one
pub fault_once : (defs : List TableDef) (line : List ℕ) (f g : CommandFault) → AreDefs defs → Reads defs line (Err f) → Reads defs line (Err g) → (f ≡ g) ⊎ ((f ≡ Memory) ⊎ (g ≡ Memory))
fault_once defs line f g are a b = both defs line f g are (verdict defs line f a) (verdict defs line g b)
