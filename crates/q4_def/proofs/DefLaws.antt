-- A file has one list of definitions or one fault, and never both.
use Rattle.std.proofs.Common.{◌≡◌, ◌≢◌, ℕ, ◌+◌, ◌<◌, List, [], ◌∷◌, ◌++◌, length, map, Some, Contains, refl, sym, ap, subst, ◌∙◌, arith, ⊎_elim}
use Rattle.std.specs.List.{All, AllPairs, AllZip}
use Rattle.std.proofs.lemmas.Bool.{cases_order}
use Rattle.std.proofs.lemmas.List.{length-map}
use Rattle.std.proofs.lemmas.List.Elements.{All-head, All-tail}
use Rattle.toml.specs.Data.{Data, Members}
use Rattle.q4_value.specs.declared.column.Column.{Column}
use Rattle.q4_value.specs.Names.{IsName}
use Rattle.q4_value.proofs.Rows.{append_same, place_within}
use Rattle.q4_def.specs.declared.fault.DefFault.{DefFault}
use Rattle.q4_def.specs.declared.fault.DefFault.TheVariants as fault
use Rattle.q4_def.specs.declared.table_def.TableDef.{TableDef}
use Rattle.q4_def.specs.Tables.{IsTableDef, AreDistinct, names_of}
use Rattle.q4_def.specs.Document.{IsToml, HasTables, IsTable, Defines, HasDefs, Reads, column_text}
use Rattle.q4_def.specs.Faults.{IsHead, HeadFails, FirstColumnFails, TableFails, bad_shape, bad_head, bad_column, FirstTableFails, DocumentFails, not_toml, no_tables, too_many, bad_table, Fails}
use Rattle.q4_def.proofs.Forms.{one_entries, one_tables, same_texts}
use Rattle.q4_def.proofs.Growing.{length_zip}
use Rattle.q4_def.proofs.ColumnLaws.{columns_same, fresh_in, all_before, all_at, no_first_column, one_first_column}

-- ---- one table

pub one_table : (member : Data) (name name' : List ℕ) (texts texts' : List (List ℕ)) → IsTable member name texts → IsTable member name' texts' → (name ≡ name') × (texts ≡ texts')
one_table member name name' texts texts' one other =
    let same = one_entries member name name' _ _ one other in
    (same.0, same_texts texts texts' same.1)

def_same : (member : Data) (one other : TableDef) → IsTableDef one → IsTableDef other → Defines member one → Defines member other → one ≡ other
def_same member one other is is' defines defines' =
    let same = one_table member one.name other.name (map column_text one.columns) (map column_text other.columns) defines defines' in
    let columns : one.columns ≡ other.columns = columns_same one.columns other.columns is.columns.named.names is'.columns.named.names same.1 in
    let middle : TableDef = record { name = other.name; columns = one.columns } in
    let left : one ≡ middle = ap (λ (n : List ℕ). let d : TableDef = record { name = n; columns = one.columns } in d) same.0 in
    left ∙ ap (λ (cs : List Column). let d : TableDef = record { name = other.name; columns = cs } in d) columns

defs_same : (members : List Data) (ones others : List TableDef) → All IsTableDef ones → All IsTableDef others → AllZip Defines members ones → AllZip Defines members others → ones ≡ others
defs_same [] [] [] are are' each each' = refl
defs_same [] [] (d ∷ ds) are are' each each' = absurd each'
defs_same [] (c ∷ cs) others are are' each each' = absurd each
defs_same (m ∷ ms) [] others are are' each each' = absurd each
defs_same (m ∷ ms) (c ∷ cs) [] are are' each each' = absurd each'
defs_same (m ∷ ms) (c ∷ cs) (d ∷ ds) are are' each each' =
    ap (λ x. x ∷ cs) (def_same m c d (All-head IsTableDef c cs are) (All-head IsTableDef d ds are') each.0 each'.0)
    ∙ ap (λ xs. d ∷ xs) (defs_same ms cs ds (All-tail IsTableDef c cs are) (All-tail IsTableDef d ds are') each.1 each'.1)

-- ---- a table's head

no_head_fault : (names : List (List ℕ)) (name : List ℕ) (count i : ℕ) (why : DefFault) → IsHead names name count → HeadFails names name count i why → ⊥
no_head_fault names name count i (fault.BadName a b) good fails = fails.2 good.named
no_head_fault names name count i (fault.Twice a b) good fails = good.fresh fails.3
no_head_fault names name count i (fault.Count a) good fails = ⊎_elim (λ none. omega (arith, good.some, none)) (λ many. omega (arith, good.few, many)) fails.3
no_head_fault names name count i why good fails = fails

when_bad_name : (names : List (List ℕ)) (name : List ℕ) (count i : ℕ) (why : DefFault) → (IsName name → ⊥) → HeadFails names name count i why → why ≡ fault.BadName i 0
when_bad_name names name count i (fault.BadName a b) bad fails = ap (λ x. fault.BadName x b) fails.0 ∙ ap (λ x. fault.BadName i x) fails.1
when_bad_name names name count i (fault.Twice a b) bad fails = absurd (bad fails.2)
when_bad_name names name count i (fault.Count a) bad fails = absurd (bad fails.1)
when_bad_name names name count i why bad fails = absurd fails

when_twice : (names : List (List ℕ)) (name : List ℕ) (count i : ℕ) (why : DefFault) → IsName name → Contains names name → HeadFails names name count i why → why ≡ fault.Twice i 0
when_twice names name count i (fault.BadName a b) named has fails = absurd (fails.2 named)
when_twice names name count i (fault.Twice a b) named has fails = ap (λ x. fault.Twice x b) fails.0 ∙ ap (λ x. fault.Twice i x) fails.1
when_twice names name count i (fault.Count a) named has fails = absurd (fails.2 has)
when_twice names name count i why named has fails = absurd fails

when_count : (names : List (List ℕ)) (name : List ℕ) (count i : ℕ) (why : DefFault) → IsName name → (Contains names name → ⊥) → HeadFails names name count i why → why ≡ fault.Count i
when_count names name count i (fault.BadName a b) named fresh fails = absurd (fails.2 named)
when_count names name count i (fault.Twice a b) named fresh fails = absurd (fresh fails.3)
when_count names name count i (fault.Count a) named fresh fails = ap fault.Count fails.0
when_count names name count i why named fresh fails = absurd fails

one_head_fault : (names : List (List ℕ)) (name : List ℕ) (count i : ℕ) (one other : DefFault) → HeadFails names name count i one → HeadFails names name count i other → one ≡ other
one_head_fault names name count i (fault.BadName a b) other first second =
    when_bad_name names name count i (fault.BadName a b) first.2 first ∙ sym (when_bad_name names name count i other first.2 second)
one_head_fault names name count i (fault.Twice a b) other first second =
    when_twice names name count i (fault.Twice a b) first.2 first.3 first ∙ sym (when_twice names name count i other first.2 first.3 second)
one_head_fault names name count i (fault.Count a) other first second =
    when_count names name count i (fault.Count a) first.1 first.2 first ∙ sym (when_count names name count i other first.1 first.2 second)
one_head_fault names name count i one other first second = absurd first

-- ---- a member

no_table_fault : (names : List (List ℕ)) (member : Data) (def : TableDef) (i : ℕ) (why : DefFault) → Defines member def → IsTableDef def → (Contains names def.name → ⊥)
    → TableFails names member i why → ⊥
no_table_fault names member def i why defines is fresh (bad_shape e none) = none def.name (map column_text def.columns) defines
no_table_fault names member def i why defines is fresh (bad_head name texts table fails) =
    let same = one_table member name def.name texts (map column_text def.columns) table defines in
    let count : length texts ≡ length def.columns = ap length same.1 ∙ length-map def.columns column_text in
    let good : IsHead names name (length texts) = record {
      named = subst IsName (sym same.0) is.named;
      fresh = subst (λ n. Contains names n → ⊥) (sym same.0) fresh;
      some = omega (arith, count, is.columns.some);
      few = omega (arith, count, is.columns.few);
    } in
    no_head_fault names name (length texts) i why good fails
no_table_fault names member def i why defines is fresh (bad_column name texts table head fails) =
    let same = one_table member name def.name texts (map column_text def.columns) table defines in
    no_first_column def.columns i why is.columns.named (subst (λ ts. FirstColumnFails ts i why) same.1 fails)

one_table_fault : (names : List (List ℕ)) (member : Data) (i : ℕ) (one other : DefFault) → TableFails names member i one → TableFails names member i other → one ≡ other
one_table_fault names member i one other (bad_shape e none) (bad_shape e' none') = e ∙ sym e'
one_table_fault names member i one other (bad_shape e none) (bad_head name texts table fails) = absurd (none name texts table)
one_table_fault names member i one other (bad_shape e none) (bad_column name texts table head fails) = absurd (none name texts table)
one_table_fault names member i one other (bad_head name texts table fails) (bad_shape e none) = absurd (none name texts table)
one_table_fault names member i one other (bad_head name texts table fails) (bad_head name' texts' table' fails') =
    let same = one_table member name name' texts texts' table table' in
    one_head_fault names name' (length texts') i one other (subst (λ ts. HeadFails names name' (length ts) i one) same.1 (subst (λ n. HeadFails names n (length texts) i one) same.0 fails)) fails'
one_table_fault names member i one other (bad_head name texts table fails) (bad_column name' texts' table' head' fails') =
    let same = one_table member name' name texts' texts table' table in
    absurd (no_head_fault names name (length texts) i one (subst (λ ts. IsHead names name (length ts)) same.1 (subst (λ n. IsHead names n (length texts')) same.0 head')) fails)
one_table_fault names member i one other (bad_column name texts table head fails) (bad_shape e none) = absurd (none name texts table)
one_table_fault names member i one other (bad_column name texts table head fails) (bad_head name' texts' table' fails') =
    let same = one_table member name name' texts texts' table table' in
    absurd (no_head_fault names name' (length texts') i other (subst (λ ts. IsHead names name' (length ts)) same.1 (subst (λ n. IsHead names n (length texts)) same.0 head)) fails')
one_table_fault names member i one other (bad_column name texts table head fails) (bad_column name' texts' table' head' fails') =
    let same = one_table member name name' texts texts' table table' in
    one_first_column texts' i one other (subst (λ ts. FirstColumnFails ts i one) same.1 fails) fails'

-- ---- members in a row

record Pairs {A B : Type 0} (R : A → B → Type 0) (front : List A) (m : A) (ys : List B) : Type 0 where
  pub before : List B
  pub y : B
  pub after : List B
  pub whole : ys ≡ before ++ y ∷ after
  pub front_is : AllZip R front before
  pub is : R m y

pairs_of : {A B : Type 0} (R : A → B → Type 0) (front rest : List A) (m : A) (ys : List B) → AllZip R (front ++ m ∷ rest) ys → Pairs R front m ys
pairs_of R [] rest m [] each = absurd each
pairs_of R [] rest m (y ∷ ys) each = record { before = []; y = y; after = ys; whole = refl; front_is = tt; is = each.0 }
pairs_of R (x ∷ front) rest m [] each = absurd each
pairs_of R (x ∷ front) rest m (y ∷ ys) each =
    let p = pairs_of R front rest m ys each.1 in
    record { before = y ∷ p.before; y = p.y; after = p.after; whole = ap (λ zs. y ∷ zs) p.whole; front_is = (each.0, p.front_is); is = p.is }

-- where the members in front define these tables and all define good ones, the next member has no fault
no_next_fault : (front rest : List Data) (member : Data) (defs earlier : List TableDef) (i : ℕ) (why : DefFault) → AreDistinct defs → AreDistinct earlier
    → AllZip Defines (front ++ member ∷ rest) defs → AllZip Defines front earlier → TableFails (names_of earlier) member i why → ⊥
no_next_fault front rest member defs earlier i why distinct distinct' each each' fails =
    let p = pairs_of Defines front rest member defs each in
    let are = subst (All IsTableDef) p.whole distinct.each in
    let once = subst (AllPairs (λ one other. one.name ≢ other.name)) p.whole distinct.once in
    let same : p.before ≡ earlier = defs_same front p.before earlier (all_before IsTableDef p.before p.after p.y are) distinct'.each p.front_is each' in
    no_table_fault (names_of earlier) member p.y i why p.is (all_at IsTableDef p.before p.after p.y are)
    (subst (λ ds. Contains (names_of ds) p.y.name → ⊥) same (fresh_in (λ d. d.name) p.before p.after p.y once)) fails

no_first_table : (tables : List Data) (defs : List TableDef) (why : DefFault) → AreDistinct defs → AllZip Defines tables defs → FirstTableFails tables why → ⊥
no_first_table tables defs why distinct each f =
    no_next_fault f.front f.rest f.member defs f.earlier (length f.earlier + 1) why distinct f.distinct (subst (λ ts. AllZip Defines ts defs) f.tables_are each) f.each f.fails

first_is_first : (tables : List Data) (one other : DefFault) → (f : FirstTableFails tables one) → (g : FirstTableFails tables other) → length f.front < length g.front → ⊥
first_is_first tables one other f g less =
    let p = place_within f.front g.front f.member g.member f.rest g.rest (sym f.tables_are ∙ g.tables_are) less in
    no_next_fault f.front p.0 f.member g.earlier f.earlier (length f.earlier + 1) one g.distinct f.distinct (subst (λ ts. AllZip Defines ts g.earlier) p.1 g.each) f.each f.fails

first_at_once : (tables : List Data) (one other : DefFault) → (f : FirstTableFails tables one) → (g : FirstTableFails tables other) → length f.front ≡ length g.front → one ≡ other
first_at_once tables one other f g same =
    let p = append_same f.front g.front (f.member ∷ f.rest) (g.member ∷ g.rest) same (sym f.tables_are ∙ g.tables_are) in
    let defs : f.earlier ≡ g.earlier = defs_same g.front f.earlier g.earlier f.distinct.each g.distinct.each (subst (λ ms. AllZip Defines ms f.earlier) p.0 f.each) g.each in
    let tails = p.1 in
    let member : f.member ≡ g.member = cc in
    let fails : TableFails (names_of g.earlier) g.member (length g.earlier + 1) one =
    subst (λ m. TableFails (names_of g.earlier) m (length g.earlier + 1) one) member (subst (λ ds. TableFails (names_of ds) f.member (length ds + 1) one) defs f.fails) in
    one_table_fault (names_of g.earlier) g.member (length g.earlier + 1) one other fails g.fails

one_first_table : (tables : List Data) (one other : DefFault) → FirstTableFails tables one → FirstTableFails tables other → one ≡ other
one_first_table tables one other f g = ⊎_elim (first_at_once tables one other f g)
    (λ order. ⊎_elim (λ less. absurd (first_is_first tables one other f g less)) (λ more. absurd (first_is_first tables other one g f more)) order)
    (cases_order (length f.front) (length g.front))

-- ---- a file

one_document : (bytes : List ℕ) (one other : Members) → IsToml bytes one → IsToml bytes other → one ≡ other
one_document bytes one other first second = let same : Some one ≡ Some other = sym first.reads ∙ second.reads in cc

-- the same tables, also where they were read from another look at the bytes
tables_same : (bytes : List ℕ) (document document' : Members) (tables tables' : List Data) → IsToml bytes document → IsToml bytes document' → HasTables document tables → HasTables document' tables' → tables ≡ tables'
tables_same bytes document document' tables tables' toml toml' form form' =
    one_tables document' tables tables' (subst (λ d. HasTables d tables) (one_document bytes document document' toml toml') form) form'

no_form : (bytes : List ℕ) (document document' : Members) (tables : List Data) → IsToml bytes document → IsToml bytes document' → ((ts : List Data) → HasTables document ts → ⊥) → HasTables document' tables → ⊥
no_form bytes document document' tables toml toml' none form = none tables (subst (λ d. HasTables d tables) (one_document bytes document' document toml' toml) form)

has_one : (bytes : List ℕ) (one other : List TableDef) → HasDefs bytes one → HasDefs bytes other → one ≡ other
has_one bytes one other h k =
    let same : h.tables ≡ k.tables = tables_same bytes h.document k.document h.tables k.tables h.toml k.toml h.form k.form in
    defs_same k.tables one other h.well_formed.distinct.each k.well_formed.distinct.each (subst (λ ts. AllZip Defines ts one) same h.each) k.each

pub reads_one : (bytes : List ℕ) (one other : List TableDef) → Reads bytes one → Reads bytes other → one ≡ other
reads_one [] one other h k = h ∙ sym k
reads_one (b ∷ rest) one other h k = has_one (b ∷ rest) one other h k

has_no_fault : (bytes : List ℕ) (defs : List TableDef) (why : DefFault) → HasDefs bytes defs → DocumentFails bytes why → ⊥
has_no_fault bytes defs why h (not_toml e none) = none h.document h.toml
has_no_fault bytes defs why h (no_tables document toml e none) = no_form bytes document h.document h.tables toml h.toml none h.form
has_no_fault bytes defs why h (too_many document tables toml form e many) =
    let same : tables ≡ h.tables = tables_same bytes document h.document tables h.tables toml h.toml form h.form in
    omega (arith, many, ap length same, length_zip Defines h.tables defs h.each, h.well_formed.few)
has_no_fault bytes defs why h (bad_table document tables toml form few fails) =
    let same : tables ≡ h.tables = tables_same bytes document h.document tables h.tables toml h.toml form h.form in
    no_first_table h.tables defs why h.well_formed.distinct h.each (subst (λ ts. FirstTableFails ts why) same fails)

pub reads_no_fault : (bytes : List ℕ) (defs : List TableDef) (why : DefFault) → Reads bytes defs → Fails bytes why → ⊥
reads_no_fault [] defs why h fails = fails
reads_no_fault (b ∷ rest) defs why h fails = has_no_fault (b ∷ rest) defs why h fails

one_of : (bytes : List ℕ) (one other : DefFault) → DocumentFails bytes one → DocumentFails bytes other → one ≡ other
one_of bytes one other (not_toml e none) (not_toml e' none') = e ∙ sym e'
one_of bytes one other (not_toml e none) (no_tables d t e' none') = absurd (none d t)
one_of bytes one other (not_toml e none) (too_many d ts t form e' many) = absurd (none d t)
one_of bytes one other (not_toml e none) (bad_table d ts t form few fails) = absurd (none d t)
one_of bytes one other (no_tables d t e none) (not_toml e' none') = absurd (none' d t)
one_of bytes one other (no_tables d t e none) (no_tables d' t' e' none') = e ∙ sym e'
one_of bytes one other (no_tables d t e none) (too_many d' ts t' form e' many) = absurd (no_form bytes d d' ts t t' none form)
one_of bytes one other (no_tables d t e none) (bad_table d' ts t' form few fails) = absurd (no_form bytes d d' ts t t' none form)
one_of bytes one other (too_many d ts t form e many) (not_toml e' none') = absurd (none' d t)
one_of bytes one other (too_many d ts t form e many) (no_tables d' t' e' none') = absurd (no_form bytes d' d ts t' t none' form)
one_of bytes one other (too_many d ts t form e many) (too_many d' ts' t' form' e' many') = e ∙ sym e'
one_of bytes one other (too_many d ts t form e many) (bad_table d' ts' t' form' few fails) =
    absurd (omega (arith, many, few, ap length (tables_same bytes d d' ts ts' t t' form form')))
one_of bytes one other (bad_table d ts t form few fails) (not_toml e none) = absurd (none d t)
one_of bytes one other (bad_table d ts t form few fails) (no_tables d' t' e none) = absurd (no_form bytes d' d ts t' t none form)
one_of bytes one other (bad_table d ts t form few fails) (too_many d' ts' t' form' e many) =
    absurd (omega (arith, many, few, ap length (tables_same bytes d d' ts ts' t t' form form')))
one_of bytes one other (bad_table d ts t form few fails) (bad_table d' ts' t' form' few' fails') =
    one_first_table ts' one other (subst (λ xs. FirstTableFails xs one) (tables_same bytes d d' ts ts' t t' form form') fails) fails'

pub fails_one : (bytes : List ℕ) (one other : DefFault) → Fails bytes one → Fails bytes other → one ≡ other
fails_one [] one other first second = absurd first
fails_one (b ∷ rest) one other first second = one_of (b ∷ rest) one other first second
