-- Lists of columns and of definitions that grow one by one.
use Rattle.std.proofs.Common.{Bor, ◌≡◌, ◌≢◌, ℕ, ◌+◌, ◌<◌, List, [], ◌∷◌, ◌++◌, length, get_or, take, drop, map, Contains, refl, sym, ap, subst, ◌∙◌, arith}
use Rattle.std.specs.List.{AllZip, take-map}
use Rattle.std.proofs.lemmas.List.{get_or-map, length-map, take_more, map_push}
use Rattle.std.proofs.lemmas.List.Elements.{All-push}
use Rattle.std.proofs.lemmas.List.Quantifiers.{all_pairs_push}
use Rattle.toml.specs.Data.{Data, string}
use Rattle.toml.specs.declared.value.Value.{Value}
use Rattle.toml.specs.View.{view}
use Rattle.q4_value.specs.declared.column.Column.{Column}
use Rattle.q4_value.specs.Names.{IsColumnName, AreNamed}
use Rattle.q4_value.proofs.Rows.{take_next, parted}
use Rattle.q4_def.specs.declared.fault.DefFault.{DefFault}
use Rattle.q4_def.specs.declared.fault.DefFault.TheVariants as fault
use Rattle.q4_def.specs.declared.table_def.TableDef.{TableDef}
use Rattle.q4_def.specs.Tables.{IsTableDef, AreDistinct, names_of}
use Rattle.q4_def.specs.Document.{HasEntries, IsTable, Defines, column_text}
use Rattle.q4_def.specs.Faults.{OrMemory, ColumnFails, FirstColumnFails, IsHead, HeadFails, TableFails, bad_head, bad_column, FirstTableFails, DocumentFails, Fails}

-- ---- faults

pub or_memory : (P : DefFault → Type 0) (why : DefFault) → P why → OrMemory P why
or_memory P fault.NotToml is = is
or_memory P (fault.Shape i) is = is
or_memory P (fault.Count i) is = is
or_memory P (fault.BadName i j) is = is
or_memory P (fault.Twice i j) is = is
or_memory P (fault.BadKind i j) is = is
or_memory P fault.Memory is = tt

pub or_memory_by : (P Q : DefFault → Type 0) → ((why : DefFault) → P why → Q why) → (why : DefFault) → OrMemory P why → OrMemory Q why
or_memory_by P Q f fault.NotToml is = f fault.NotToml is
or_memory_by P Q f (fault.Shape i) is = f (fault.Shape i) is
or_memory_by P Q f (fault.Count i) is = f (fault.Count i) is
or_memory_by P Q f (fault.BadName i j) is = f (fault.BadName i j) is
or_memory_by P Q f (fault.Twice i j) is = f (fault.Twice i j) is
or_memory_by P Q f (fault.BadKind i j) is = f (fault.BadKind i j) is
or_memory_by P Q f fault.Memory is = tt

-- ---- names

-- what has a name that none has differs from each
apart_from : {X : Type 0} (name : X → List ℕ) (xs : List X) (x : X) → (Contains (map name xs) (name x) → ⊥) → (k : ℕ) (d : X) → k < length xs → name (get_or xs k d) ≢ name x
apart_from name xs x fresh k d within same =
    fresh (k, omega (arith, length-map xs name), get_or-map name xs k d (name x) within ∙ same)

pub named_push : (columns : List Column) (column : Column) → AreNamed columns → IsColumnName column.name → (Contains (map (λ c. c.name) columns) column.name → ⊥)
    → AreNamed (columns ++ column ∷ [])
named_push columns column so_far named fresh = record {
  names = All-push (λ c. IsColumnName c.name) columns column so_far.names named;
  once = all_pairs_push (λ one other. one.name ≢ other.name) columns column so_far.once (apart_from (λ c. c.name) columns column fresh);
}

pub distinct_push : (defs : List TableDef) (def : TableDef) → AreDistinct defs → IsTableDef def → (Contains (names_of defs) def.name → ⊥) → AreDistinct (defs ++ def ∷ [])
distinct_push defs def so_far is fresh = record {
  each = All-push IsTableDef defs def so_far.each is;
  once = all_pairs_push (λ one other. one.name ≢ other.name) defs def so_far.once (apart_from (λ d. d.name) defs def fresh);
}

pub zip_push : {A B : Type 0} (R : A → B → Type 0) (xs : List A) (ys : List B) (x : A) (y : B) → AllZip R xs ys → R x y → AllZip R (xs ++ x ∷ []) (ys ++ y ∷ [])
zip_push R [] [] x y so_far is = (is, tt)
zip_push R [] (b ∷ ys) x y so_far is = absurd so_far
zip_push R (a ∷ xs) [] x y so_far is = absurd so_far
zip_push R (a ∷ xs) (b ∷ ys) x y so_far is = (so_far.0, zip_push R xs ys x y so_far.1 is)

pub length_zip : {A B : Type 0} (R : A → B → Type 0) (xs : List A) (ys : List B) → AllZip R xs ys → length xs ≡ length ys
length_zip R [] [] is = refl
length_zip R [] (b ∷ ys) is = absurd is
length_zip R (a ∷ xs) [] is = absurd is
length_zip R (a ∷ xs) (b ∷ ys) is = let tails = length_zip R xs ys is.1 in omega arith

-- the mapped front with one more element that was read at its place
pub mapped_next : {X Y : Type 0} (f : X → Y) (xs : List X) (i : ℕ) (x : X) → i < length xs → x ≡ get_or xs i x → map f (take (i + 1) xs) ≡ map f (take i xs) ++ f x ∷ []
mapped_next f xs i x within at = ap (map f) (take_next xs i x within at) ∙ map_push f (take i xs) x

-- ---- the first that fails

pub first_column : (texts : List (List ℕ)) (columns : List Column) (i table : ℕ) (text : List ℕ) (why : DefFault) → i < length texts → text ≡ get_or texts i text
    → take i texts ≡ map column_text columns → AreNamed columns → ColumnFails columns text table (length columns + 1) why → FirstColumnFails texts table why
first_column texts columns i table text why within at so_far named fails = record {
  earlier = columns;
  text = text;
  rest = drop (i + 1) texts;
  texts_are = parted texts i text within at ∙ ap (λ ts. ts ++ text ∷ drop (i + 1) texts) so_far;
  named = named;
  fails = fails;
}

pub first_table : (members : List Data) (defs : List TableDef) (i : ℕ) (member : Data) (why : DefFault) → i < length members → member ≡ get_or members i member
    → AllZip Defines (take i members) defs → AreDistinct defs → TableFails (names_of defs) member (length defs + 1) why → FirstTableFails members why
first_table members defs i member why within at each distinct fails = record {
  earlier = defs;
  front = take i members;
  member = member;
  rest = drop (i + 1) members;
  tables_are = parted members i member within at;
  each = each;
  distinct = distinct;
  fails = fails;
}

-- ---- one turn of a loop

pub column_fault : (texts : List (Bor (List ℕ))) (columns earlier : List Column) (i table : ℕ) (d : Bor (List ℕ)) (why : DefFault) → i < length texts → earlier ≡ columns
    → map (λ text. text.now) (take i texts) ≡ map column_text columns → AreNamed columns → OrMemory (ColumnFails earlier (get_or texts i d).now table (length earlier + 1)) why
    → OrMemory (FirstColumnFails (map (λ text. text.now) texts) table) why
column_fault texts columns earlier i table d why within same so_far named fails =
    let text = (get_or texts i d).now in
    let now : Bor (List ℕ) → List ℕ = λ t. t.now in
    let fails' : OrMemory (ColumnFails columns text table (length columns + 1)) why = subst (λ cs. OrMemory (ColumnFails cs text table (length cs + 1)) why) same fails in
    or_memory_by (ColumnFails columns text table (length columns + 1)) (FirstColumnFails (map (λ text. text.now) texts) table)
    (λ because bad. first_column (map now texts) columns i table text because (omega (arith, within, length-map texts now)) (sym (get_or-map now texts i d text within)) (take-map now i texts ∙ so_far) named bad) why fails'

pub column_next : (texts : List (Bor (List ℕ))) (columns : List Column) (i : ℕ) (d : Bor (List ℕ)) (column : Column) → i < length texts
    → map (λ text. text.now) (take i texts) ≡ map column_text columns → (get_or texts i d).now ≡ column_text column
    → map (λ text. text.now) (take (i + 1) texts) ≡ map column_text (columns ++ column ∷ [])
column_next texts columns i d column within so_far is =
    let now : Bor (List ℕ) → List ℕ = λ t. t.now in
    ap (map now) (take_more texts i d within) ∙ map_push now (take i texts) (get_or texts i d) ∙ ap (λ ts. ts ++ (get_or texts i d).now ∷ []) so_far
    ∙ ap (λ t. map column_text columns ++ t ∷ []) is ∙ sym (map_push column_text columns column)

pub table_fault : (members : List Value) (defs earlier : List TableDef) (i : ℕ) (member : Value) (why : DefFault) → i < length members → member ≡ get_or members i member → earlier ≡ defs
    → AllZip Defines (map view (take i members)) defs → AreDistinct defs → OrMemory (TableFails (names_of earlier) (view member) (length earlier + 1)) why
    → OrMemory (FirstTableFails (map view members)) why
table_fault members defs earlier i member why within at same each distinct fails =
    let fails' : OrMemory (TableFails (names_of defs) (view member) (length defs + 1)) why = subst (λ ds. OrMemory (TableFails (names_of ds) (view member) (length ds + 1)) why) same fails in
    let each' : AllZip Defines (take i (map view members)) defs = subst (λ ms. AllZip Defines ms defs) (sym (take-map view i members)) each in
    or_memory_by (TableFails (names_of defs) (view member) (length defs + 1)) (FirstTableFails (map view members))
    (λ because bad. first_table (map view members) defs i (view member) because (omega (arith, within, length-map members view))
    (ap view at ∙ sym (get_or-map view members i member (view member) within)) each' distinct bad) why fails'

pub table_next : (members : List Value) (defs : List TableDef) (i : ℕ) (member : Value) (def : TableDef) → i < length members → member ≡ get_or members i member
    → AllZip Defines (map view (take i members)) defs → Defines (view member) def → AllZip Defines (map view (take (i + 1) members)) (defs ++ def ∷ [])
table_next members defs i member def within at each is =
    subst (λ ms. AllZip Defines ms (defs ++ def ∷ [])) (sym (mapped_next view members i member within at)) (zip_push Defines (map view (take i members)) defs (view member) def each is)

-- ---- a table

-- where the columns are these strings
table_of : (member : Data) (name : List ℕ) (values : List Data) (texts : List (Bor (List ℕ))) → HasEntries member name values → values ≡ map string (map (λ text. text.now) texts)
    → IsTable member name (map (λ text. text.now) texts)
table_of member name values texts is same = subst (HasEntries member name) same is

pub head_fault : (names : List (List ℕ)) (member : Data) (name : List ℕ) (values : List Data) (texts : List (Bor (List ℕ))) (i count : ℕ) (why : DefFault) → HasEntries member name values
    → values ≡ map string (map (λ text. text.now) texts) → count ≡ length texts → HeadFails names name count i why → OrMemory (TableFails names member i) why
head_fault names member name values texts i count why is same counted fails =
    let now : Bor (List ℕ) → List ℕ = λ t. t.now in
    or_memory (TableFails names member i) why
    (bad_head name (map now texts) (table_of member name values texts is same) (subst (λ n. HeadFails names name n i why) (counted ∙ sym (length-map texts now)) fails))

pub columns_fault : (names : List (List ℕ)) (member : Data) (name : List ℕ) (values : List Data) (texts : List (Bor (List ℕ))) (i count : ℕ) (why : DefFault) → HasEntries member name values
    → values ≡ map string (map (λ text. text.now) texts) → count ≡ length texts → IsHead names name count → OrMemory (FirstColumnFails (map (λ text. text.now) texts) i) why
    → OrMemory (TableFails names member i) why
columns_fault names member name values texts i count why is same counted good fails =
    let now : Bor (List ℕ) → List ℕ = λ t. t.now in
    let good' : IsHead names name (length (map now texts)) = subst (IsHead names name) (counted ∙ sym (length-map texts now)) good in
    or_memory_by (FirstColumnFails (map now texts) i) (TableFails names member i) (λ because bad. bad_column name (map now texts) (table_of member name values texts is same) good' bad) why fails

-- ---- a file

pub file_fault : (bytes : List ℕ) (why : DefFault) → (length bytes ≡ 0 → ⊥) → DocumentFails bytes why → Fails bytes why
file_fault [] why some fails = absurd (some refl)
file_fault (b ∷ rest) why some fails = fails
