-- What a document's members are, and that they are these alone.
use Rattle.std.proofs.Common.{◌≡◌, ℕ, ◌<◌, Bool, true, List, [], ◌∷◌, length, get_or, map, Option, Some, None, Contains, IsTrue, Ordering, Less, Equal, Greater, String, Global, string_bytes, nat_cmp, is_eq, codes, refl, sym, ap, subst, ◌∙◌, arith, inl, inr}
use Rattle.std.specs.Cmp.Lexicographic.{slice_cmp}
use Rattle.std.specs.List.{list_any, list_all}
use Rattle.std.specs.Map.{keys_of}
use Rattle.std.specs.Ordering.{match_ordering}
use Rattle.std.specs.Str.{bytes_eq}
use Rattle.std.proofs.lemmas.Bool.{and_parts, and_from, cases_Bool}
use Rattle.std.proofs.lemmas.List.{get_or-map, length-map}
use Rattle.std.proofs.lemmas.Map.Text.{is_eq-slice_cmp}
use Rattle.std.proofs.lemmas.Slice.Eq.{bytes_eq-Decides}
use Rattle.toml.specs.declared.value.Value.{Value}
use Rattle.toml.specs.Data.{Data, string, array, table, as_str, as_array, as_table, Items, Members, get_member}
use Rattle.toml.specs.View.{view, items_of, members_view}
use Rattle.toml.proofs.Views.{Entry}
use Rattle.q4_def.specs.Document.{HasOnly, HasTables, HasEntries}
use Rattle.q4_def.proofs.Naming.{contains_from_any, any_from_contains}

-- ---- keys

-- the key that an entry of a map has
abbrev pub key_of : String Global → List ℕ
key_of key = string_bytes key

at_key : (o : Ordering) (d : Data) (rest : Option Data) → (is_eq o ≡ true → ⊥) → match_ordering o rest (Some d) rest ≡ rest
at_key Less d rest apart = refl
at_key Equal d rest apart = absurd (apart refl)
at_key Greater d rest apart = refl

nothing_at : (o : Ordering) (d : Data) (rest : Option Data) → match_ordering o rest (Some d) rest ≡ None → (is_eq o ≡ true → ⊥) × (rest ≡ None)
nothing_at Less d rest none = (λ e. absurd cc, none)
nothing_at Equal d rest none = absurd cc
nothing_at Greater d rest none = (λ e. absurd cc, none)

is_same : (k l : List ℕ) → is_eq (slice_cmp nat_cmp k l) ≡ true → k ≡ l
is_same k l e = (bytes_eq-Decides k l).0 (sym (is_eq-slice_cmp k l) ∙ e)

same_is : (k l : List ℕ) → k ≡ l → is_eq (slice_cmp nat_cmp k l) ≡ true
same_is k l e = is_eq-slice_cmp k l ∙ (bytes_eq-Decides k l).1 e

-- each key of the entries is one of the keys
pub only_from_all : {X : Type 0} (name : X → List ℕ) (keys : List X) (es : List Entry)
    → list_all (λ k. list_any (λ x. bytes_eq (name x) (string_bytes k)) keys) (keys_of es) ≡ true → HasOnly (map name keys) (members_view es)
only_from_all name keys [] all key other = refl
only_from_all name keys (e ∷ es) all key other =
    let parts = and_parts (list_any (λ x. bytes_eq (name x) (string_bytes e.0)) keys) (list_all (λ k. list_any (λ x. bytes_eq (name x) (string_bytes k)) keys) (keys_of es)) all in
    let apart : is_eq (slice_cmp nat_cmp key (string_bytes e.0)) ≡ true → ⊥ =
    λ same. other (subst (Contains (map name keys)) (sym (is_same key (string_bytes e.0) same)) (contains_from_any name keys (string_bytes e.0) parts.0)) in
    at_key (slice_cmp nat_cmp key (string_bytes e.0)) (view e.1) (get_member key (members_view es)) apart ∙ only_from_all name keys es parts.1 key other

pub all_from_only : {X : Type 0} (name : X → List ℕ) (keys : List X) (es : List Entry)
    → HasOnly (map name keys) (members_view es) → list_all (λ k. list_any (λ x. bytes_eq (name x) (string_bytes k)) keys) (keys_of es) ≡ true
all_from_only name keys [] only = refl
all_from_only name keys (e ∷ es) only =
    let here : list_any (λ x. bytes_eq (name x) (string_bytes e.0)) keys ≡ true =
    elim (cases_Bool (list_any (λ x. bytes_eq (name x) (string_bytes e.0)) keys)) [
      | inl found ↦ found
      | inr missing ↦
          let nothing = only (string_bytes e.0) (λ has. absurd (let found = any_from_contains name keys (string_bytes e.0) has in cc)) in
          absurd ((nothing_at (slice_cmp nat_cmp (string_bytes e.0) (string_bytes e.0)) (view e.1) (get_member (string_bytes e.0) (members_view es)) nothing).0 (same_is (string_bytes e.0) (string_bytes e.0) refl))
    ] in
    let later : HasOnly (map name keys) (members_view es) =
    λ key other. (nothing_at (slice_cmp nat_cmp key (string_bytes e.0)) (view e.1) (get_member key (members_view es)) (only key other)).1 in
    and_from (list_any (λ x. bytes_eq (name x) (string_bytes e.0)) keys) (list_all (λ k. list_any (λ x. bytes_eq (name x) (string_bytes k)) keys) (keys_of es)) here (all_from_only name keys es later)

pub says_only : {X : Type 0} (name : X → List ℕ) (keys : List X) (es : List Entry) (r : Bool)
    → r ≡ list_all (λ k. list_any (λ x. bytes_eq (name x) (string_bytes k)) keys) (keys_of es)
    → (IsTrue r → HasOnly (map name keys) (members_view es)) × (HasOnly (map name keys) (members_view es) → IsTrue r)
says_only name keys es r is = (λ yes. only_from_all name keys es (sym is ∙ yes), λ only. is ∙ all_from_only name keys es only)

-- ---- arrays

pub same_items : (one other : List Data) → items_of one ≡ items_of other → one ≡ other
same_items [] [] e = refl
same_items [] (d ∷ ds) e = absurd cc
same_items (d ∷ ds) [] e = absurd cc
same_items (c ∷ cs) (d ∷ ds) e =
    let head : c ≡ d = cc in
    let tail : items_of cs ≡ items_of ds = cc in
    ap (λ x. x ∷ cs) head ∙ ap (λ xs. d ∷ xs) (same_items cs ds tail)

pub same_texts : (one other : List (List ℕ)) → map string one ≡ map string other → one ≡ other
same_texts [] [] e = refl
same_texts [] (t ∷ ts) e = absurd cc
same_texts (t ∷ ts) [] e = absurd cc
same_texts (s ∷ ss) (t ∷ ts) e =
    let head : s ≡ t = cc in
    let tail : map string ss ≡ map string ts = cc in
    ap (λ x. x ∷ ss) head ∙ ap (λ xs. t ∷ xs) (same_texts ss ts tail)

-- a value that is no string among values that are to be strings
pub not_strings : (values : List Value) (i : ℕ) (v : Value) → i < length values → v ≡ get_or values i v → as_str (view v) ≡ None
    → (texts : List (List ℕ)) → map view values ≡ map string texts → ⊥
not_strings values i v within at none texts same =
    let count : length values ≡ length texts = sym (length-map values view) ∙ ap length same ∙ length-map texts string in
    let here : get_or (map view values) i (view v) ≡ view v = get_or-map view values i v (view v) within ∙ ap view (sym at) in
    let there : get_or (map string texts) i (view v) ≡ string (get_or texts i []) = get_or-map string texts i [] (view v) (omega arith) in
    let is : view v ≡ string (get_or texts i []) = sym here ∙ ap (λ xs. get_or xs i (view v)) same ∙ there in
    let some : as_str (view v) ≡ Some (get_or texts i []) = ap as_str is in
    cc

-- ---- forms

no_member : (key : List ℕ) (members : Members) (d : Data) → get_member key members ≡ None → get_member key members ≡ Some d → ⊥
no_member key members d none some = cc

-- the document has no tables where there is no array at `table`
pub no_tables : (document : Members) → get_member (codes "table") document ≡ None → (tables : List Data) → HasTables document tables → ⊥
no_tables document none tables form = no_member (codes "table") document (array (items_of tables)) none form.tables_are

pub no_array : (document : Members) (d : Data) → get_member (codes "table") document ≡ Some d → as_array d ≡ None
    → (tables : List Data) → HasTables document tables → ⊥
no_array document d found none tables form =
    let same : d ≡ array (items_of tables) = let e = sym found ∙ form.tables_are in cc in
    let some : as_array d ≡ Some (items_of tables) = ap as_array same in
    cc

pub tables_found : (document : Members) (one other : List Data) → get_member (codes "table") document ≡ Some (array (items_of one)) → HasTables document other → one ≡ other
tables_found document one other found form =
    same_items one other (let e = sym found ∙ form.tables_are in cc)

pub one_tables : (document : Members) (one other : List Data) → HasTables document one → HasTables document other → one ≡ other
one_tables document one other first second = tables_found document one other first.tables_are second

-- the member has no entries where it is no table, or where one of them is missing or of another kind
pub no_table : (d : Data) → as_table d ≡ None → (name : List ℕ) (columns : List Data) → HasEntries d name columns → ⊥
no_table d none name columns form =
    let some : as_table d ≡ Some form.entries = ap as_table form.is_table in
    cc

same_entries : (d : Data) (members : Members) (name : List ℕ) (columns : List Data) → as_table d ≡ Some members → (form : HasEntries d name columns) → form.entries ≡ members
same_entries d members name columns found form =
    let some : as_table d ≡ Some form.entries = ap as_table form.is_table in
    cc

pub other_keys : (d : Data) (members : Members) (keys : List (List ℕ)) → as_table d ≡ Some members → keys ≡ codes "name" ∷ codes "columns" ∷ []
    → (HasOnly keys members → ⊥) → (name : List ℕ) (columns : List Data) → HasEntries d name columns → ⊥
other_keys d members keys found keys_are not name columns form =
    not (subst (λ ks. HasOnly ks members) (sym keys_are) (subst (HasOnly (codes "name" ∷ codes "columns" ∷ [])) (same_entries d members name columns found form) form.no_other))

pub no_name : (d : Data) (members : Members) → as_table d ≡ Some members → get_member (codes "name") members ≡ None
    → (name : List ℕ) (columns : List Data) → HasEntries d name columns → ⊥
no_name d members found none name columns form =
    let at = subst (λ m. get_member (codes "name") m ≡ Some (string name)) (same_entries d members name columns found form) form.name_is in
    no_member (codes "name") members (string name) none at

pub no_string : (d : Data) (members : Members) (v : Data) → as_table d ≡ Some members → get_member (codes "name") members ≡ Some v → as_str v ≡ None
    → (name : List ℕ) (columns : List Data) → HasEntries d name columns → ⊥
no_string d members v found here none name columns form =
    let at = subst (λ m. get_member (codes "name") m ≡ Some (string name)) (same_entries d members name columns found form) form.name_is in
    let same : v ≡ string name = let e = sym here ∙ at in cc in
    let some : as_str v ≡ Some name = ap as_str same in
    cc

pub no_columns : (d : Data) (members : Members) → as_table d ≡ Some members → get_member (codes "columns") members ≡ None
    → (name : List ℕ) (columns : List Data) → HasEntries d name columns → ⊥
no_columns d members found none name columns form =
    let at = subst (λ m. get_member (codes "columns") m ≡ Some (array (items_of columns))) (same_entries d members name columns found form) form.columns_are in
    no_member (codes "columns") members (array (items_of columns)) none at

pub no_list : (d : Data) (members : Members) (v : Data) → as_table d ≡ Some members → get_member (codes "columns") members ≡ Some v → as_array v ≡ None
    → (name : List ℕ) (columns : List Data) → HasEntries d name columns → ⊥
no_list d members v found here none name columns form =
    let at = subst (λ m. get_member (codes "columns") m ≡ Some (array (items_of columns))) (same_entries d members name columns found form) form.columns_are in
    let same : v ≡ array (items_of columns) = let e = sym here ∙ at in cc in
    let some : as_array v ≡ Some (items_of columns) = ap as_array same in
    cc

pub as_string : (d : Data) (text : List ℕ) → as_str d ≡ Some text → d ≡ string text
as_string (string s) text e = ap string (let same : s ≡ text = cc in same)
as_string d text e = absurd cc

pub as_items : (d : Data) (items : Items) → as_array d ≡ Some items → d ≡ array items
as_items (array ds) items e = ap array (let same : ds ≡ items = cc in same)
as_items d items e = absurd cc

pub as_members : (d : Data) (members : Members) → as_table d ≡ Some members → d ≡ table members
as_members (table ms) members e = ap table (let same : ms ≡ members = cc in same)
as_members d members e = absurd cc

pub one_entries : (d : Data) (name name' : List ℕ) (columns columns' : List Data) → HasEntries d name columns → HasEntries d name' columns' → (name ≡ name') × (columns ≡ columns')
one_entries d name name' columns columns' one other =
    let members : one.entries ≡ other.entries = let e = sym one.is_table ∙ other.is_table in cc in
    let names : Some (string name) ≡ Some (string name') = sym one.name_is ∙ ap (get_member (codes "name")) members ∙ other.name_is in
    let lists : Some (array (items_of columns)) ≡ Some (array (items_of columns')) = sym one.columns_are ∙ ap (get_member (codes "columns")) members ∙ other.columns_are in
    (cc, same_items columns columns' cc)

-- an array without an item is no list of tables
pub no_tables_in : (document : Members) (values : List Value) → get_member (codes "table") document ≡ Some (array (items_of (map view values))) → length values ≡ 0
    → (tables : List Data) → HasTables document tables → ⊥
no_tables_in document values found none tables form =
    let same : map view values ≡ tables = tables_found document (map view values) tables found form in
    let count : length tables ≡ 0 = sym (ap length same) ∙ length-map values view ∙ none in
    omega (arith, form.some, count)

pub tables_in : (document : Members) (values : List Value) → get_member (codes "table") document ≡ Some (array (items_of (map view values))) → (length values ≡ 0 → ⊥)
    → HasOnly (codes "table" ∷ []) document → HasTables document (map view values)
tables_in document values found some only = record {
  tables_are = found;
  no_other = only;
  some = omega (arith, some, length-map values view);
}

pub entries_in : (d : Data) (members : Members) (name : List ℕ) (v : Data) (values : List Value) → as_table d ≡ Some members → get_member (codes "name") members ≡ Some v → as_str v ≡ Some name
    → get_member (codes "columns") members ≡ Some (array (items_of (map view values))) → HasOnly (codes "name" ∷ codes "columns" ∷ []) members → HasEntries d name (map view values)
entries_in d members name v values is_table name_at is_name columns_at only = record {
  entries = members;
  is_table = as_members d members is_table;
  name_is = name_at ∙ ap Some (as_string v name is_name);
  columns_are = columns_at;
  no_other = only;
}
