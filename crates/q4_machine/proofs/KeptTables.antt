-- One of a machine's tables is read or changed, and the others keep what they keep.
use Rattle.std.proofs.Common.{◌≡◌, ◌<◌, ◌∙◌, ◌∷◌, [], List, ℕ, Option, None, Result, Ok, Err, IfOk, OnOk, All, map, length, get_or, set, refl, sym, ap, subst}
use Rattle.std.proofs.Math.ListN.{get_or-map}
use Rattle.std.proofs.Math.Seq.{map-set_same}
use Rattle.std.proofs.lemmas.List.{length-map, map-set, get_or_default}
use Rattle.std.proofs.lemmas.List.Elements.{All-head, All-tail}
use Rattle.q4_value.specs.declared.NoMemory.{NoMemory}
use Rattle.q4_value.specs.declared.row.Value.{Value}
use Rattle.q4_cond.specs.Tree.{Tree}
use Rattle.q4_table.specs.declared.adding.Added.{Added}
use Rattle.q4_table.specs.declared.adding.AddFault.{AddFault}
use Rattle.q4_table.specs.Adding.{with_added}
use Rattle.q4_table.specs.Cursors.{Cursor, TableView, with_kept}
use Rattle.q4_table.specs.TableState.{TableState}
use Rattle.q4_machine.specs.declared.tables.Opening.{Opening as NamedTable}
use Rattle.q4_machine.specs.Opening.{Opening, opening_of}
use Rattle.q4_machine.specs.Machine.{no_table, opening_at, table_at}
use Rattle.q4_machine.specs.Kept.{TablesView, tables_view, none_kept, kept_at}
use Rattle.q4_machine.specs.Step.{tables_with}

-- what stands for a table where there is none
abbrev pub no_named : NamedTable
no_named = record { name = []; table = record { state = no_table.table; kept = [] } }

abbrev pub kept_of : NamedTable → List Cursor
kept_of named = named.table.kept

-- There is a table at this place.
pub inside_list : (list : List NamedTable) (place : ℕ) → place < length (tables_view list).tables → place < length list
inside_list list place inside = subst (λ n. place < n) (length-map list opening_of) inside

-- The table that stands at a place, as it was read.
pub record IsAt (list : List NamedTable) (place : ℕ) (named : NamedTable) : Type 0 where
  pub opening : opening_of named ≡ opening_at (tables_view list).tables place
  pub kept : named.table.kept ≡ kept_at (tables_view list).kept place

pub at_place : (list : List NamedTable) (place : ℕ) (named : NamedTable) → place < length list → named ≡ get_or list place named → IsAt list place named
at_place list place named inside is =
    let here : named ≡ get_or list place no_named = is ∙ get_or_default list place named no_named inside in
    record {
      opening = ap opening_of here ∙ sym (get_or-map opening_of list place no_named);
      kept = ap kept_of here ∙ sym (get_or-map kept_of list place no_named);
    }

-- one table is put in the place of another of the same name
abbrev pub renewed : NamedTable → TableView → NamedTable
renewed named view = record { name = named.name; table = view }

pub tables_changed : (list : List NamedTable) (place : ℕ) (named : NamedTable) (view : TableView) → IsAt list place named
    → (tables_view (set list place (renewed named view))).tables ≡ tables_with (tables_view list).tables place view.state
tables_changed list place named view is =
    map-set opening_of list place (renewed named view) ∙ ap (λ (o : Opening). set (map opening_of list) place (record { name = o.name; table = view.state })) is.opening

pub kept_changed : (list : List NamedTable) (place : ℕ) (named : NamedTable) (view : TableView) → (tables_view (set list place (renewed named view))).kept ≡ set (tables_view list).kept place view.kept
kept_changed list place named view = map-set kept_of list place (renewed named view)

-- a table that keeps what it kept
pub kept_same : (list : List NamedTable) (place : ℕ) (named : NamedTable) (view : TableView) → IsAt list place named → view.kept ≡ named.table.kept → (tables_view (set list place (renewed named view))).kept ≡ (tables_view list).kept
kept_same list place named view is same =
    map-set_same kept_of list place (renewed named view) no_named (same ∙ is.kept ∙ get_or-map kept_of list place no_named)

-- a table that is as it was for the rules
pub tables_same : (list : List NamedTable) (place : ℕ) (named : NamedTable) (view : TableView) → IsAt list place named → view.state ≡ named.table.state → (tables_view (set list place (renewed named view))).tables ≡ (tables_view list).tables
tables_same list place named view is same =
    map-set_same opening_of list place (renewed named view) no_named (ap (λ t. record { name = named.name; table = t }) same ∙ is.opening ∙ get_or-map opening_of list place no_named)

-- The rows of a table change, and it keeps what it kept.
pub state_changed : (list : List NamedTable) (place : ℕ) (named : NamedTable) (view : TableView) → IsAt list place named → view.kept ≡ named.table.kept
    → tables_view (set list place (renewed named view)) ≡ record { tables = tables_with (tables_view list).tables place view.state; kept = (tables_view list).kept }
state_changed list place named view is same =
    ap (λ ts. record { tables = ts; kept = (tables_view (set list place (renewed named view))).kept }) (tables_changed list place named view is)
    ∙ ap (λ ks. record { tables = tables_with (tables_view list).tables place view.state; kept = ks }) (kept_same list place named view is same)

-- What a table keeps changes, and the table of the rules is as it was.
pub cursors_changed : (list : List NamedTable) (place : ℕ) (named : NamedTable) (view : TableView) → IsAt list place named → view.state ≡ named.table.state
    → tables_view (set list place (renewed named view)) ≡ record { tables = (tables_view list).tables; kept = set (tables_view list).kept place view.kept }
cursors_changed list place named view is same =
    ap (λ ts. record { tables = ts; kept = (tables_view (set list place (renewed named view))).kept }) (tables_same list place named view is same)
    ∙ ap (λ ks. record { tables = (tables_view list).tables; kept = ks }) (kept_changed list place named view)

-- Both change.
pub both_changed : (list : List NamedTable) (place : ℕ) (named : NamedTable) (view : TableView) → IsAt list place named
    → tables_view (set list place (renewed named view)) ≡ record { tables = tables_with (tables_view list).tables place view.state; kept = set (tables_view list).kept place view.kept }
both_changed list place named view is =
    ap (λ ts. record { tables = ts; kept = (tables_view (set list place (renewed named view))).kept }) (tables_changed list place named view is)
    ∙ ap (λ ks. record { tables = tables_with (tables_view list).tables place view.state; kept = ks }) (kept_changed list place named view)

-- ## As the code reads and changes a table

-- The table that stands at a place was read, of tables that contracts see so.
pub record IsRead (list : List NamedTable) (v : TablesView) (place : ℕ) (named : NamedTable) : Type 0 where
  pub at : IsAt list place named
  pub view : tables_view list ≡ v
  pub state : named.table.state ≡ table_at v.tables place
  pub kept : named.table.kept ≡ kept_at v.kept place

pub read_at : (list : List NamedTable) (v : TablesView) (place : ℕ) (named : NamedTable) → tables_view list ≡ v → place < length v.tables → named ≡ get_or list place named → IsRead list v place named
read_at list v place named view inside is =
    let at = at_place list place named (inside_list list place (subst (λ (x : TablesView). place < length x.tables) (sym view) inside)) is in
    record {
      at = at;
      view = view;
      state = ap (λ (o : Opening). o.table) at.opening ∙ ap (λ (x : TablesView). table_at x.tables place) view;
      kept = at.kept ∙ ap (λ (x : TablesView). kept_at x.kept place) view;
    }

-- the table of the rules changes, and it keeps what it kept
pub with_state : (list : List NamedTable) (v : TablesView) (place : ℕ) (named : NamedTable) (view : TableView) (change : TableState → TableState) → IsRead list v place named
    → view ≡ record { state = change named.table.state; kept = named.table.kept }
    → tables_view (set list place (renewed named view)) ≡ record { tables = tables_with v.tables place (change (table_at v.tables place)); kept = v.kept }
with_state list v place named view change read is =
    state_changed list place named view read.at (ap (λ (x : TableView). x.kept) is)
    ∙ ap (λ (x : TablesView). record { tables = tables_with x.tables place view.state; kept = x.kept }) read.view
    ∙ ap (λ t. record { tables = tables_with v.tables place t; kept = v.kept }) (ap (λ (x : TableView). x.state) is ∙ ap change read.state)

-- the table at the place takes a row
pub with_row : (list : List NamedTable) (v : TablesView) (place : ℕ) (named : NamedTable) (view : TableView) (row : List Value) (result : Result Added (AddFault × List Value)) → IsRead list v place named
    → IfOk result (λ a. view ≡ record { state = with_added named.table.state row None a; kept = named.table.kept })
    → IfOk result (λ a. tables_view (set list place (renewed named view)) ≡ record { tables = tables_with v.tables place (with_added (table_at v.tables place) row None a); kept = v.kept })
with_row list v place named view row (Ok a) read is = with_state list v place named view (λ t. with_added t row None a) read is
with_row list v place named view row (Err f) read is = tt

-- what the table keeps changes
pub with_cursors : (list : List NamedTable) (v : TablesView) (place : ℕ) (named : NamedTable) (view : TableView) (change : TableState → List Cursor → List Cursor) → IsRead list v place named
    → view ≡ record { state = named.table.state; kept = change named.table.state named.table.kept }
    → tables_view (set list place (renewed named view)) ≡ record { tables = v.tables; kept = set v.kept place (change (table_at v.tables place) (kept_at v.kept place)) }
with_cursors list v place named view change read is =
    cursors_changed list place named view read.at (ap (λ (x : TableView). x.state) is)
    ∙ ap (λ (x : TablesView). record { tables = x.tables; kept = set x.kept place view.kept }) read.view
    ∙ ap (λ ks. record { tables = v.tables; kept = set v.kept place ks }) (ap (λ (x : TableView). x.kept) is ∙ ap (λ t. change t named.table.kept) read.state ∙ ap (change (table_at v.tables place)) read.kept)

-- the table at the place keeps a condition
pub with_condition : (list : List NamedTable) (v : TablesView) (place : ℕ) (named : NamedTable) (view : TableView) (tree : Option Tree) (result : Result (Unit {0}) NoMemory) → IsRead list v place named
    → OnOk result (view ≡ record { state = named.table.state; kept = with_kept tree named.table.kept })
    → OnOk result (tables_view (set list place (renewed named view)) ≡ record { tables = v.tables; kept = set v.kept place (with_kept tree (kept_at v.kept place)) })
with_condition list v place named view tree (Ok done) read is = with_cursors list v place named view (λ t kept. with_kept tree kept) read is
with_condition list v place named view tree (Err f) read is = tt

-- both change
pub with_both : (list : List NamedTable) (v : TablesView) (place : ℕ) (named : NamedTable) (view : TableView) (change : TableState → TableState) (lower : List Cursor → List Cursor) → IsRead list v place named
    → view ≡ record { state = change named.table.state; kept = lower named.table.kept }
    → tables_view (set list place (renewed named view)) ≡ record { tables = tables_with v.tables place (change (table_at v.tables place)); kept = set v.kept place (lower (kept_at v.kept place)) }
with_both list v place named view change lower read is =
    both_changed list place named view read.at
    ∙ ap (λ (x : TablesView). record { tables = tables_with x.tables place view.state; kept = set x.kept place view.kept }) read.view
    ∙ ap (λ t. record { tables = tables_with v.tables place t; kept = set v.kept place view.kept }) (ap (λ (x : TableView). x.state) is ∙ ap change read.state)
    ∙ ap (λ ks. record { tables = tables_with v.tables place (change (table_at v.tables place)); kept = set v.kept place ks }) (ap (λ (x : TableView). x.kept) is ∙ ap lower read.kept)

-- nothing changes
pub with_same : (list : List NamedTable) (v : TablesView) (place : ℕ) (named : NamedTable) (view : TableView) → IsRead list v place named → view ≡ named.table → tables_view (set list place (renewed named view)) ≡ v
with_same list v place named view read is =
    ap (λ ts. record { tables = ts; kept = (tables_view (set list place (renewed named view))).kept }) (tables_same list place named view read.at (ap (λ (x : TableView). x.state) is))
    ∙ ap (λ ks. record { tables = (tables_view list).tables; kept = ks }) (kept_same list place named view read.at (ap (λ (x : TableView). x.kept) is))
    ∙ read.view

-- Tables that keep nothing.
pub none_are_kept : (list : List NamedTable) → All (λ (named : NamedTable). named.table.kept ≡ []) list → (tables_view list).kept ≡ none_kept (tables_view list).tables
none_are_kept [] none = refl
none_are_kept (named ∷ list) none =
    ap (λ ks. ks ∷ (tables_view list).kept) (All-head (λ (n : NamedTable). n.table.kept ≡ []) named list none)
    ∙ ap (λ ks. [] ∷ ks) (none_are_kept list (All-tail (λ (n : NamedTable). n.table.kept ≡ []) named list none))
