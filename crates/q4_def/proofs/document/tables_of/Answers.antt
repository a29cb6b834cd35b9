use Rattle.std.proofs.Common.{◌≡◌, Some, None, codes, sym, ap, arith, ◌∙◌}
use Rattle.std.proofs.lemmas.Bool.{eqb-true, eqb-false}
use Rattle.toml.specs.Data.{get_member}
use Rattle.toml.specs.View.{view, table_view, items_view}
use Rattle.toml.proofs.Views.{table_get}
use Rattle.q4_def.proofs.Forms.{no_tables, no_array, as_items, no_tables_in, tables_in}
use Rattle.q4_def.proofs.document.tables_of.Goals as goal

pub returns-in_err-get-clause-none : goal.returns-in_err-get-clause-none
returns-in_err-get-clause-none c =
    let found = table_get c.get.result (codes "table") c.args.document.now.entries c.get.ensures.value in
    let none : get_member (codes "table") (table_view c.args.document.now) ≡ None = sym (rw c.in_err-get.was at found) in
    rw c.from_residual.ensures (no_tables _ none)

pub returns-in_err-tables-clause-none : goal.returns-in_err-tables-clause-none
returns-in_err-tables-clause-none c =
    let found = table_get c.get.result (codes "table") c.args.document.now.entries c.get.ensures.value in
    let some : get_member (codes "table") (table_view c.args.document.now) ≡ Some (view c.in_ok-get.field-0.now) = sym (rw c.in_ok-get.was at found) in
    rw c.from_residual-in_err-tables.ensures (no_array _ _ some (sym (rw c.in_err-tables.was at c.as_array.ensures)))

pub returns-then-is_empty-clause-none : goal.returns-then-is_empty-clause-none
returns-then-is_empty-clause-none c =
    let found = table_get c.get.result (codes "table") c.args.document.now.entries c.get.ensures.value in
    let some : get_member (codes "table") (table_view c.args.document.now) ≡ Some (view c.in_ok-get.field-0.now) = sym (rw c.in_ok-get.was at found) in
    let items = as_items (view c.in_ok-get.field-0.now) (items_view c.in_ok-tables.tables.now.items) (sym (rw c.in_ok-tables.was at c.as_array.ensures)) in
    let none = eqb-true _ _ (sym c.is_empty.ensures ∙ c.if-is_empty.true) in
    no_tables_in _ c.in_ok-tables.tables.now.items (some ∙ ap Some items) (omega (arith, none, c.in_ok-tables.tables.now.ok))

pub returns-clause-tables : goal.returns-clause-tables
returns-clause-tables c =
    let found = table_get c.get.result (codes "table") c.args.document.now.entries c.get.ensures.value in
    let some : get_member (codes "table") (table_view c.args.document.now) ≡ Some (view c.in_ok-get.field-0.now) = sym (rw c.in_ok-get.was at found) in
    let items = as_items (view c.in_ok-get.field-0.now) (items_view c.in_ok-tables.tables.now.items) (sym (rw c.in_ok-tables.was at c.as_array.ensures)) in
    let any = eqb-false _ _ (sym c.is_empty.ensures ∙ c.if-is_empty.false) in
    rw c.as_slice.ensures.value (tables_in _ c.in_ok-tables.tables.now.items (some ∙ ap Some items) (λ none. any (omega (arith, none, c.in_ok-tables.tables.now.ok))) (c.has_only.ensures.0 c.if-not-has_only.false))
