use Rattle.std.proofs.Common.{◌≡◌, Some, codes, sym, ap, ◌∙◌}
use Rattle.toml.specs.Data.{get_member, array, as_table}
use Rattle.toml.specs.View.{view, table_view, items_view}
use Rattle.toml.proofs.Views.{table_get}
use Rattle.q4_def.proofs.Forms.{no_name, no_string, no_columns, no_list, as_items, entries_in}
use Rattle.q4_def.proofs.document.entries_of.Goals as goal

pub returns-in_err-get-clause-none : goal.returns-in_err-get-clause-none
returns-in_err-get-clause-none c =
    let members : as_table (view c.args.member.now) ≡ Some (table_view c.in_ok-entries.entries.now) = sym (rw c.in_ok-entries.was at c.as_table.ensures) in
    let found = table_get c.get.result (codes "name") c.in_ok-entries.entries.now.entries c.get.ensures.value in
    rw c.from_residual-in_err-get.ensures (no_name _ _ members (sym (rw c.in_err-get.was at found)))

pub returns-in_err-name-clause-none : goal.returns-in_err-name-clause-none
returns-in_err-name-clause-none c =
    let members : as_table (view c.args.member.now) ≡ Some (table_view c.in_ok-entries.entries.now) = sym (rw c.in_ok-entries.was at c.as_table.ensures) in
    let found = table_get c.get.result (codes "name") c.in_ok-entries.entries.now.entries c.get.ensures.value in
    rw c.from_residual-in_err-name.ensures (no_string _ _ (view c.in_ok-get.field-0.now) members (sym (rw c.in_ok-get.was at found)) (sym (rw c.in_err-name.was at c.as_str.ensures)))

pub returns-in_err-get-2-clause-none : goal.returns-in_err-get-2-clause-none
returns-in_err-get-2-clause-none c =
    let members : as_table (view c.args.member.now) ≡ Some (table_view c.in_ok-entries.entries.now) = sym (rw c.in_ok-entries.was at c.as_table.ensures) in
    let found = table_get c.get-2.result (codes "columns") c.in_ok-entries.entries.now.entries c.get-2.ensures.value in
    rw c.from_residual-in_err-get-2.ensures (no_columns _ _ members (sym (rw c.in_err-get-2.was at found)))

pub returns-in_err-columns-clause-none : goal.returns-in_err-columns-clause-none
returns-in_err-columns-clause-none c =
    let members : as_table (view c.args.member.now) ≡ Some (table_view c.in_ok-entries.entries.now) = sym (rw c.in_ok-entries.was at c.as_table.ensures) in
    let found = table_get c.get-2.result (codes "columns") c.in_ok-entries.entries.now.entries c.get-2.ensures.value in
    rw c.from_residual-in_err-columns.ensures (no_list _ _ (view c.in_ok-get-2.field-0.now) members (sym (rw c.in_ok-get-2.was at found)) (sym (rw c.in_err-columns.was at c.as_array.ensures)))

pub returns-clause-entries : goal.returns-clause-entries
returns-clause-entries c =
    let members : as_table (view c.args.member.now) ≡ Some (table_view c.in_ok-entries.entries.now) = sym (rw c.in_ok-entries.was at c.as_table.ensures) in
    let name = table_get c.get.result (codes "name") c.in_ok-entries.entries.now.entries c.get.ensures.value in
    let columns = table_get c.get-2.result (codes "columns") c.in_ok-entries.entries.now.entries c.get-2.ensures.value in
    let items = as_items (view c.in_ok-get-2.field-0.now) (items_view c.in_ok-columns.columns.now.items) (sym (rw c.in_ok-columns.was at c.as_array.ensures)) in
    let array_at : get_member (codes "columns") (table_view c.in_ok-entries.entries.now) ≡ Some (array (items_view c.in_ok-columns.columns.now.items)) = sym (rw c.in_ok-get-2.was at columns) ∙ ap Some items in
    rw c.as_slice.ensures.value (entries_in _ _ c.in_ok-name.name.now (view c.in_ok-get.field-0.now) c.in_ok-columns.columns.now.items members (sym (rw c.in_ok-get.was at name)) (sym (rw c.in_ok-name.was at c.as_str.ensures)) array_at (c.has_only.ensures.0 c.if-not-has_only.false))
