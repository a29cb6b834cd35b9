use Rattle.std.proofs.Common.{◌∙◌, find, refl, sym, ap, length, arith}
use Rattle.std.specs.Option.{option_map}
use Rattle.std.specs.Map.{values_of}
use Rattle.q4_table.specs.Adding.{number_limit}
use Rattle.q4_table.specs.Oldest.{is_free}
use Rattle.q4_table.specs.Rows.{rows_from}
use Rattle.q4_table.specs.Searching.{asked}
use Rattle.q4_table.proofs.Changes.{number}
use Rattle.q4_table.proofs.Entries.{values-from}
use Rattle.q4_table.proofs.Rising.{least_found, rise-filter}
use Rattle.q4_table.proofs.Searching.{asked-unowned, unowned-from, all_from}
use Rattle.q4_table.proofs.rows.Rows.oldest.Goals as goal

pub returns-clause-oldest : goal.returns-clause-oldest
returns-clause-oldest g c =
    let rows = values_of c.self.inside.rows.entries in
    let rise = rise-filter number _ 0 number_limit rows c.self.invariant.rise in
    rw (c.first_free.ensures.found, ← c.self.view_is)
    (ap (λ rs. option_map number (find (is_free c.args.cond.now.tree) rs)) (values-from c.args.from c.self.inside.rows.entries c.self.invariant.keyed)
    ∙ sym (least_found number (is_free c.args.cond.now.tree) 0 number_limit (rows_from c.args.from rows) rise))

pub returns-clause-asked : goal.returns-clause-asked
returns-clause-asked g c =
    let rows = values_of c.self.inside.rows.entries in
    let tree = c.args.cond.now.tree in
    let same = values-from c.args.from c.self.inside.rows.entries c.self.invariant.keyed in
    let some = find (is_free tree) (rows_from c.args.from rows) in
    let few = asked-unowned tree c.args.from 0 number_limit (rows_from c.args.from rows) some (all_from c.args.from rows) (rise-filter number _ 0 number_limit rows c.self.invariant.rise) refl in
    let all = ap length (unowned-from c.args.from (option_map number some) rows) in
    rw (c.first_free.ensures.found, same, ← c.self.view_is) (omega (arith, few, all, ap (asked tree) same, c.first_free.ensures.asked))
