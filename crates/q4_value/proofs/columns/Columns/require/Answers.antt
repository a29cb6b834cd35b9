use Rattle.std.proofs.Common.{◌≡◌, Some, length, sym, ap, subst, ◌∙◌, slice_get, slice_set, false, arith}
use Rattle.std.proofs.lemmas.Option.{slice_get-get_or}
use Rattle.q4_value.specs.Row.{AreWider}
use Rattle.q4_value.proofs.Wider.{wider-set}
use Rattle.q4_value.proofs.columns.Columns.require.Goals as goal

pub returns-clause-narrower : goal.returns-clause-narrower
returns-clause-narrower c =
    let columns = c.self.inside.columns.items in
    let column = c.index_mut.result.now in
    let at : slice_get columns c.args.place ≡ Some column = slice_get-get_or columns c.args.place column (omega (arith, c.requires, ap length c.self.view_is)) ∙ ap Some (sym c.index_mut.ensures.value) in
    subst (λ cs. AreWider cs (slice_set columns c.args.place (record column { optional = false }))) c.self.view_is (wider-set columns c.args.place column at)
