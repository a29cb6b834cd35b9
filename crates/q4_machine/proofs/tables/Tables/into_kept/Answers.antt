use Rattle.std.proofs.Common.{◌∙◌, ap}
use Rattle.q4_machine.specs.Kept.{tables_view, none_kept}
use Rattle.q4_machine.proofs.KeptTables.{none_are_kept}
use Rattle.q4_machine.proofs.tables.Tables.into_kept.Goals as goal

pub returns : goal.returns
returns c =
    let list = c.self.inside.tables.items in
    c.new.ensures ∙ ap (λ ks. record { tables = (tables_view list).tables; kept = ks }) (none_are_kept list c.self.invariant)
    ∙ ap (λ ts. record { tables = ts; kept = none_kept ts }) c.self.view_is
