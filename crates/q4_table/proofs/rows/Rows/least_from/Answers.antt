use Rattle.std.proofs.Common.{◌∙◌, ap, sym}
use Rattle.std.specs.Map.{keys_of}
use Rattle.q4_table.proofs.Entries.{least-first}
use Rattle.q4_table.proofs.Rising.{first}
use Rattle.q4_table.proofs.rows.Rows.least_from.Goals as goal

pub returns-in_err-least : goal.returns-in_err-least
returns-in_err-least c =
    let between = c.range.ensures.between tt in
    rw (c.from_residual.ensures, ← c.self.view_is) (sym (least-first c.args.number c.self.inside.rows.entries c.self.invariant ∙ ap (λ es. first (keys_of es)) (sym between ∙ c.in_err-least.ensures.steps.0)))

pub returns : goal.returns
returns c =
    let between = c.range.ensures.between tt in
    rw (← c.self.view_is) (sym (least-first c.args.number c.self.inside.rows.entries c.self.invariant ∙ ap (λ es. first (keys_of es)) (sym between ∙ c.in_ok-least.ensures.steps)))
