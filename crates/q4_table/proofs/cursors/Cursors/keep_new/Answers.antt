use Rattle.std.proofs.Common.{◌≡◌, ◌∙◌, ◌∷◌, List, sym, ap, take, cond, Bool}
use Rattle.std.specs.List.{insert}
use Rattle.q4_table.specs.Cursors.{Cursor, kept_limit}
use Rattle.q4_table.proofs.Keeping.{kept-new}
use Rattle.q4_table.proofs.Marking.{is_ok_of}
use Rattle.q4_table.proofs.cursors.Cursors.keep_new.Goals as goal

pub returns-clause-kept : goal.returns-clause-kept
returns-clause-kept c =
    let front : Cursor = record { tree = c.in_ok-cond.cond.tree; from = 1 } in
    let inserted = ap (λ (b : Bool). cond b (insert c.self.inside.list.items 0 front) c.self.inside.list.items) (is_ok_of c.insert.result (sym c.is_err.ensures.value ∙ c.if-is_err.false)) in
    let same : front ≡ record { tree = c.args.cond.now.tree; from = 1 } = ap (λ (d : Rattle.q4_cond.specs.Condition.Condition). record { tree = d.tree; from = 1 }) c.in_ok-cond.ensures in
    c.truncate.ensures.items
    ∙ (ap (take kept_limit) (c.insert.ensures.items ∙ inserted)
    ∙ (ap (λ (d : Cursor). take kept_limit (d ∷ c.self.inside.list.items)) same
    ∙ (ap (λ (cs : List Cursor). take kept_limit (record { tree = c.args.cond.now.tree; from = 1 } ∷ cs)) c.self.view_is ∙ kept-new c.args.cond.now.tree c.args.self.now c.requires)))
