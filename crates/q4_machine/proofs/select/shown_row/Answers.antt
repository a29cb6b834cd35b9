use Rattle.std.proofs.Common.{◌∙◌, [], ◌++◌, ◌∷◌, ap, sym, arith}
use Rattle.q4_machine.proofs.Selecting.{shown_only}
use Rattle.q4_machine.proofs.select.shown_row.Goals as goal

pub returns : goal.returns
returns c =
    let pushed = c.in_ok-push_row.ensures in
    pushed.2 ∙ ap (λ rows. rows ++ record { number = c.args.number; row = pushed.0 } ∷ []) c.new-rows.ensures ∙ sym (shown_only 0 c.args.table.now.state.next c.args.number c.args.most c.args.table.now.state.rows pushed.0 c.requires.valid.numbers pushed.1 (omega (arith, c.if-most-eq0.false)))
