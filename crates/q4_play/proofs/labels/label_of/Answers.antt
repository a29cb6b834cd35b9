use Rattle.std.proofs.Common.{◌≡◌, ◌∙◌, sym, arith}
use Rattle.std.proofs.lemmas.Fmt.{decimal_injective}
use Rattle.q4_play.proofs.labels.label_of.Goals as goal
use Rattle.q4_play.proofs.labels.label_of.Goals.{else-number-ge1-via-then-number-ge1+else-number-from, else-number-ge1-via-else-number-ge1}

pub returns-else-number-ge1-clause-none : goal.returns-else-number-ge1-clause-none
returns-else-number-ge1-clause-none c = λ label is_label is.
    let same : c.in_ok-number.number ≡ label = decimal_injective c.in_ok-number.number label (omega arith) (omega (arith, is_label)) (sym c.in_ok-number.ensures.found ∙ is) in
    elim c.else-number-ge1.branch [
      | else-number-ge1-via-then-number-ge1+else-number-from w ↦ omega (arith, same, is_label, w.if-number-from.false, w.from.ensures)
      | else-number-ge1-via-else-number-ge1 w ↦ omega (arith, same, is_label, w.if-number-ge1.false)
    ]
