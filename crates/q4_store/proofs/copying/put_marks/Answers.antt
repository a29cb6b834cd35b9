use Rattle.std.proofs.Common.{◌≡◌, ◌+◌, sym, subst, arith}
use Rattle.q4_store.proofs.MarksPut.{PutSoFar, none_put, one_put, nothing_put, marks_put}
use Rattle.q4_store.proofs.copying.put_marks.Goals as goal
use Rattle.q4_store.proofs.copying.put_marks.Goals.{then-number-gt0+in_ok-put_mark, else-number-gt0}

pub loop-source-init : goal.loop-source-init
loop-source-init c = none_put c.args.table.now.state.marks c.args.out.now

pub loop-source-preserved : goal.loop-source-preserved
loop-source-preserved c =
    let ms = c.args.table.now.state.marks in
    let valid = c.tables_are_valid.ensures.table.marks in
    elim c.if-number-gt0.branch [
      | then-number-gt0+in_ok-put_mark w ↦ subst (PutSoFar ms (c.loop-source.source + 1) c.args.out.now) (sym w.out-is) (one_put ms c.loop-source.source c.mark-number.result c.args.out.now c.loop-source.out w.put_mark.new.out valid.rise valid.each c.mark-number.ensures w.if-number-gt0.true c.loop-source.invariant w.in_ok-put_mark.ensures.put)
      | else-number-gt0 w ↦ subst (PutSoFar ms (c.loop-source.source + 1) c.args.out.now) (sym w.out-is) (nothing_put ms c.loop-source.source c.mark-number.result c.args.out.now c.loop-source.out valid.rise valid.each c.mark-number.ensures w.if-number-gt0.false c.loop-source.invariant)
    ]

pub returns : goal.returns
returns c =
    let ms = c.args.table.now.state.marks in
    let last : c.loop-source.source ≡ 64 = let from = c.loop-source-test.false in let to = c.loop-source.auto.source-end in omega (arith, from, to) in
    marks_put ms c.args.out.now c.loop-source.out c.tables_are_valid.ensures.table.marks.each (subst (λ n. PutSoFar ms n c.args.out.now c.loop-source.out) last c.loop-source.invariant)
