use Rattle.std.proofs.Common.{◌∙◌}
use Rattle.q4_cond.proofs.Lexing.{text_goes_plain, text_goes_doubled, text_goes_quote}
use Rattle.q4_cond.proofs.token.text_front.Goals as goal
use Rattle.q4_cond.proofs.token.text_front.Goals.{then-byte-ne39+else-closed+in_ok-push, else-byte-ne39, then-closed-2+in_ok-push-2, else-closed-2}

pub loop-i-preserved : goal.loop-i-preserved
loop-i-preserved c =
    let text = c.loop-i.text in
    let rest = c.args.rest.now in
    let i = c.loop-i.i in
    elim c.if-byte-ne39.branch [
      | then-byte-ne39+else-closed+in_ok-push w ↦
          text_goes_plain text _ rest i c.loop-i.closed _ c.loop-i-test.true w.if-byte-ne39.true w.if-closed.false w.closed-is (w.text-is ∙ w.in_ok-push.ensures.pushed) c.loop-i.invariant
      | else-byte-ne39 w ↦
          elim w.if-closed-2.branch [
            | then-closed-2+in_ok-push-2 w' ↦
                text_goes_doubled text _ rest i c.loop-i.closed _ c.loop-i-test.true w.if-byte-ne39.false w'.if-closed-2.true w.closed-is (w.text-is ∙ (w'.text-is ∙ w'.in_ok-push-2.ensures.pushed)) c.loop-i.invariant
            | else-closed-2 w' ↦
                text_goes_quote text _ rest i c.loop-i.closed _ c.loop-i-test.true w.if-byte-ne39.false w'.if-closed-2.false w.closed-is (w.text-is ∙ w'.text-is) c.loop-i.invariant
          ]
    ]
