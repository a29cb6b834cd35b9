use Rattle.std.proofs.Common.{◌≡◌, ◌++◌, ◌+◌, take, get_or, sym, ap, subst, ◌∙◌}
use Rattle.std.specs.List.{All}
use Rattle.std.proofs.lemmas.Bool.{eqb-true}
use Rattle.std.proofs.lemmas.Result.{on_ok_weaker}
use Rattle.std.proofs.lemmas.List.{take_rest}
use Rattle.std.proofs.lemmas.List.Elements.{All-take, All-drop}
use Rattle.q4_value.specs.Escape.{IsFieldByte, escaped}
use Rattle.q4_value.proofs.Runs.{plain, plain_before, plain_nowhere, escaping_byte, escaping_ends}
use Rattle.q4_value.proofs.escaping.put_run.Goals as goal

pub loop-at-preserved : goal.loop-at-preserved
loop-at-preserved c =
    let found = c.in-Some.ensures in
    let inv = c.loop-at.invariant in
    let at = c.in-Some.at in
    let rest = c.loop-at.rest.now in
    let same : escaped (take at rest) ≡ take at rest = plain (take at rest) (All-take IsFieldByte at rest inv.1) (plain_before rest at found.0.before) in (
      escaping_byte c.args.run.now rest c.args.out.now c.loop-at.out c.push.new.self c.push-in-Some.new.self at 92 inv.0 found.0.high (eqb-true (get_or rest at 0) 92 found.1) (c.in_ok-push.ensures.pushed ∙ ap (λ x. c.loop-at.out ++ x) (sym same)) (c.in_ok-push-2.ensures.pushed ∙ ap (λ x. c.push.new.self ++ x) c.escape_of.ensures),
      subst (All IsFieldByte) (sym (take_rest rest (at + 1))) (All-drop IsFieldByte (at + 1) rest inv.1),
    )

pub returns-clause-put : goal.returns-clause-put
returns-clause-put c =
    let rest = c.loop-at.rest.now in
    let same : escaped rest ≡ rest = plain rest c.loop-at.invariant.1 (plain_nowhere rest c.in_default.ensures) in
    on_ok_weaker c.push-2.result (λ pushed. escaping_ends c.args.run.now rest c.args.out.now c.loop-at.out c.push-2.new.self c.loop-at.invariant.0 (pushed ∙ ap (λ x. c.loop-at.out ++ x) (sym same))) c.push-2.ensures.pushed
