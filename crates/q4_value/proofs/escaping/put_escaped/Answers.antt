use Rattle.std.proofs.Common.{◌++◌, get_or, refl, ap, ◌∙◌}
use Rattle.q4_value.proofs.Runs.{field_nowhere, escaping_byte}
use Rattle.q4_value.proofs.escaping.put_escaped.Goals as goal

pub put_run-requires-2 : goal.put_run-requires-2
put_run-requires-2 c = field_nowhere c.loop-at.rest.now c.in_default.ensures

pub loop-at-preserved : goal.loop-at-preserved
loop-at-preserved c =
    let rest = c.loop-at.rest.now in
    escaping_byte c.args.text.now rest c.args.out.now c.loop-at.out c.put_run.new.out c.push.new.self c.in-Some.at (get_or rest c.in-Some.at 0) c.loop-at.invariant c.in-Some.ensures.0.high refl c.in_ok-put_run.ensures.put (c.in_ok-push.ensures.pushed ∙ ap (λ x. c.put_run.new.out ++ x) c.escape_of.ensures)
