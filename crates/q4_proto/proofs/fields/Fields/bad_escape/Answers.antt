use Rattle.std.proofs.Common.{◌++◌, ◌∷◌, ◌∙◌, [], All, append-nil, ap, sym, subst, arith}
use Rattle.std.proofs.lemmas.List.{length-append}
use Rattle.std.proofs.lemmas.List.Elements.{All-push}
use Rattle.q4_proto.specs.Fields.{IsSpelled}
use Rattle.q4_proto.proofs.Values.{moved}
use Rattle.q4_proto.proofs.fields.Fields.bad_escape.Goals as goal

pub loop-field-preserved : goal.loop-field-preserved
loop-field-preserved c =
    let inv = c.loop-field.invariant in
    (inv.0 ++ c.in-Some.field.now ∷ [], moved c.args.self.now inv.0 c.loop-field.rest c.next.new.self c.in-Some.field.now inv.1 c.in-Some.ensures.some, omega (arith, length-append inv.0 (c.in-Some.field.now ∷ []), inv.2), All-push IsSpelled inv.0 c.in-Some.field.now inv.3 c.if-not-is_escaped.ensures.spelled)

pub returns-clause-none : goal.returns-clause-none
returns-clause-none c =
    let inv = c.loop-field.invariant in
    subst (All IsSpelled) (sym (inv.1 ∙ ap (λ r. inv.0 ++ r) c.in_default.ensures.none.0 ∙ append-nil inv.0)) inv.3
